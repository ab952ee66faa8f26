-- `text::width_of` meets its contract: each turn counts one digit.
use Rattle.text.proofs.DecimalLaws.{Counted}
use Rattle.text.proofs.width_of.Given as goal

abbrev pub invariant-loop-m : goal.invariant-loop-m
invariant-loop-m l = Counted l.n l.m l.w

abbrev pub decreases-loop-m : goal.decreases-loop-m
decreases-loop-m l = l.m
