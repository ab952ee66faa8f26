-- `digits::put_number` meets its contract: each turn is one step of `put_from`.
use mathlib.Core.Path.{◌≡◌}
use Rattle.digits.proofs.Writing.{put_from}
use Rattle.digits.proofs.put_number.Given as goal

abbrev pub invariant-loop-k : goal.invariant-loop-k
invariant-loop-k l = put_from l.initial.out l.at l.fn.width l.n ≡ put_from l.out l.at l.k l.m
