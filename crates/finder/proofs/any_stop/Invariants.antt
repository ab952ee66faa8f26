-- `finder::any_stop` meets its contract: while `any` is false, none of the bytes passed is a stop.
use mathlib.Core.Bool.{false}
use mathlib.Core.Path.{◌≡◌}
use Rattle.finder.specs.inside.Quiet.{Quiet}
use Rattle.finder.proofs.any_stop.Given as goal

abbrev pub invariant-loop-i : goal.invariant-loop-i
invariant-loop-i l = l.any ≡ false → Quiet l.block l.also 0 l.i
