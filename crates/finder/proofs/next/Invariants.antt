-- `finder::next` meets its contract: no frame begins at the bytes that were passed.
use mathlib.Core.Path.{◌≡◌}
use Rattle.finder.specs.Pieces.{found_from}
use Rattle.finder.proofs.next.Given as goal

abbrev pub invariant-loop-i : goal.invariant-loop-i
invariant-loop-i l = found_from l.s l.fn.from.at ≡ found_from l.s l.i
