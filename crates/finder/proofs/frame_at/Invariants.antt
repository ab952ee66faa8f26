-- `finder::frame_at` meets its contract: the answer is the same, seen from each byte that was passed.
use Prim.Native.Nat.{◌≤◌, ◌<◌}
use mathlib.Core.Path.{◌≡◌}
use lib.ListN.{length}
use Rattle.finder.specs.Pieces.{found_from}
use Rattle.finder.proofs.Search.{answer_at}
use Rattle.finder.proofs.frame_at.Given as goal

abbrev pub invariant-loop-i : goal.invariant-loop-i
invariant-loop-i l = (l.start < l.i) × (l.i ≤ length l.s) × (found_from l.s l.start ≡ answer_at l.s l.start l.i)
