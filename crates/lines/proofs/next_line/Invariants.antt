-- `lines::next_line` meets its contract: the line ends where the line from the byte at i on ends.
use Prim.Native.Nat.{◌≤◌, max}
use mathlib.Core.Path.{◌≡◌}
use lib.ListN.{length}
use Rattle.lines.specs.Places.{line_at}
use Rattle.lines.proofs.PlaceLaws.{begun_at}
use Rattle.lines.proofs.next_line.Given as goal

abbrev pub invariant-loop-i : goal.invariant-loop-i
invariant-loop-i l = (l.i ≤ max l.at (length l.s)) × (line_at l.s l.at ≡ begun_at l.at (line_at l.s l.i))
