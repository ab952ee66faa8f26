-- `desk::columns::Columns::row` meets its contract.
use Prim.Native.Nat.{ℕ, ◌<◌}
use mathlib.Core.Path.{◌≡◌}
use lib.ListN.{length}
use Rattle.desk.specs.Limits.{seat_count}
use Rattle.desk.specs.Seats.{seat_at}
use Rattle.desk.specs.inside.Columns.{row_of}
use Rattle.desk.proofs.columns.Columns.row.Given as goal

abbrev pub invariant-loop-i : goal.invariant-loop-i
invariant-loop-i l = (length l.row ≡ seat_count) × ((j : ℕ) → j < l.i → seat_at l.row j ≡ seat_at (row_of l.self.keys l.self.held l.self.ended) j)
