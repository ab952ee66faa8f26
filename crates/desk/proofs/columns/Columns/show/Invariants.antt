-- `desk::columns::Columns::show` meets its contract.
use Prim.Native.Nat.{ℕ, ◌<◌}
use mathlib.Core.Bool.{true}
use mathlib.Core.Path.{◌≡◌}
use Rattle.desk.specs.Below.{all_below}
use Rattle.desk.specs.Seats.{seat_at}
use Rattle.desk.specs.inside.Columns.{row_of}
use Rattle.desk.specs.inside.Clauses.{seat_good_at}
use Rattle.desk.proofs.columns.Columns.show.Given as goal

abbrev pub invariant-loop-i : goal.invariant-loop-i
invariant-loop-i l = record {
  good : all_below l.i (seat_good_at l.row l.bits) ≡ true;
  shown : (j : ℕ) → j < l.i → seat_at (row_of l.self.keys l.self.held l.self.ended) j ≡ seat_at l.row j;
}
