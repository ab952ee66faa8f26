-- `desk::clauses::replay_rows` meets its contract: all rows so far pass, the columns are where they bring the seats, and the tally is less by them.
use mathlib.Core.Bool.{true}
use mathlib.Core.Path.{◌≡◌}
use Rattle.desk.specs.Below.{all_below}
use Rattle.desk.specs.inside.Clauses.{Tracks}
use Rattle.desk.specs.inside.Counted.{row_passes, Leaves}
use Rattle.desk.proofs.clauses.replay_rows.Given as goal

abbrev pub invariant-loop-i : goal.invariant-loop-i
invariant-loop-i l = record {
  keys : l.reached.keys ≡ l.initial.reached.keys;
  passed : all_below l.i (row_passes l.initial.reached.keys l.initial.left l.cells l.marks) ≡ true;
  tracks : Tracks l.cells l.marks l.i l.reached.held l.reached.ended;
  leaves : Leaves l.initial.left l.cells l.i l.left;
}
