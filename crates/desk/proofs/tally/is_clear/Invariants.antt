-- `desk::tally::is_clear` meets its contract.
use mathlib.Core.Path.{◌≡◌}
use lib.Dec.{eqb}
use Rattle.desk.specs.Below.{all_below}
use Rattle.desk.specs.inside.Counted.{row_clear}
use Rattle.desk.proofs.tally.is_clear.Given as goal

abbrev pub invariant-loop-row : goal.invariant-loop-row
invariant-loop-row l = eqb l.any 0 ≡ all_below l.row-index (row_clear l.tally)
