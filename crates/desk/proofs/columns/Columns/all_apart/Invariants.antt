-- `desk::columns::Columns::all_apart` meets its contract.
use mathlib.Core.Bool.{true}
use mathlib.Core.Path.{◌≡◌}
use Rattle.desk.specs.Below.{all_below}
use Rattle.desk.specs.inside.Columns.{alone}
use Rattle.desk.proofs.columns.Columns.all_apart.Given as goal

abbrev pub invariant-loop-key : goal.invariant-loop-key
invariant-loop-key l = all_below l.key-index (alone l.self.keys) ≡ true
