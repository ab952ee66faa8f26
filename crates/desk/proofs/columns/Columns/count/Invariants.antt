-- `desk::columns::Columns::count` meets its contract.
use Prim.Native.Nat.{◌≤◌}
use mathlib.Core.Path.{◌≡◌}
use Rattle.desk.specs.Below.{count_below}
use Rattle.desk.specs.inside.Columns.{key_is}
use Rattle.desk.proofs.columns.Columns.count.Given as goal

abbrev pub invariant-loop-k : goal.invariant-loop-k
invariant-loop-k l = (l.n ≤ l.k-index) × (l.n ≡ count_below l.k-index (key_is l.self.keys l.key))
