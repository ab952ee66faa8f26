-- `desk::held::next_held` meets its contract.
use lib.ListN.{length}
use Rattle.desk.specs.Below.{first}
use Rattle.desk.specs.Calls.{held_from}
use mathlib.Core.Path.{◌≡◌}
use Prim.Native.Nat.{◌≤◌}
use Rattle.desk.proofs.held.next_held.Given as goal

abbrev pub invariant-loop-i : goal.invariant-loop-i
invariant-loop-i l = (l.limit ≤ length l.marks) × (first l.i (held_from l.marks l.seat l.from) ≡ l.i)
