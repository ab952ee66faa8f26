-- `digits::put_all` meets its contract: each turn adds one item to the run.
use Rattle.std.proofs.Common.{◌≡◌}
use lib.ListN.{take}
use lib.Seq.{sets}
use Rattle.digits.proofs.put_all.Given as goal

abbrev pub invariant-loop-i : goal.invariant-loop-i
invariant-loop-i g l = l.out ≡ sets l.initial.out l.at (take l.i l.items)
