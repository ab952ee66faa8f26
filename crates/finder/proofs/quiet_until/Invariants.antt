-- `finder::quiet_until` meets its contract: the blocks passed are quiet.
use Prim.Native.Nat.{◌-◌}
use lib.ListN.{length}
use Rattle.finder.specs.inside.Quiet.{Quiet}
use Rattle.finder.proofs.quiet_until.Given as goal

abbrev pub invariant-loop-i : goal.invariant-loop-i
invariant-loop-i l = Quiet l.s l.also l.from l.i

abbrev pub decreases-loop-i : goal.decreases-loop-i
decreases-loop-i l = length l.s - l.i
