-- `desk::capture::take_capture` meets its contract.
use Prim.Native.Nat.{◌-◌, ◌≤◌}
use mathlib.Core.Path.{◌≡◌}
use lib.ListN.{length}
use Rattle.desk.specs.Memory.{memory}
use Rattle.desk.specs.inside.Shown.{shown}
use Rattle.desk.proofs.CaptureLaws.{Going}
use Rattle.desk.proofs.capture.take_capture.Given as goal

abbrev pub invariant-loop-found : goal.invariant-loop-found
invariant-loop-found l =
    Going (memory l.initial.desk (shown l.initial.columns) l.initial.cells l.initial.marks l.initial.tally) l.capture l.at (memory l.desk (shown l.columns) l.cells l.marks l.tally) l.counts
    × ((l.at ≤ length l.capture) × ((length l.cells ≡ length l.initial.cells) × (length l.marks ≡ length l.initial.marks)))

abbrev pub decreases-loop-found : goal.decreases-loop-found
decreases-loop-found l = length l.capture - l.at
