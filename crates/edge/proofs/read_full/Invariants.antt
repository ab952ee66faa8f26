-- `edge::read_full` meets its contract: no more bytes are read than buf has, and what comes of going on comes of the whole.
use Rattle.std.proofs.Common.{length, ◌-◌, ◌≡◌, ◌≤◌}
use Rattle.std.specs.declared.io.Error.{Error}
use Rattle.edge.specs.inside.Going.{GoesOn}
use Rattle.edge.specs.Filling.{Promised}
use Rattle.edge.proofs.read_full.Given as goal

abbrev pub invariant-loop-done : goal.invariant-loop-done
invariant-loop-done g l =
    (length l.buf ≡ length l.initial.buf) × (l.done ≤ length l.buf)
    × GoesOn {E = Error} (Promised g.R.Read.remaining) l.initial.input l.initial.buf l.input l.buf l.done

abbrev pub decreases-loop-done : goal.decreases-loop-done
decreases-loop-done g l = length l.buf - l.done
