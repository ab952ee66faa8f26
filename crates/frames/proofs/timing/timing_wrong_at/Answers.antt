-- `frames::timing::timing_wrong_at` meets its contract.
use Rattle.frames.specs.inside.Timing.{seen_raw}
use Rattle.frames.proofs.timing.timing_wrong_at.Goals as goal

pub returns-in-Raw : goal.returns-in-Raw
unfolding seen_raw
returns-in-Raw c = rw (c.wrong.ensures, c.read.ensures, c.in-Raw.is, c.spare_wrong-rest.ensures, c.spare_at.ensures)
