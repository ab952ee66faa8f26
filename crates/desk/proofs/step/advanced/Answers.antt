-- `desk::step::advanced` meets its contract.
use Rattle.desk.proofs.step.advanced.Goals as goal

pub returns : goal.returns
returns c = rw c.ended_by.ensures
