-- `desk::opening::open` meets its contract.
use Rattle.desk.proofs.opening.open.Goals as goal

pub returns : goal.returns
returns c = rw c.on.ensures c.open_step.ensures.1
