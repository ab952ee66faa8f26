-- `finder::is_stop` meets its contract.
use Rattle.finder.proofs.is_stop.Goals as goal

pub returns : goal.returns
returns c = rw c.is_lead.ensures
