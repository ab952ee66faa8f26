-- `desk::state::capacity` meets its contract.
use borrow.Author.Rules.{rules}
use Rattle.desk.specs.Memory.{capacity_of}
use Rattle.desk.proofs.state.capacity.Goals as goal

pub returns : goal.returns
unfolding capacity_of
returns c = search rules
