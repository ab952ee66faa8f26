-- `desk::state::seats_in_use` meets its contract.
use Rattle.desk.specs.Calls.{seats_in_use}
use Rattle.desk.proofs.Bits.{ones_count}
use borrow.Author.Rules.{rules}
use Rattle.desk.proofs.state.seats_in_use.Goals as goal

pub returns : goal.returns
unfolding seats_in_use
returns c = ones_count 64 c.args.desk.bits (search rules)
