-- `desk::key::is_key` meets its contract.
use borrow.Author.Rules.{rules}
use Rattle.desk.specs.Key.{is_key}
use Rattle.desk.proofs.key.is_key.Goals as goal

pub returns : goal.returns
unfolding is_key
returns c = search rules
