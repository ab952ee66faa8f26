-- `desk::hearing::ends_with` meets its contract.
use borrow.Author.Rules.{rules}
use Rattle.desk.specs.Hearing.{ends}
use Rattle.desk.proofs.hearing.ends_with.Goals as goal

pub returns : goal.returns
unfolding ends
returns c = search rules
