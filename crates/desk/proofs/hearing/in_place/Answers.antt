-- `desk::hearing::in_place` meets its contract.
use borrow.Author.Rules.{rules}
use Rattle.desk.specs.Hearing.{in_place}
use Rattle.desk.proofs.hearing.in_place.Goals as goal

pub returns : goal.returns
unfolding in_place
returns c = search rules
