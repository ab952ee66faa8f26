-- `frames::check::values_good` meets its contract.
use Rattle.frames.proofs.CheckLaws.{numbers}
use Rattle.frames.proofs.check.values_good.Goals as goal

pub number-requires-clause-digits : goal.number-requires-clause-digits
number-requires-clause-digits c = (numbers _ c.requires).run

pub number-requires-2-clause-digits : goal.number-requires-2-clause-digits
number-requires-2-clause-digits c = (numbers _ c.requires).channel
