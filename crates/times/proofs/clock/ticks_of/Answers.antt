-- `times::clock::ticks_of` meets its contract.
use borrow.Author.Tests.{le-leb}
use Rattle.times.proofs.ClockLaws.{no_ticks}
use Rattle.times.specs.inside.Clock.{ticks_from}
use Rattle.times.proofs.clock.ticks_of.Goals as goal

pub returns-then-seconds-le59 : goal.returns-then-seconds-le59
unfolding ticks_from
returns-then-seconds-le59 c = rw (le-leb _ _ c.if-hours-le23.true, le-leb _ _ c.if-minutes-le59.true, le-leb _ _ c.if-seconds-le59.true)

pub returns-else-hours-le23 : goal.returns-else-hours-le23
returns-else-hours-le23 c = no_ticks _ _ _ _ c.else-hours-le23.either
