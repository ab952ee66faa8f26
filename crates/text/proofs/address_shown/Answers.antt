-- `text::address_shown` meets its contract.
use borrow.Author.Tests.{eq-eqb, ne_eqb}
use Rattle.text.specs.Address.{address_shown}
use Rattle.text.proofs.address_shown.Goals as goal

pub returns-then-b-eq32 : goal.returns-then-b-eq32
unfolding address_shown
returns-then-b-eq32 c = rw (eq-eqb _ _ c.if-b-eq32.true)

pub returns-else-b-eq32 : goal.returns-else-b-eq32
unfolding address_shown
returns-else-b-eq32 c = rw (ne_eqb _ _ c.if-b-eq32.false)
