-- `desk::step::step` meets its contract.
use borrow.Author.Tests.{eq-eqb, ne_eqb}
use Rattle.desk.specs.Step.{step}
use Rattle.desk.proofs.Below.{not_came, not_left}
use Rattle.desk.proofs.step.step.Goals as goal

pub returns-then-p-ne0 : goal.returns-then-p-ne0
unfolding step
returns-then-p-ne0 c = rw (ne_eqb _ 0 c.if-p-ne0.true)

pub returns-then-not-in_place : goal.returns-then-not-in_place
unfolding step
returns-then-not-in_place c = rw (eq-eqb _ 0 c.if-p-ne0.false, not_came c.in_place.ensures c.if-not-in_place.true)

pub returns-then-free : goal.returns-then-free
unfolding step
returns-then-free c = rw (eq-eqb _ 0 c.if-p-ne0.false, not_left c.in_place.ensures c.if-not-in_place.false, c.if-free.true)

pub returns-else-free : goal.returns-else-free
unfolding step
returns-else-free c = rw (eq-eqb _ 0 c.if-p-ne0.false, not_left c.in_place.ensures c.if-not-in_place.false, c.if-free.false)
