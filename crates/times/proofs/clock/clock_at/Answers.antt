-- `times::clock::clock_at` meets its contract.
use native.Mathlib.Omega.{arith}
use mathlib.Core.Path.{sym, ◌∙◌}
use borrow.Author.Tests.{leb-false}
use Rattle.std.specs.Prelude.{Some, None}
use Rattle.times.proofs.ClockLaws.{part_below, time_in_parts, time_no_room}
use Rattle.times.proofs.clock.clock_at.Goals as goal

pub returns-then-not-has_room : goal.returns-then-not-has_room
returns-then-not-has_room c = time_no_room _ _ (leb-false _ _ (sym c.has_room.ensures ∙ c.if-not-has_room.true))

pub returns-in_err-hours : goal.returns-in_err-hours
returns-in_err-hours c =
    c.from_residual.ensures
    ∙ time_in_parts _ _ None _ _ _ (sym c.in_err-hours.was ∙ c.number_at-hours.ensures) c.number_at-minutes.ensures c.number_at-seconds.ensures c.number_at-fraction.ensures

pub returns-in_err-minutes : goal.returns-in_err-minutes
returns-in_err-minutes c =
    c.from_residual-in_err-minutes.ensures
    ∙ time_in_parts _ _ (Some c.in_ok-hours.field-0) None _ _
    (sym c.in_ok-hours.was ∙ c.number_at-hours.ensures) (sym c.in_err-minutes.was ∙ c.number_at-minutes.ensures) c.number_at-seconds.ensures c.number_at-fraction.ensures

pub returns-in_err-seconds : goal.returns-in_err-seconds
returns-in_err-seconds c =
    c.from_residual-in_err-seconds.ensures
    ∙ time_in_parts _ _ (Some c.in_ok-hours.field-0) (Some c.in_ok-minutes.field-0) None _
    (sym c.in_ok-hours.was ∙ c.number_at-hours.ensures) (sym c.in_ok-minutes.was ∙ c.number_at-minutes.ensures) (sym c.in_err-seconds.was ∙ c.number_at-seconds.ensures) c.number_at-fraction.ensures

pub returns-in_err-fraction : goal.returns-in_err-fraction
returns-in_err-fraction c =
    c.from_residual-in_err-fraction.ensures
    ∙ time_in_parts _ _ (Some c.in_ok-hours.field-0) (Some c.in_ok-minutes.field-0) (Some c.in_ok-seconds.field-0) None
    (sym c.in_ok-hours.was ∙ c.number_at-hours.ensures) (sym c.in_ok-minutes.was ∙ c.number_at-minutes.ensures) (sym c.in_ok-seconds.was ∙ c.number_at-seconds.ensures) (sym c.in_err-fraction.was ∙ c.number_at-fraction.ensures)

pub ticks_of-requires : goal.ticks_of-requires
ticks_of-requires c = let h = part_below 4 _ _ _ (sym c.number_at-fraction.ensures ∙ c.in_ok-fraction.was) in omega arith

pub returns : goal.returns
returns c =
    c.ticks_of.ensures
    ∙ time_in_parts _ _ (Some c.in_ok-hours.field-0) (Some c.in_ok-minutes.field-0) (Some c.in_ok-seconds.field-0) (Some c.in_ok-fraction.field-0)
    (sym c.in_ok-hours.was ∙ c.number_at-hours.ensures) (sym c.in_ok-minutes.was ∙ c.number_at-minutes.ensures)
    (sym c.in_ok-seconds.was ∙ c.number_at-seconds.ensures) (sym c.in_ok-fraction.was ∙ c.number_at-fraction.ensures)
