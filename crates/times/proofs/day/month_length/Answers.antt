-- `times::day::month_length` meets its contract.
use borrow.Author.Rules.{rules}
use borrow.Author.Tests.{ne_eqb}
use Rattle.times.proofs.DayLaws.{thirty}
use Rattle.times.specs.Day.{month_length}
use Rattle.times.proofs.day.month_length.Goals as goal

pub returns-in-2 : goal.returns-in-2
unfolding month_length
returns-in-2 c = rw c.in-2.is c.february.ensures

pub returns-in-4 : goal.returns-in-4
returns-in-4 c = thirty _ _ c.in-4.is

pub returns-in_default : goal.returns-in_default
unfolding month_length
returns-in_default c =
    let m = c.args.month in
    rw (ne_eqb m 2 (λ e. search rules), ne_eqb m 4 (λ e. search rules), ne_eqb m 6 (λ e. search rules), ne_eqb m 9 (λ e. search rules), ne_eqb m 11 (λ e. search rules))
