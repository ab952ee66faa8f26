-- `times::day::is_day` meets its contract.
use native.Mathlib.Omega.{arith}
use borrow.Author.Tests.{le-leb, lt-leb}
use Rattle.times.proofs.DayLaws.{no_day}
use Rattle.times.specs.Day.{real_day}
use Rattle.times.proofs.day.is_day.Goals as goal

pub returns-then-day-ge1 : goal.returns-then-day-ge1
unfolding real_day
returns-then-day-ge1 c =
    let a = c.args in
    rw (le-leb 2000 a.year (omega arith), le-leb a.year 2099 (omega arith), le-leb 1 a.month (omega arith), le-leb a.month 12 (omega arith), le-leb 1 a.day (omega arith), c.month_length.ensures)

pub returns-else-day-ge1 : goal.returns-else-day-ge1
unfolding real_day
returns-else-day-ge1 c =
    let a = c.args in
    rw (le-leb 2000 a.year (omega arith), le-leb a.year 2099 (omega arith), le-leb 1 a.month (omega arith), le-leb a.month 12 (omega arith), lt-leb 1 a.day (omega arith))

pub returns-then-year-lt2000 : goal.returns-then-year-lt2000
returns-then-year-lt2000 c = no_day _ _ _ c.then-year-lt2000.either
