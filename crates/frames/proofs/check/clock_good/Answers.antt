-- `frames::check::clock_good` meets its contract.
use native.Mathlib.Omega.{arith}
use mathlib.Core.Bool.{◌&&◌}
use mathlib.Core.Path.{◌≡◌, ap₂, ◌∙◌}
use Rattle.digits.specs.Digits.{is_digit}
use Rattle.frames.specs.Rules.{is_raw}
use Rattle.frames.specs.Shape.{all_from}
use Rattle.frames.proofs.RunLaws.{part_all}
use Rattle.frames.proofs.CheckLaws.{held, failed, ClockDigits, clock_digits, spare_and_time, clock_stops, clock_goes_on, clock_bad}
use Rattle.frames.proofs.check.clock_good.Goals.{After-all_in, After-all_in-2, After-time_good}
use Rattle.frames.proofs.check.clock_good.Goals as goal

read : (c : After-all_in) → c.all_in.result ≡ all_from is_digit c.args.s.now 30 18
read c = c.all_in.ensures is_digit (λ b r k p. p) ∙ part_all is_digit c.args.s.now 30 18 (omega (arith, c.told-s))

digits : (c : After-all_in-2) → ClockDigits c.args.s.now
digits c = clock_digits _ (held (read (goal.at.After-all_in-2 c).After-all_in) c.if-not-all_in.false)

tests : (c : After-time_good) → c.all_in-2.result && c.time_good.result ≡ spare_and_time c.args.s.now
tests c = ap₂ ◌&&◌ (c.all_in-2.ensures is_raw (λ b r k p. p) ∙ part_all is_raw c.args.s.now 48 2 (omega (arith, c.told-s))) c.time_good.ensures

pub returns-then-not-all_in : goal.returns-then-not-all_in
returns-then-not-all_in c = clock_bad _ (failed (read (goal.at.returns-then-not-all_in c).After-all_in) c.if-not-all_in.true)

pub time_good-requires : goal.time_good-requires
time_good-requires c = (digits c).time

pub number-requires-clause-digits : goal.number-requires-clause-digits
number-requires-clause-digits c = (digits (goal.at.number-requires-clause-digits c).After-all_in-2).day

pub number-requires-then-all_in-time_good-clause-digits : goal.number-requires-then-all_in-time_good-clause-digits
number-requires-then-all_in-time_good-clause-digits c = (digits (goal.at.number-requires-then-all_in-time_good-clause-digits c).After-all_in-2).month

pub number-requires-then-all_in-time_good-2-clause-digits : goal.number-requires-then-all_in-time_good-2-clause-digits
number-requires-then-all_in-time_good-2-clause-digits c = (digits (goal.at.number-requires-then-all_in-time_good-2-clause-digits c).After-all_in-2).year

pub returns-then-all_in-time_good : goal.returns-then-all_in-time_good
returns-then-all_in-time_good c =
    rw (c.is_day.ensures, c.number-then-all_in-time_good-2.ensures, c.number-then-all_in-time_good.ensures, c.number.ensures)
    (clock_goes_on _ (held (tests (goal.at.returns-then-all_in-time_good c).After-time_good) c.if-all_in-time_good.true))

pub returns-else-all_in-time_good : goal.returns-else-all_in-time_good
returns-else-all_in-time_good c =
    c.if-all_in-time_good.false ∙ clock_stops _ (failed (tests (goal.at.returns-else-all_in-time_good c).After-time_good) c.if-all_in-time_good.false)
