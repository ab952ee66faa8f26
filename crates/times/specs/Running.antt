-- Running time: Tnow - Tev - Taux in ticks, signed.
use Rattle.std.specs.Prelude.{◌+◌, ◌*◌, Bool, not, ◌&&◌, ◌||◌, ◌≡◌, eqb, leb, ℤ, pos, negsuc, ◌-ℤ◌, Result, Ok, Err}
use Rattle.digits.specs.declared.refusal.Refusal.{Refusal}
use Rattle.digits.specs.Refusals.{plain, TIME}
use Rattle.digits.specs.Told.{Told, gives, refuses, tried}
use Rattle.times.specs.declared.running.RunningRefusal.{RunningRefusal}
use Rattle.times.specs.declared.running.RunningRefusal.TheVariants.{Time}
use Rattle.times.specs.declared.running.RunningOf.{RunningOf}
use Rattle.times.specs.Clock.{a_day, last_tick}
use Rattle.times.specs.Net.{signed}

-- Tnow and Tev are times of day, and Tev is 0 if the bib is 0; Taux has a sign of 0 or 1, days of one digit and a time of day
unfoldable pub in_range : RunningOf → Bool
in_range o =
    leb o.tnow last_tick && leb o.tev last_tick && (not (eqb o.bib 0) || eqb o.tev 0)
    && leb o.sign 1 && leb o.days 9 && leb o.time last_tick

-- Taux in ticks: the minus covers days and time together
abbrev pub taux : RunningOf → ℤ
taux o = signed (eqb o.sign 1) (o.days * a_day + o.time)

-- Tnow - Tev - Taux; the only refusal is TIME, if a number is out of range
unfoldable pub running_time : RunningOf → Told ℤ
running_time o = tried (in_range o) TIME (gives ((pos o.tnow -ℤ pos o.tev) -ℤ taux o))

-- the refusal by number
abbrev pub running_refused : RunningRefusal → Refusal
running_refused Time = TIME

abbrev pub running_told : Result ℤ RunningRefusal → Told ℤ
running_told (Ok v) = gives v
running_told (Err why) = refuses (running_refused why)

-- what is promised of the answer: it means the running time of these numbers
abbrev pub RunningAs : RunningOf → Result ℤ RunningRefusal → Type 0
RunningAs of r = running_told r ≡ running_time of

-- worked cases: a minus covers days and time, also without days and with bib 0; a minus in front of zero is good; each number out of range is refused with 8
pub record RunningWorked : Type 0 where
  pub minus : running_time (record { bib = 1; tnow = 20; tev = 5; sign = 1; days = 1; time = 3 }) ≡ gives (pos 864000018)
  pub minus_no_days : running_time (record { bib = 1; tnow = 20; tev = 5; sign = 1; days = 0; time = 3 }) ≡ gives (pos 18)
  pub minus_of_none : running_time (record { bib = 0; tnow = 20; tev = 0; sign = 1; days = 2; time = 7 }) ≡ gives (pos 1728000027)
  pub plus_of_none : running_time (record { bib = 0; tnow = 20; tev = 0; sign = 0; days = 2; time = 7 }) ≡ gives (negsuc 1727999986)
  pub minus_zero : running_time (record { bib = 1; tnow = 20; tev = 5; sign = 1; days = 0; time = 0 }) ≡ gives (pos 15)
  pub tnow : running_time (record { bib = 1; tnow = 864000000; tev = 0; sign = 0; days = 0; time = 0 }) ≡ refuses (plain 8)
  pub tev : running_time (record { bib = 1; tnow = 0; tev = 864000000; sign = 0; days = 0; time = 0 }) ≡ refuses (plain 8)
  pub tev_of_none : running_time (record { bib = 0; tnow = 0; tev = 1; sign = 0; days = 0; time = 0 }) ≡ refuses (plain 8)
  pub sign : running_time (record { bib = 1; tnow = 0; tev = 0; sign = 2; days = 0; time = 0 }) ≡ refuses (plain 8)
  pub days : running_time (record { bib = 1; tnow = 0; tev = 0; sign = 0; days = 10; time = 0 }) ≡ refuses (plain 8)
  pub time : running_time (record { bib = 1; tnow = 0; tev = 0; sign = 0; days = 0; time = 864000000 }) ≡ refuses (plain 8)
