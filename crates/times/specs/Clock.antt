-- A time of day, HHMMSSdddd, in ticks of a ten-thousandth of a second.
use Rattle.std.specs.Prelude.{ℕ, ◌+◌, ◌-◌, ◌*◌, ◌/◌, ◌%◌, Bool, cond, ◌&&◌, leb, Option, Some, None}
use Rattle.digits.specs.Form.{Form, number, renamed, Inverse}

-- how many ticks a day has
abbrev pub a_day : ℕ
a_day = 864000000

-- the last tick of a day: 23:59:59.9999
abbrev pub last_tick : ℕ
last_tick = a_day - 1

-- the parts of a number whose ten digits are HHMMSSdddd; any dddd, 0000 to 9999, is good
abbrev pub hours : ℕ → ℕ
hours n = n / 100000000

abbrev pub minutes : ℕ → ℕ
minutes n = n / 1000000 % 100

abbrev pub seconds : ℕ → ℕ
seconds n = n / 10000 % 100

abbrev pub fraction : ℕ → ℕ
fraction n = n % 10000

-- hours are 00 to 23; minutes and seconds are 00 to 59
abbrev pub is_hour : ℕ → Bool
is_hour h = leb h 23

abbrev pub is_sixtieth : ℕ → Bool
is_sixtieth m = leb m 59

-- the ticks of the time HHMMSSdddd, or None if it is no time of day
unfoldable pub ticks_of : ℕ → Option ℕ
ticks_of n =
    cond (is_hour (hours n) && is_sixtieth (minutes n) && is_sixtieth (seconds n))
    (Some (((hours n * 60 + minutes n) * 60 + seconds n) * 10000 + fraction n))
    None

-- ticks as the number HHMMSSdddd
unfoldable pub clock_number : ℕ → ℕ
clock_number v = ((v / 36000000 * 100 + v / 600000 % 60) * 100 + v / 10000 % 60) * 10000 + v % 10000

-- the form of a time: ten digits in the frame, ticks in the record
abbrev pub clock : Form
clock = renamed (number 10) ticks_of clock_number

-- a time of day in ticks: 0 to the last tick
abbrev pub is_time : ℕ → Bool
is_time v = leb v last_tick

-- a time of day and its ticks, both ways
abbrev pub ClockInverse : Type 0
ClockInverse = Inverse clock is_time
