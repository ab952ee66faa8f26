-- Time and date of a reply, by their kind: clock, net or raw.
use Rattle.std.specs.Prelude.{ℕ, List, ◌∷◌, Bool, true, false, cond, ◌&&◌, replicate, eqb}
use Rattle.digits.specs.Text.{codes, one_of}
use Rattle.times.specs.declared.net.NetParts.{NetParts}
use Rattle.times.specs.Day.{real_day}
use Rattle.times.specs.Net.{is_net, net_sum, net_parts}
use Rattle.frames.specs.declared.timing.TimingKind.{TimingKind}
use Rattle.frames.specs.declared.timing.TimingKind.TheVariants.{Clock as clock_kind, Net as net_kind, Raw as raw_kind}
use Rattle.frames.specs.declared.timing.Timing.{Timing}
use Rattle.frames.specs.declared.timing.Timing.TheVariants.{Clock, Net, Raw}
use Rattle.frames.specs.Rules.{is_raw}
use Rattle.frames.specs.Status.{is_z}
use Rattle.frames.specs.Shape.{Shape, byte, number, both, run, all_from}
use Rattle.frames.specs.Classes.{digit_from, digit_to, any_digits, any_raw}
use Rattle.frames.specs.Field.{Field, time_of_day}
use Rattle.frames.specs.Layout.{Layout, field, suits, end}

-- with status Z always raw; otherwise five letters are clock, three are net and the other 25 are raw
unfoldable pub timing_kind : ℕ → ℕ → TimingKind
timing_kind status letter =
    cond (is_z status) raw_kind
    (cond (one_of (codes "0KSsa") letter) clock_kind
    (cond (one_of (codes "123") letter) net_kind raw_kind))

-- ---- the parts of a record that hold time and date, and the two spare bytes

pub record Times : Type 0 where
  pub timing : Timing
  pub raw_time : List ℕ
  pub raw_date : List ℕ
  pub spare : List ℕ

abbrev pub is_of : TimingKind → Timing → Bool
is_of clock_kind (Clock ticks day month year) = true
is_of clock_kind (Net value) = false
is_of clock_kind Raw = false
is_of net_kind (Clock ticks day month year) = false
is_of net_kind (Net value) = true
is_of net_kind Raw = false
is_of raw_kind (Clock ticks day month year) = false
is_of raw_kind (Net value) = false
is_of raw_kind Raw = true

-- a record's timing has the kind that status and letter ask for
abbrev pub timing_is : TimingKind → Times → Bool
timing_is kind t = is_of kind t.timing

-- the first n bytes are all raw; the first n bytes are all zero
abbrev pub are_raw : ℕ → List ℕ → Bool
are_raw n l = all_from is_raw l 0 n

abbrev pub are_zero : ℕ → List ℕ → Bool
are_zero n l = all_from (λ b. eqb b 0) l 0 n

abbrev pub raw_bytes : ℕ → Field (List ℕ)
raw_bytes n = record { shape = run n; rule = are_raw n; classes = any_raw n }

-- the arrays of raw time and date are all zero, as they must be when the kind does not use them
abbrev pub raw_unused : Times → Bool
raw_unused t = are_zero 10 t.raw_time && are_zero 8 t.raw_date

-- ---- clock: a time of day in ticks, and a day

abbrev pub ticks_in : Timing → ℕ
ticks_in (Clock ticks day month year) = ticks
ticks_in (Net value) = 0
ticks_in Raw = 0

-- day, month and year
abbrev pub date_in : Timing → ℕ × (ℕ × ℕ)
date_in (Clock ticks day month year) = (day, (month, year))
date_in (Net value) = (0, (0, 0))
date_in Raw = (0, (0, 0))

-- DDMMYYYY
abbrev pub date : Shape (ℕ × (ℕ × ℕ))
date = both (number 2) (both (number 2) (number 4))

abbrev pub is_date : ℕ × (ℕ × ℕ) → Bool
is_date d = real_day d.0 d.1.0 d.1.1

-- the first digit of a day is 0 to 3, that of a month 0 or 1; a year is 2000 to 2099
abbrev pub real_date : Field (ℕ × (ℕ × ℕ))
real_date = record { shape = date; rule = is_date; classes = digit_to 3 ∷ digit_to 9 ∷ digit_to 1 ∷ digit_to 9 ∷ digit_from 2 2 ∷ digit_to 0 ∷ any_digits 2 }

-- ---- net: a time of day, a sign and seven digits of days

-- + and -
unfoldable pub is_sign : ℕ → Bool
is_sign = one_of (codes "+-")

abbrev pub sign_of : Bool → ℕ
sign_of minus = cond minus 45 43

abbrev pub net_of : ℕ → ℕ → ℕ → NetParts
net_of ticks sign days = record { minus = eqb sign 45; days = days; time = ticks }

abbrev pub net_in : Timing → NetParts
net_in (Clock ticks day month year) = record { minus = false; days = 0; time = 0 }
net_in (Net value) = net_parts value
net_in Raw = record { minus = false; days = 0; time = 0 }

abbrev pub days_in : Timing → ℕ × ℕ
days_in t = (sign_of (net_in t).minus, (net_in t).days)

abbrev pub signed_days : Shape (ℕ × ℕ)
signed_days = both byte (number 7)

abbrev pub are_days : ℕ → ℕ × ℕ → Bool
are_days ticks d = is_sign d.0 && is_net (net_of ticks d.0 d.1)

abbrev pub net_days : ℕ → Field (ℕ × ℕ)
net_days ticks = record { shape = signed_days; rule = are_days ticks; classes = is_sign ∷ any_digits 7 }

-- ---- the fields

unfoldable pub timed : TimingKind → Layout Times
timed clock_kind =
    suits 30 (timing_is clock_kind)
    (field 30 time_of_day (λ t. ticks_in t.timing) λ ticks.
    field 40 real_date (λ t. date_in t.timing) λ day.
    field 48 (raw_bytes 2) (λ t. t.spare) λ spare.
    suits 50 raw_unused
    (end (record { timing = Clock ticks day.0 day.1.0 day.1.1; raw_time = replicate 10 0; raw_date = replicate 8 0; spare = spare })))
timed net_kind =
    suits 30 (timing_is net_kind)
    (field 30 time_of_day (λ t. (net_in t.timing).time) λ ticks.
    field 40 (net_days ticks) (λ t. days_in t.timing) λ days.
    field 48 (raw_bytes 2) (λ t. t.spare) λ spare.
    suits 50 raw_unused
    (end (record { timing = Net (net_sum (net_of ticks days.0 days.1)); raw_time = replicate 10 0; raw_date = replicate 8 0; spare = spare })))
timed raw_kind =
    suits 30 (timing_is raw_kind)
    (field 30 (raw_bytes 10) (λ t. t.raw_time) λ raw_time.
    field 40 (raw_bytes 8) (λ t. t.raw_date) λ raw_date.
    field 48 (raw_bytes 2) (λ t. t.spare) λ spare.
    end (record { timing = Raw; raw_time = raw_time; raw_date = raw_date; spare = spare }))
