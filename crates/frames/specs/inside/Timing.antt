-- The tests of a reply's time and date, what a frame holds of them, and how they are stored.
use Rattle.std.specs.Prelude.{ℕ, List, ◌∷◌, ◌++◌, ◌&&◌, ℤ, get_or, replicate, Option, Some, None}
use Rattle.digits.specs.Digits.{digits, number_at}
use Rattle.times.specs.declared.net.NetParts.{NetParts}
use Rattle.times.specs.Clock.{clock, is_time}
use Rattle.times.specs.Day.{real_day}
use Rattle.times.specs.Net.{is_net, net_parts, net_value}
use Rattle.frames.specs.declared.timing.TimingKind.{TimingKind}
use Rattle.frames.specs.declared.timing.TimingKind.TheVariants.{Clock as clock_kind, Net as net_kind, Raw as raw_kind}
use Rattle.frames.specs.declared.timing.Timing.{Timing}
use Rattle.frames.specs.declared.timing.Timing.TheVariants.{Clock, Net, Raw}
use Rattle.frames.specs.declared.timing.RawBytes.{RawBytes}
use Rattle.frames.specs.declared.timing.Seen.{Seen}
use Rattle.frames.specs.Shape.{bytes_of}
use Rattle.frames.specs.Layout.{wrong_unless}
use Rattle.frames.specs.Timing.{are_raw, are_zero, is_sign, net_of, sign_of}
use Rattle.frames.specs.inside.Held.{or_none}

abbrev pub spare_wrong : List ℕ → ℕ → ℕ
spare_wrong spare rest = wrong_unless (are_raw 2 spare) 48 rest

abbrev pub unused_wrong : List ℕ → List ℕ → ℕ
unused_wrong raw_time raw_date = wrong_unless (are_zero 10 raw_time && are_zero 8 raw_date) 50 0

unfoldable pub clock_wrong : ℕ → ℕ → ℕ → ℕ → ℕ → ℕ
clock_wrong ticks day month year rest =
    wrong_unless (is_time ticks) 30 (wrong_unless (real_day day month year) 40 rest)

unfoldable pub net_wrong : ℕ → ℕ → ℕ → ℕ → ℕ
net_wrong time sign days rest = wrong_unless (is_time time) 30 (wrong_unless (is_sign sign && is_net (net_of time sign days)) 40 rest)

abbrev pub raw_wrong : List ℕ → List ℕ → ℕ → ℕ
raw_wrong raw_time raw_date rest = wrong_unless (are_raw 10 raw_time) 30 (wrong_unless (are_raw 8 raw_date) 40 rest)

-- ---- a record's timing, compared with the kind that is asked for

abbrev pub as_clock : Timing → ℕ → ℕ
as_clock (Clock ticks day month year) rest = clock_wrong ticks day month year rest
as_clock (Net value) rest = 30
as_clock Raw rest = 30

unfoldable pub net_value_wrong : ℤ → ℕ → ℕ
net_value_wrong value rest = net_wrong (net_parts value).time (sign_of (net_parts value).minus) (net_parts value).days rest

abbrev pub as_net : Timing → ℕ → ℕ
as_net (Clock ticks day month year) rest = 30
as_net (Net value) rest = net_value_wrong value rest
as_net Raw rest = 30

abbrev pub as_raw : Timing → ℕ → ℕ
as_raw (Clock ticks day month year) rest = 30
as_raw (Net value) rest = 30
as_raw Raw rest = rest

abbrev pub timing_wrong : TimingKind → Timing → List ℕ → List ℕ → List ℕ → ℕ
timing_wrong clock_kind timing raw_time raw_date spare = as_clock timing (spare_wrong spare (unused_wrong raw_time raw_date))
timing_wrong net_kind timing raw_time raw_date spare = as_net timing (spare_wrong spare (unused_wrong raw_time raw_date))
timing_wrong raw_kind timing raw_time raw_date spare = as_raw timing (raw_wrong raw_time raw_date (spare_wrong spare 0))

-- ---- a frame's time and date

abbrev pub raw_at : List ℕ → RawBytes
raw_at s = record { time = bytes_of s 30 10; date = bytes_of s 40 8 }

unfoldable pub seen_clock : List ℕ → Seen
seen_clock s =
    let ticks = or_none (clock.got s 30) in
    let day = or_none (number_at s 40 2) in
    let month = or_none (number_at s 42 2) in
    let year = or_none (number_at s 44 4) in
    record { timing = Clock ticks day month year; raw = record { time = replicate 10 0; date = replicate 8 0 }; wrong = clock_wrong ticks day month year (spare_wrong (bytes_of s 48 2) 0) }

abbrev pub valued : Option ℤ → Timing
valued (Some value) = Net value
valued None = Raw

abbrev pub net_timing : NetParts → Timing
net_timing p = valued (net_value p)

unfoldable pub seen_net : List ℕ → Seen
seen_net s =
    let time = or_none (clock.got s 30) in
    let sign = get_or s 40 0 in
    let days = or_none (number_at s 41 7) in
    record { timing = net_timing (net_of time sign days); raw = record { time = replicate 10 0; date = replicate 8 0 }; wrong = net_wrong time sign days (spare_wrong (bytes_of s 48 2) 0) }

unfoldable pub seen_raw : List ℕ → Seen
seen_raw s =
    record { timing = Raw; raw = raw_at s; wrong = raw_wrong (bytes_of s 30 10) (bytes_of s 40 8) (spare_wrong (bytes_of s 48 2) 0) }

abbrev pub seen_of : TimingKind → List ℕ → Seen
seen_of clock_kind s = seen_clock s
seen_of net_kind s = seen_net s
seen_of raw_kind s = seen_raw s

-- ---- time and date as they are stored

abbrev pub clock_text : ℕ → ℕ → ℕ → ℕ → List ℕ
clock_text ticks day month year = clock.put ticks ++ (digits 2 day ++ (digits 2 month ++ digits 4 year))

abbrev pub net_text : ℤ → List ℕ
net_text value = clock.put (net_parts value).time ++ (sign_of (net_parts value).minus ∷ digits 7 (net_parts value).days)

abbrev pub raw_text : List ℕ → List ℕ → List ℕ
raw_text raw_time raw_date = bytes_of raw_time 0 10 ++ bytes_of raw_date 0 8

abbrev pub timing_text : Timing → List ℕ → List ℕ → List ℕ
timing_text (Clock ticks day month year) raw_time raw_date = clock_text ticks day month year
timing_text (Net value) raw_time raw_date = net_text value
timing_text Raw raw_time raw_date = raw_text raw_time raw_date
