-- A time of day in its four parts.
use Rattle.std.specs.Prelude.{ℕ, ◌+◌, ◌*◌, cond, ◌&&◌, Option, Some, None}
use Rattle.times.specs.Clock.{is_hour, is_sixtieth}

-- the ticks of hours, minutes, seconds and fraction, or None if one of the first three is out of range
unfoldable pub ticks_from : ℕ → ℕ → ℕ → ℕ → Option ℕ
ticks_from h m s f = cond (is_hour h && is_sixtieth m && is_sixtieth s) (Some (((h * 60 + m) * 60 + s) * 10000 + f)) None
