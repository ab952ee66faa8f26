-- What a field is: how its value is written in a frame, which values are good, and which bytes the good values show at each place.
use Rattle.std.specs.Prelude.{ℕ, ◌-◌, ◌/◌, ◌^◌, [], ◌∷◌, Bool}
use Rattle.times.specs.Clock.{is_time}
use Rattle.frames.specs.Rules.{up_to}
use Rattle.frames.specs.Shape.{Shape, byte, number, time}
use Rattle.frames.specs.Classes.{Classes, digit_to, any_digits}

pub record Field (A : Type 0) : Type 0 where
  pub shape : Shape A
  pub rule : A → Bool
  pub classes : Classes

-- one byte
abbrev pub letter : (ℕ → Bool) → Field ℕ
letter rule = record { shape = byte; rule = rule; classes = rule ∷ [] }

-- a number of w digits, the first of them at most `top`
abbrev pub number_by : ℕ → ℕ → (ℕ → Bool) → Field ℕ
number_by w top rule = record { shape = number w; rule = rule; classes = digit_to top ∷ any_digits (w - 1) }

-- a number of w digits up to hi: the first digit is at most that of hi
abbrev pub number_to : ℕ → ℕ → Field ℕ
number_to w hi = number_by w (hi / 10 ^ (w - 1)) (up_to hi)

-- HHMMSSdddd
abbrev pub time_of_day : Field ℕ
time_of_day = record { shape = time; rule = is_time; classes = digit_to 2 ∷ digit_to 9 ∷ digit_to 5 ∷ digit_to 9 ∷ digit_to 5 ∷ digit_to 9 ∷ any_digits 4 }
