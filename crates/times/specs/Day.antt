-- The days of the years 2000 to 2099 by the Gregorian calendar.
use Rattle.std.specs.Prelude.{ℕ, ◌%◌, List, [], ◌∷◌, Bool, true, false, cond, not, ◌&&◌, ◌||◌, ◌≡◌, eqb, leb}

-- every fourth year is a leap year, but of the years that 100 divides only those that 400 divides
unfoldable pub leap : ℕ → Bool
leap y = (eqb (y % 4) 0 && not (eqb (y % 100) 0)) || eqb (y % 400) 0

abbrev pub february_length : ℕ → ℕ
february_length y = cond (leap y) 29 28

-- February has 28 or 29 days; April, June, September and November have 30; the others have 31
unfoldable pub month_length : ℕ → ℕ → ℕ
month_length m y =
    cond (eqb m 2) (february_length y)
    (cond (eqb m 4 || eqb m 6 || eqb m 9 || eqb m 11) 30 31)

-- day, month and year name a real day of the years 2000 to 2099
unfoldable pub real_day : ℕ → ℕ → ℕ → Bool
real_day d m y = leb 2000 y && leb y 2099 && leb 1 m && leb m 12 && leb 1 d && leb d (month_length m y)

-- the lengths of a year's months
abbrev pub months : ℕ → List ℕ
months y =
    month_length 1 y ∷ month_length 2 y ∷ month_length 3 y ∷ month_length 4 y ∷ month_length 5 y ∷ month_length 6 y
    ∷ month_length 7 y ∷ month_length 8 y ∷ month_length 9 y ∷ month_length 10 y ∷ month_length 11 y ∷ month_length 12 y ∷ []

-- worked cases: a common year and two leap years, one of them a full century; and both sides of each limit
pub record CalendarWorked : Type 0 where
  pub of_2023 : months 2023 ≡ 31 ∷ 28 ∷ 31 ∷ 30 ∷ 31 ∷ 30 ∷ 31 ∷ 31 ∷ 30 ∷ 31 ∷ 30 ∷ 31 ∷ []
  pub of_2020 : months 2020 ≡ 31 ∷ 29 ∷ 31 ∷ 30 ∷ 31 ∷ 30 ∷ 31 ∷ 31 ∷ 30 ∷ 31 ∷ 30 ∷ 31 ∷ []
  pub of_2000 : months 2000 ≡ 31 ∷ 29 ∷ 31 ∷ 30 ∷ 31 ∷ 30 ∷ 31 ∷ 31 ∷ 30 ∷ 31 ∷ 30 ∷ 31 ∷ []
  pub first_day : real_day 1 1 2000 ≡ true
  pub last_day : real_day 31 12 2099 ≡ true
  pub day_before : real_day 31 12 1999 ≡ false
  pub day_after : real_day 1 1 2100 ≡ false
  pub day_0 : real_day 0 1 2023 ≡ false
  pub day_32 : real_day 32 1 2023 ≡ false
  pub month_0 : real_day 1 0 2023 ≡ false
  pub month_13 : real_day 1 13 2023 ≡ false
