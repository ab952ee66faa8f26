-- What is known of a real day. Assumes nothing.
use Prim.Native.Nat.{ℕ, ◌≤◌, ◌<◌}
use mathlib.Core.Logic.{◌⊎◌, inl, inr}
use mathlib.Core.Path.{◌≡◌, refl}
use mathlib.Core.Bool.{Bool, true, false, cond, ◌&&◌, ◌||◌, and-eq-true_iff}
use native.Mathlib.Omega.{arith}
use lib.Dec.{leb, eqb}
use borrow.Author.Tests.{leb-true, le-leb, lt-leb}
use Rattle.times.specs.Day.{leap, month_length, real_day, CalendarWorked}

-- no month is longer than 31 days
month_most : (m y : ℕ) → month_length m y ≤ 31
unfolding month_length
month_most m y = by_cases (eqb m 2) (leap y) (eqb m 4 || eqb m 6 || eqb m 9 || eqb m 11)
  where
    by_cases : (a b c : Bool) → cond a (cond b 29 28) (cond c 30 31) ≤ 31
    by_cases true true c = omega arith
    by_cases true false c = omega arith
    by_cases false b true = omega arith
    by_cases false b false = omega arith

-- the months of 30 days
pub thirty : (m y : ℕ) → (m ≡ 4) ⊎ ((m ≡ 6) ⊎ ((m ≡ 9) ⊎ (m ≡ 11))) → 30 ≡ month_length m y
unfolding month_length
thirty m y (inl e) = rw e
thirty m y (inr (inl e)) = rw e
thirty m y (inr (inr (inl e))) = rw e
thirty m y (inr (inr (inr e))) = rw e

-- what is left out by year and month
pub no_day : (d m y : ℕ) → (y < 2000) ⊎ (((2000 ≤ y) × (2099 < y)) ⊎ (((2000 ≤ y) × (y ≤ 2099) × (m < 1)) ⊎ ((2000 ≤ y) × (y ≤ 2099) × (1 ≤ m) × (12 < m)))) → false ≡ real_day d m y
unfolding real_day
no_day d m y (inl e) = rw (lt-leb 2000 y e)
no_day d m y (inr (inl e)) = rw (le-leb 2000 y e.0, lt-leb y 2099 e.1)
no_day d m y (inr (inr (inl e))) = rw (le-leb 2000 y e.0, le-leb y 2099 e.1, lt-leb 1 m e.2)
no_day d m y (inr (inr (inr e))) = rw (le-leb 2000 y e.0, le-leb y 2099 e.1, le-leb 1 m e.2, lt-leb m 12 e.3)

-- the highest day and month, and the least and the highest year
pub record Bounds (d m y : ℕ) : Type 0 where
  pub day : d ≤ 31
  pub month : m ≤ 12
  pub least : 2000 ≤ y
  pub year : y ≤ 2099

pub day_bounds : (d m y : ℕ) → real_day d m y ≡ true → Bounds d m y
unfolding real_day
day_bounds d m y e =
    let a = (and-eq-true_iff _ (leb d (month_length m y))).0 e in
    let b = (and-eq-true_iff _ (leb 1 d)).0 a.0 in
    let c = (and-eq-true_iff _ (leb m 12)).0 b.0 in
    let f = (and-eq-true_iff (leb 2000 y && leb y 2099) (leb 1 m)).0 c.0 in
    let g = (and-eq-true_iff (leb 2000 y) (leb y 2099)).0 f.0 in
    let most = month_most m y in
    record {
      day = omega (arith, leb-true d (month_length m y) a.1);
      month = leb-true m 12 c.1;
      least = leb-true 2000 y g.0;
      year = leb-true y 2099 g.1;
    }

pub calendar_worked : CalendarWorked
unfolding leap month_length real_day
calendar_worked = record {
  of_2023 = refl;
  of_2020 = refl;
  of_2000 = refl;
  first_day = refl;
  last_day = refl;
  day_before = refl;
  day_after = refl;
  day_0 = refl;
  day_32 = refl;
  month_0 = refl;
  month_13 = refl;
}
