-- What the code reads of a field, by what the field is, and the byte that it names if the field is wrong. Assumes nothing.
use Rattle.std.specs.Prelude.{Option, Some, None}
use Prim.Native.Nat.{ℕ, ◌+◌}
use mathlib.Core.List.{List, [], ◌∷◌}
use mathlib.Core.Bool.{Bool, true, false, cond}
use mathlib.Core.Path.{◌≡◌, refl, sym, ◌∙◌}
use native.Mathlib.Omega.{arith}
use lib.Dec.{T, ltb}
use lib.ListN.{get_or}
use Rattle.digits.specs.Digits.{number_at}
use Rattle.times.specs.Clock.{clock, is_time}
use Rattle.times.specs.Day.{real_day}
use Rattle.times.proofs.DayLaws.{day_bounds}
use Rattle.frames.specs.Shape.{value, number, pair, bytes_of}
use Rattle.frames.specs.Classes.{Classes, first_off, spoiled_place}
use Rattle.frames.specs.Field.{letter, time_of_day}
use Rattle.frames.specs.Layout.{Layout, field, wrong_unless}
use Rattle.frames.specs.Timing.{is_date, real_date, are_days, net_days, are_raw, raw_bytes}
use Rattle.frames.specs.inside.Held.{no_number, or_none}
use Rattle.frames.proofs.LayoutLaws.{HeldAs, Sees, sees_field}

held_number : (rule : ℕ → Bool) → rule no_number ≡ false → (x : Option ℕ) → HeldAs rule (value x) (or_none x)
held_number rule none (Some v) = refl
held_number rule none None = none

is_false : (b : Bool) → (b ≡ true → ⊥) → b ≡ false
is_false true f = absurd (f refl)
is_false false f = refl

-- a date with a part that is no number is no real day
held_date : (x y z : Option ℕ) → HeldAs is_date (pair (value x) (pair (value y) (value z))) (or_none x, (or_none y, or_none z))
held_date (Some d) (Some m) (Some y) = refl
held_date (Some d) (Some m) None = is_false (real_day d m no_number) (λ e. let b = day_bounds d m no_number e in let h = b.year in omega arith)
held_date (Some d) None z = is_false (real_day d no_number (or_none z)) (λ e. let b = day_bounds d no_number (or_none z) e in let h = b.month in omega arith)
held_date None y z = is_false (real_day no_number (or_none y) (or_none z)) (λ e. let b = day_bounds no_number (or_none y) (or_none z) e in let h = b.day in omega arith)

held_days : (rule : ℕ × ℕ → Bool) (sign : ℕ) → rule (sign, no_number) ≡ false → (x : Option ℕ) → HeldAs rule (pair (value (Some sign)) (value x)) (sign, or_none x)
held_days rule sign none (Some v) = refl
held_days rule sign none None = none

-- a date's parts, and a sign and days, as the code holds them
abbrev date_at : List ℕ → ℕ → ℕ × (ℕ × ℕ)
date_at s p = (or_none (number_at s p 2), (or_none (number_at s (p + 2) 2), or_none (number_at s (p + 2 + 2) 4)))

abbrev days_at : List ℕ → ℕ → ℕ × ℕ
days_at s p = (get_or s p 0, or_none (number_at s (p + 1) 7))

-- a field of one byte is its own spoiled byte
one_byte : (test : ℕ → Bool) (s : List ℕ) (at : ℕ) → spoiled_place (test ∷ []) s at ≡ at
unfolding first_off
one_byte test s at = go (test (get_or s at 0))
  where
    go : (t : Bool) → cond t at at ≡ at
    go true = refl
    go false = refl

module _ {R : Type 0} {at p w : ℕ} {s : List ℕ} {spoils : ℕ → ℕ} {r : R} where
  module _ {rule : ℕ → Bool} {part : R → ℕ} {next : ℕ → Layout R} where
    pub sees_letter : T (ltb 0 at) → spoils at ≡ at → (rule (get_or s p 0) ≡ true → Sees (next (get_or s p 0)) (p + 1) s spoils w r)
        → Sees (field at (letter rule) part next) p s spoils (wrong_unless (rule (get_or s p 0)) at w) r
    sees_letter some own rest = sees_field (get_or s p 0) some refl (own ∙ sym (one_byte rule s at)) rest

    pub sees_number : {classes : Classes} (n : ℕ) → T (ltb 0 at) → rule no_number ≡ false → spoils at ≡ spoiled_place classes s at
        → (rule (or_none (number_at s p n)) ≡ true → Sees (next (or_none (number_at s p n))) (p + n) s spoils w r)
        → Sees (field at (record { shape = number n; rule = rule; classes = classes }) part next) p s spoils (wrong_unless (rule (or_none (number_at s p n))) at w) r
    sees_number n some none spoiled rest = sees_field (or_none (number_at s p n)) some (held_number rule none (number_at s p n)) spoiled rest

    -- a single digit is its own spoiled byte too
    pub sees_digit : {test : ℕ → Bool} → T (ltb 0 at) → rule no_number ≡ false → spoils at ≡ at
        → (rule (or_none (number_at s p 1)) ≡ true → Sees (next (or_none (number_at s p 1))) (p + 1) s spoils w r)
        → Sees (field at (record { shape = number 1; rule = rule; classes = test ∷ [] }) part next) p s spoils (wrong_unless (rule (or_none (number_at s p 1))) at w) r
    sees_digit {test} some none own rest = sees_number 1 some none (own ∙ sym (one_byte test s at)) rest

  pub sees_time : {part : R → ℕ} {next : ℕ → Layout R} → T (ltb 0 at) → spoils at ≡ spoiled_place time_of_day.classes s at
      → (is_time (or_none (clock.got s p)) ≡ true → Sees (next (or_none (clock.got s p))) (p + 10) s spoils w r)
      → Sees (field at time_of_day part next) p s spoils (wrong_unless (is_time (or_none (clock.got s p))) at w) r
  sees_time some spoiled rest = sees_field (or_none (clock.got s p)) some (held_number is_time refl (clock.got s p)) spoiled rest

  pub sees_raw : {part : R → List ℕ} {next : List ℕ → Layout R} (n : ℕ) → T (ltb 0 at) → spoils at ≡ spoiled_place (raw_bytes n).classes s at
      → (are_raw n (bytes_of s p n) ≡ true → Sees (next (bytes_of s p n)) (p + n) s spoils w r)
      → Sees (field at (raw_bytes n) part next) p s spoils (wrong_unless (are_raw n (bytes_of s p n)) at w) r
  sees_raw n some spoiled rest = sees_field (bytes_of s p n) some refl spoiled rest

  pub sees_date : {part : R → ℕ × (ℕ × ℕ)} {next : ℕ × (ℕ × ℕ) → Layout R} → T (ltb 0 at) → spoils at ≡ spoiled_place real_date.classes s at
      → (is_date (date_at s p) ≡ true → Sees (next (date_at s p)) (p + 8) s spoils w r) → Sees (field at real_date part next) p s spoils (wrong_unless (is_date (date_at s p)) at w) r
  sees_date some spoiled rest = sees_field (date_at s p) some (held_date (number_at s p 2) (number_at s (p + 2) 2) (number_at s (p + 2 + 2) 4)) spoiled rest

  pub sees_days : {part : R → ℕ × ℕ} {next : ℕ × ℕ → Layout R} (ticks : ℕ) → T (ltb 0 at) → are_days ticks (get_or s p 0, no_number) ≡ false → spoils at ≡ spoiled_place (net_days ticks).classes s at
      → (are_days ticks (days_at s p) ≡ true → Sees (next (days_at s p)) (p + 8) s spoils w r) → Sees (field at (net_days ticks) part next) p s spoils (wrong_unless (are_days ticks (days_at s p)) at w) r
  sees_days ticks some none spoiled rest = sees_field (days_at s p) some (held_days (are_days ticks) (get_or s p 0) none (number_at s (p + 1) 7)) spoiled rest
