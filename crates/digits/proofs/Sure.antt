-- An answer has only refusals of the table if every refusal in its tests is one. Assumes nothing.
use Prim.Native.Nat.{ℕ, zero, suc, ◌≤◌}
use mathlib.Core.Bool.{Bool, true, false, true≢false}
use mathlib.Core.Path.{◌≡◌, refl, ap, sym, ◌∙◌}
use native.Mathlib.Omega.{arith}
use Rattle.digits.specs.declared.refusal.Refusal.{Refusal}
use Rattle.digits.specs.Refusals.{spoiled_at, plain, is_refusal, TableWorked}
use Rattle.digits.specs.Told.{Told, gives, refuses, tried, Sure}

pub never_0 : (f : Refusal) → is_refusal f ≡ true → 1 ≤ f.number
never_0 f e = go f.number e
  where
    go : (n : ℕ) → is_refusal (spoiled_at n f.offset f.spoiled) ≡ true → 1 ≤ n
    go zero e = absurd (true≢false (sym e))
    go (suc n) e = omega arith

module _ {A : Type 0} where
  refusal_or : Told A → Refusal → Refusal
  refusal_or (gives a) none = none
  refusal_or (refuses f) none = f

  given : Told A → Bool
  given (gives a) = true
  given (refuses f) = false

  -- different refusals are different answers, and no refusal is an answer that gives a value
  pub same_refusal : (f g : Refusal) → ◌≡◌ {A = Told A} (refuses f) (refuses g) → f ≡ g
  unfolding refusal_or
  same_refusal f g e = ap (λ (t : Told A). refusal_or t (plain 0)) e

  pub not_refused : (a : A) (f : Refusal) → gives a ≡ refuses f → ⊥
  unfolding given
  not_refused a f e = true≢false (ap given e)

  pub sure_refuses : (f : Refusal) → is_refusal f ≡ true → Sure {A = A} (refuses f)
  sure_refuses f h g e = sym (ap is_refusal (same_refusal f g e)) ∙ h

  pub sure_gives : (a : A) → Sure (gives a)
  sure_gives a f e = absurd (not_refused a f e)

  pub sure_tried : (b : Bool) (f : Refusal) (rest : Told A) → (b ≡ false → is_refusal f ≡ true) → Sure rest → Sure (tried b f rest)
  sure_tried true f rest h s = s
  sure_tried false f rest h s = sure_refuses f (h refl)

pub table_worked : TableWorked
table_worked = record { numbers = refl; offsets = refl; spoiled_bytes = refl; field_numbers = λ o p. refl; record_numbers = λ o. refl; none_0 = refl; last_17 = refl; none_18 = refl; field_placed = refl; field_own = refl; spoiled_before = refl; field_nowhere = refl; record_placed = refl; record_spoiled = refl; room_placed = refl; room_spoiled = refl }
