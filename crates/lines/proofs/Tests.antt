-- Tests on all elements of a list, and cases by a step. Assumes nothing.
use Prim.Native.Nat.{ℕ, zero, suc}
use mathlib.Core.Bool.{Bool, true, false≢true}
use mathlib.Core.List.{List, [], ◌∷◌, ◌++◌}
use mathlib.Core.Path.{◌≡◌, refl}
use native.Mathlib.Omega.{arith}
use lib.ListN.{take}
use Rattle.digits.proofs.Tests.{and_true, and_l, and_r}
use Rattle.lines.specs.Lines.{is_empty, every}
use Rattle.lines.specs.Machine.{Step, refused, next}

module _ {A : Type 0} where
  pub empty_is : (xs : List A) → is_empty xs ≡ true → xs ≡ []
  empty_is [] h = refl
  empty_is (x ∷ xs) h = absurd (false≢true h)

  module _ (p : A → Bool) where
    pub every_cons : (x : A) (xs : List A) → every p (x ∷ xs) ≡ true → (p x ≡ true) × (every p xs ≡ true)
    every_cons x xs h = (and_l (p x) (every p xs) h, and_r (p x) (every p xs) h)

    pub every_append : (xs ys : List A) → every p xs ≡ true → every p ys ≡ true → every p (xs ++ ys) ≡ true
    every_append [] ys h k = k
    every_append (x ∷ xs) ys h k = let c = every_cons x xs h in and_true c.0 (every_append xs ys c.1 k)

    pub every_front : (xs ys : List A) → every p (xs ++ ys) ≡ true → every p xs ≡ true
    every_front [] ys h = refl
    every_front (x ∷ xs) ys h = let c = every_cons x (xs ++ ys) h in and_true c.0 (every_front xs ys c.1)

    pub every_take : (n : ℕ) (xs : List A) → every p xs ≡ true → every p (take n xs) ≡ true
    every_take zero xs h = refl
    every_take (suc n) [] h = refl
    every_take (suc n) (x ∷ xs) h = let c = every_cons x xs h in and_true c.0 (every_take n xs c.1)

  -- a step is refused, or it leads to a state
  pub by_step : {P : Type 0} (o : Step A) → (o ≡ refused → P) → ((a : A) → o ≡ next a → P) → P
  by_step refused f g = f refl
  by_step (next a) f g = g a refl

  pub not_both : (o : Step A) (a : A) → o ≡ next a → o ≡ refused → ⊥
  not_both o a p q = let z : ◌≡◌ {A = ℕ} 0 1 = cc in omega arith
