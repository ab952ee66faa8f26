-- Signed numbers as differences of natural numbers, and what the machine makes of them. Assumes nothing.
use mathlib.Core.Path.{◌≡◌, refl, sym, ap, ap₂, ◌∙◌, subst}
use mathlib.Core.Bool.{Bool, true, false, cond}
use Prim.Native.Nat.{ℕ, zero, suc, ◌+◌, ◌-◌, ◌^◌, ◌≤◌, ◌<◌, zero-le}
use native.Mathlib.Nat.{add-zero, sub-zero, not-suc-le-zero}
use native.Mathlib.Omega.{arith}
use lib.Dec.{T, ltb}
use lib.IntN.{ℤ, pos, negsuc, neg_ℤ, sub_ℕ, nat_abs, ◌-ℤ◌}
use lib.Signed.{mag, lt_z, non_neg}
use mir.Syntax.{w64}
use mir.Val.{Fits, SFits, to_z, of_z}
use mir.ValLaws.{to_z_pos, to_z-of_z}
use borrow.Author.Tests.{lt-ltb, le-ltb, ltb-true}

-- ---- differences

pub sub_none : (a : ℕ) → sub_ℕ a 0 ≡ pos a
sub_none a = rw (le-ltb a 0 zero-le) (ap pos (sub-zero a))

pub sub_neg : (a b k : ℕ) → a + suc k ≡ b → sub_ℕ a b ≡ negsuc k
sub_neg a b k e = rw (lt-ltb a b (omega arith)) (ap negsuc (omega arith))

pub sub_pos : (a b k : ℕ) → b + k ≡ a → sub_ℕ a b ≡ pos k
sub_pos a b k e = rw (le-ltb a b (omega arith)) (ap pos (omega arith))

pub pos_pos : (a b : ℕ) → pos a -ℤ pos b ≡ sub_ℕ a b
pos_pos a zero = ap pos (add-zero a) ∙ sym (sub_none a)
pos_pos a (suc b) = refl

pub neg_sub : (n : ℕ) → neg_ℤ (pos n) ≡ sub_ℕ 0 n
neg_sub zero = refl
neg_sub (suc n) = sym (sub_neg 0 (suc n) n (omega arith))

-- ---- `diff`: two unsigned numbers, cast and subtracted

mag_pick : (b : Bool) (x y : ℤ) (k : ℕ) → mag x ≤ k → mag y ≤ k → mag (cond b x y) ≤ k
mag_pick true x y k h g = h
mag_pick false x y k h g = g

module _ (a b : ℕ) (ha : a < 2 ^ 63) (hb : b < 2 ^ 63) where
  pub machine_sub : to_z w64 a -ℤ to_z w64 b ≡ sub_ℕ a b
  machine_sub = ap₂ (λ (x y : ℤ). x -ℤ y) (to_z_pos w64 a (omega arith)) (to_z_pos w64 b (omega arith)) ∙ pos_pos a b

  pub machine_fits : SFits w64 (to_z w64 a -ℤ to_z w64 b)
  machine_fits =
      subst (λ (z : ℤ). SFits w64 z) (sym machine_sub)
      (record { sfits = omega (arith, mag_pick (ltb a b) (negsuc (b - suc a)) (pos (a - b)) 9223372036854775807 (omega arith) (omega arith)) })

-- ---- a signed number without its sign, as it is turned and cast

not_below_zero : (n : ℕ) {X : Type 0} → ltb n 0 ≡ true → X
not_below_zero n t = absurd (not-suc-le-zero (ltb-true n 0 t))

neg_size : (v : ℤ) → lt_z v (pos 0) ≡ true → negsuc 0 -ℤ v ≡ pos (mag v)
neg_size (pos n) t = not_below_zero n t
neg_size (negsuc n) t = sub_pos (suc n) 1 n (omega arith)

pos_size : (v : ℤ) → lt_z v (pos 0) ≡ false → (T (non_neg v)) × (nat_abs v ≡ mag v)
pos_size (pos n) t = (tt, refl)
pos_size (negsuc n) t = absurd (subst T t tt)

module _ (v : ℤ) (s : SFits w64 v) where
  -- the machine's value of v is v
  pub held : to_z w64 (of_z w64 v) ≡ v
  held = to_z-of_z w64 v s

  mag_fits : Fits w64 (mag v)
  mag_fits = let h = s.sfits in record { fits = omega arith }

  module _ (t : lt_z (to_z w64 (of_z w64 v)) (pos 0) ≡ true) where
    below_zero : lt_z v (pos 0) ≡ true
    below_zero = subst (λ (z : ℤ). lt_z z (pos 0) ≡ true) held t

    turned_is : negsuc 0 -ℤ to_z w64 (of_z w64 v) ≡ pos (mag v)
    turned_is = ap (λ (z : ℤ). negsuc 0 -ℤ z) held ∙ neg_size v below_zero

    pub turned_fits : SFits w64 (negsuc 0 -ℤ to_z w64 (of_z w64 v))
    turned_fits = let h = s.sfits in subst (λ (z : ℤ). SFits w64 z) (sym turned_is) (record { sfits = h })

    pub turned_held : to_z w64 (of_z w64 (negsuc 0 -ℤ to_z w64 (of_z w64 v))) ≡ pos (mag v)
    turned_held = to_z-of_z w64 _ turned_fits ∙ turned_is

    pub neg_casts : T (non_neg (pos (mag v))) × Fits w64 (nat_abs (pos (mag v)))
    neg_casts = (tt, mag_fits)

  module _ (t : lt_z (to_z w64 (of_z w64 v)) (pos 0) ≡ false) where
    not_below : lt_z v (pos 0) ≡ false
    not_below = subst (λ (z : ℤ). lt_z z (pos 0) ≡ false) held t

    pub pos_casts : T (non_neg v) × Fits w64 (nat_abs v)
    pos_casts = let r = pos_size v not_below in (r.0, subst (λ (n : ℕ). Fits w64 n) (sym r.1) mag_fits)
