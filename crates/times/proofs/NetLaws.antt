-- Net times: the value and the parts are inverse, both ways. Assumes nothing.
use mathlib.Core.Path.{◌≡◌, refl, sym, ap, ap₂, ◌∙◌}
use mathlib.Core.Bool.{Bool, true, false, not, ◌&&◌, and-eq-true_iff}
use Prim.Native.Nat.{ℕ, zero, suc, ◌+◌, ◌-◌, ◌*◌, ◌/◌, ◌%◌, ◌≤◌, ◌<◌}
use native.Mathlib.Omega.{arith}
use lib.Dec.{eqb, leb}
use lib.IntN.{ℤ, pos, negsuc, neg_ℤ, nat_abs, sub_ℕ}
use borrow.Author.Tests.{leb-true, le-leb, lt-leb, ne_eqb, not-true}
use Rattle.digits.proofs.Tests.{by_less}
use Rattle.times.specs.declared.net.NetParts.{NetParts}
use Rattle.std.specs.Prelude.{Some, None}
use Rattle.times.specs.Clock.{a_day, last_tick}
use Rattle.times.specs.Net.{is_below, is_net, net_sum, net_value, net_parts, NetInverse, NetRange, parts, NetWorked}
use Rattle.times.proofs.SignedLaws.{sub_none, neg_sub}

-- ---- a value is the sum of its parts

sum_of_parts : (v : ℤ) → net_sum (net_parts v) ≡ v
sum_of_parts (pos n) = ap pos (omega arith)
sum_of_parts (negsuc n) = let e : suc n / a_day * a_day + suc n % a_day ≡ suc n = omega arith in ap (λ (m : ℕ). neg_ℤ (pos m)) e

-- ---- and the parts of a sum are those that were added, if a minus is not in front of zero

parts_of_sum : (m : Bool) (d t : ℕ) → t < a_day → (m ≡ true → 0 < d * a_day + t) → net_parts (net_sum (parts m d t)) ≡ parts m d t
parts_of_sum true d t h q =
    let p = q refl in
    let k = d * a_day + t - 1 in
    let e : d * a_day + t ≡ suc k = omega arith in
    ap (λ (n : ℕ). net_parts (neg_ℤ (pos n))) e
    ∙ ap₂ (λ (x y : ℕ). parts true x y) (omega arith) (omega arith)
parts_of_sum false d t h q = ap₂ (λ (x y : ℕ). parts false x y) (omega arith) (omega arith)

-- ---- `net_value`

module _ (p : NetParts) where
  pub value_wrong : is_net p ≡ false → None ≡ net_value p
  unfolding net_value
  value_wrong e = rw e

  module _ (good : is_net p ≡ true) (z : ℤ) where
    pub value_minus : p.minus ≡ true → z ≡ sub_ℕ 0 (p.days * a_day + p.time) → Some z ≡ net_value p
    unfolding net_value
    value_minus m e = rw (good, m) (ap Some (e ∙ sym (neg_sub (p.days * a_day + p.time))))

    pub value_plus : p.minus ≡ false → z ≡ sub_ℕ (p.days * a_day + p.time) 0 → Some z ≡ net_value p
    unfolding net_value
    value_plus m e = rw (good, m) (ap Some (e ∙ sub_none (p.days * a_day + p.time)))

-- ---- both ways

-- what is known of a net time
pub record IsNet (p : NetParts) : Type 0 where
  pub days : p.days ≤ 9999999
  pub time : p.time < a_day
  pub not_minus_zero : p.minus ≡ true → 0 < p.days * a_day + p.time

pub net_is : (p : NetParts) → is_net p ≡ true → IsNet p
unfolding is_net
net_is p e =
    let a = (and-eq-true_iff (leb p.days 9999999 && leb p.time last_tick) _).0 e in
    let b = (and-eq-true_iff (leb p.days 9999999) (leb p.time last_tick)).0 a.0 in
    record {
      days = leb-true p.days 9999999 b.0;
      time = omega (arith, leb-true p.time last_tick b.1);
      not_minus_zero = λ m. some p.days p.time (not-true _ (rw m at a.1));
    }
  where
    some : (d t : ℕ) → (eqb d 0 && eqb t 0) ≡ false → 0 < d * a_day + t
    some zero zero q = absurd (let z : ◌≡◌ {A = ℕ} 0 1 = cc in omega arith)
    some zero (suc t) q = omega arith
    some (suc d) t q = omega arith

pub net_inverse : NetInverse
net_inverse = record { back = λ p e. let a = net_is p e in parts_of_sum p.minus p.days p.time a.time a.not_minus_zero; again = sum_of_parts }

-- ---- which values there are

pub net_range : NetRange
unfolding is_net
net_range v =
    by_less (nat_abs v) 8640000000000000
    (λ h. rw (le-leb (nat_abs v / a_day) 9999999 (omega (arith, h)), le-leb (nat_abs v % a_day) last_tick (omega arith), le-leb (nat_abs v) 8639999999999999 (omega (arith, h))) (never_minus_zero v))
    (λ h. rw (lt-leb (nat_abs v / a_day) 9999999 (omega (arith, h)), lt-leb (nat_abs v) 8639999999999999 (omega (arith, h))) refl)
  where
    and_none : (b : Bool) → not (b && false) ≡ true
    and_none true = refl
    and_none false = refl

    never_minus_zero : (v : ℤ) → not (is_below v && (eqb (nat_abs v / a_day) 0 && eqb (nat_abs v % a_day) 0)) ≡ true
    never_minus_zero (pos n) = refl
    never_minus_zero (negsuc n) =
        by_less (suc n) a_day
        (λ h. rw (ne_eqb (suc n % a_day) 0 (λ z. absurd (omega (arith, z)))) (and_none (eqb (suc n / a_day) 0)))
        (λ h. rw (ne_eqb (suc n / a_day) 0 (λ z. absurd (omega (arith, z)))) refl)

pub net_worked : NetWorked
unfolding net_value is_net
net_worked = record {
  plus = refl;
  minus_second = refl;
  minus_day = refl;
  plus_zero = refl;
  minus_zero = refl;
  of_plus = refl;
  of_minus_second = refl;
  of_minus_day = refl;
  of_zero = refl;
}
