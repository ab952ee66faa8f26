-- Runs of digits: in parts, as numbers, and as sums of their bytes. Assumes nothing.
use Rattle.std.specs.Prelude.{Option, Some, None}
use Prim.Native.Nat.{ℕ, zero, suc, ◌+◌, ◌-◌, ◌*◌, ◌^◌, ◌≤◌, ◌<◌}
use mathlib.Core.List.{List}
use mathlib.Core.Bool.{Bool, true, false, true≢false, ◌&&◌, and-eq-true_iff, and-true, and_assoc}
use mathlib.Core.Path.{◌≡◌, refl, sym, ap, ◌∙◌}
use native.Mathlib.Omega.{arith}
use native.Mathlib.Nat.{add-zero, zero-add, suc-add, pow-zero, pow-succ', mul_assoc, mul-le-mul_right, le_trans, le_of_eq, lt_of_lt_of_le}
use lib.Dec.{eqb, leb}
use lib.ListN.{get_or}
use borrow.Author.Tests.{le-leb, lt-leb, eq-eqb, ne_eqb}
use Rattle.digits.specs.Digits.{is_width, is_digit, number_from, number_at}
use Rattle.digits.proofs.Reading.{between}
use Rattle.digits.proofs.Tests.{by-test, by_less}
use Rattle.frames.specs.Rules.{up_to}
use Rattle.frames.specs.Shape.{all_from}
use Rattle.frames.specs.inside.Held.{or_none}
use Rattle.frames.specs.inside.Check.{is_zero}

module _ (s : List ℕ) where
  -- ---- a run in two parts

  pub all_apart : (rule : ℕ → Bool) (p a b : ℕ) → all_from rule s p (a + b) ≡ all_from rule s p a && all_from rule s (p + a) b
  unfolding all_from
  all_apart rule p zero b = ap (λ (n : ℕ). all_from rule s p n) (zero-add b) ∙ ap (λ (q : ℕ). all_from rule s q b) (sym (add-zero p))
  all_apart rule p (suc a) b =
      let e : suc p + a ≡ p + suc a = omega arith in
      ap (λ (n : ℕ). all_from rule s p n) (suc-add a b)
      ∙ ap (λ (t : Bool). rule (get_or s p 0) && t) (all_apart rule (suc p) a b ∙ ap (λ (q : ℕ). all_from rule s (suc p) a && all_from rule s q b) e)
      ∙ sym (and_assoc (rule (get_or s p 0)) (all_from rule s (suc p) a) (all_from rule s (p + suc a) b))

  pub parted : (rule : ℕ → Bool) (p a b : ℕ) → all_from rule s p (a + b) ≡ true → (all_from rule s p a ≡ true) × (all_from rule s (p + a) b ≡ true)
  parted rule p a b e = (and-eq-true_iff (all_from rule s p a) (all_from rule s (p + a) b)).0 (sym (all_apart rule p a b) ∙ e)

  pub joint : (rule : ℕ → Bool) (p a b : ℕ) → all_from rule s p a ≡ true → all_from rule s (p + a) b ≡ true → all_from rule s p (a + b) ≡ true
  joint rule p a b e f = all_apart rule p a b ∙ (and-eq-true_iff (all_from rule s p a) (all_from rule s (p + a) b)).1 (e, f)

  -- ---- the digits of a run

  abbrev DigitAt : ℕ → Type 0
  DigitAt p = (48 ≤ get_or s p 0) × (get_or s p 0 ≤ 57)

  first_digit : (p w : ℕ) → all_from is_digit s p (suc w) ≡ true → DigitAt p
  unfolding all_from
  first_digit p w e = between 48 57 (get_or s p 0) ((and-eq-true_iff (is_digit (get_or s p 0)) (all_from is_digit s (suc p) w)).0 e).0

  next_digits : (p w : ℕ) → all_from is_digit s p (suc w) ≡ true → all_from is_digit s (suc p) w ≡ true
  unfolding all_from
  next_digits p w e = ((and-eq-true_iff (is_digit (get_or s p 0)) (all_from is_digit s (suc p) w)).0 e).1

  later_digit : (p a w : ℕ) → all_from is_digit s p (a + suc w) ≡ true → DigitAt (p + a)
  later_digit p a w e = first_digit (p + a) w (parted is_digit p a (suc w) e).1

  -- ---- digits are a number, and other bytes are none

  -- the value of w digits from place p on, after digits whose value is v
  abbrev pub value_from : ℕ → ℕ → ℕ → ℕ
  value_from p zero v = v
  value_from p (suc w) v = value_from (suc p) w (v * 10 + (get_or s p 0 - 48))

  number_from_law : (p w v : ℕ) → all_from is_digit s p w ≡ true → number_from s p w v ≡ Some (value_from p w v)
  unfolding all_from number_from
  number_from_law p zero v e = refl
  number_from_law p (suc w) v e =
      let q = (and-eq-true_iff (is_digit (get_or s p 0)) (all_from is_digit s (suc p) w)).0 e in
      rw q.0 (number_from_law (suc p) w (v * 10 + (get_or s p 0 - 48)) q.1)

  none_from : (p w v : ℕ) → all_from is_digit s p w ≡ false → number_from s p w v ≡ None
  unfolding all_from number_from
  none_from p zero v e = absurd (true≢false e)
  none_from p (suc w) v e =
      by-test (is_digit (get_or s p 0))
      (λ q. let f : all_from is_digit s (suc p) w ≡ false = rw q at e in rw q (none_from (suc p) w (v * 10 + (get_or s p 0 - 48)) f))
      (λ q. rw q)

  pub is_number : (p w : ℕ) → is_width w ≡ true → all_from is_digit s p w ≡ true → number_at s p w ≡ Some (value_from p w 0)
  unfolding number_at
  is_number p w h e = rw h (number_from_law p w 0 e)

  -- where a test holds that is false without a number, there are digits
  pub digits_by : (test : Option ℕ → Bool) → test None ≡ false → (p w : ℕ) → is_width w ≡ true → test (number_at s p w) ≡ true → all_from is_digit s p w ≡ true
  unfolding number_at
  digits_by test none p w h e =
      by-test (all_from is_digit s p w) (λ q. q)
      (λ q.
      let f : number_at s p w ≡ None = rw h (none_from p w 0 q) in
      absurd (true≢false (sym e ∙ ap test f ∙ none)))

  -- ---- a number's bound by its first digit

  pub value_bounds : (p w v : ℕ) → all_from is_digit s p w ≡ true → (v * 10 ^ w ≤ value_from p w v) × (value_from p w v < suc v * 10 ^ w)
  value_bounds p zero v e = (omega (arith, pow-zero 10), omega (arith, pow-zero 10))
  value_bounds p (suc w) v e =
      let d = first_digit p w e in
      let x = v * 10 + (get_or s p 0 - 48) in
      let q = value_bounds (suc p) w x (next_digits p w e) in
      let low : v * 10 ≤ x = omega arith in
      let high : suc x ≤ suc v * 10 = omega (arith, d.0, d.1) in (
        le_trans (le_of_eq (shifted v)) (le_trans (mul-le-mul_right (10 ^ w) low) q.0),
        lt_of_lt_of_le q.1 (le_trans (mul-le-mul_right (10 ^ w) high) (le_of_eq (sym (shifted (suc v))))),
      )
    where
      shifted : (x : ℕ) → x * 10 ^ suc w ≡ x * 10 * 10 ^ w
      shifted x = ap (λ (n : ℕ). x * n) (pow-succ' 10 w) ∙ sym (mul_assoc x 10 (10 ^ w))

  -- `top` is the first digit of hi, and all digits after it are 9
  pub by_first : (p w top hi : ℕ) → is_width (suc w) ≡ true → suc hi ≡ suc top * 10 ^ w → all_from is_digit s p (suc w) ≡ true
      → up_to hi (or_none (number_at s p (suc w))) ≡ leb (get_or s p 0) (48 + top)
  unfolding up_to
  by_first p w top hi h k e =
      let b = get_or s p 0 in
      let d = first_digit p w e in
      let x = 0 * 10 + (b - 48) in
      let v = value_from (suc p) w x in
      let q = value_bounds (suc p) w x (next_digits p w e) in
      let is-v : or_none (number_at s p (suc w)) ≡ v = ap or_none (is_number p (suc w) h e) in
      by_less (48 + top) b
      (λ l.
      let m : suc top ≤ x = omega (arith, l) in
      ap (λ (n : ℕ). leb n hi) is-v ∙ lt-leb v hi (above k (mul-le-mul_right (10 ^ w) m) q.0) ∙ sym (lt-leb b (48 + top) l))
      (λ l.
      let m : suc x ≤ suc top = omega (arith, l) in
      ap (λ (n : ℕ). leb n hi) is-v ∙ le-leb v hi (within k (mul-le-mul_right (10 ^ w) m) q.1) ∙ sym (le-leb b (48 + top) l))
    where
      above : {n a v : ℕ} → suc hi ≡ n → n ≤ a → a ≤ v → hi < v
      above f g i = omega arith

      within : {n a v : ℕ} → suc hi ≡ n → a ≤ n → v < a → v ≤ hi
      within f g i = omega arith

  -- hi is the highest number of suc w digits
  pub by_width : (p w hi : ℕ) → is_width (suc w) ≡ true → suc hi ≡ 10 * 10 ^ w → all_from is_digit s p (suc w) ≡ true → up_to hi (or_none (number_at s p (suc w))) ≡ true
  by_width p w hi h k e = by_first p w 9 hi h k e ∙ le-leb (get_or s p 0) 57 (first_digit p w e).1

  -- ---- a turn of a loop over the digits of a number of at most four: n is what is read of them, the digits before place at + k

  value_least : (p w v : ℕ) → v ≤ value_from p w v
  value_least p zero v = omega arith
  value_least p (suc w) v = let q = value_least (suc p) w (v * 10 + (get_or s p 0 - 48)) in omega (arith, q)

  small : (w : ℕ) → w ≤ 4 → 10 ^ w ≤ 10000
  small zero h = omega arith
  small (suc zero) h = omega arith
  small (suc (suc zero)) h = omega arith
  small (suc (suc (suc zero))) h = omega arith
  small (suc (suc (suc (suc zero)))) h = omega arith
  small (suc (suc (suc (suc (suc w))))) h = absurd (omega (arith, h))

  module _ (at k w n : ℕ) (more : k < w) (digits : all_from is_digit s at w ≡ true) where
    pub digit_there : DigitAt (at + k)
    digit_there = let e : k + suc (w - suc k) ≡ w = omega (arith, more) in later_digit at k (w - suc k) (rw e digits)

    read_on : value_from (at + k) (w - k) n ≡ value_from (at + (k + 1)) (w - (k + 1)) (n * 10 + (get_or s (at + k) 0 - 48))
    read_on =
        let e : w - k ≡ suc (w - (k + 1)) = omega (arith, more) in
        let f : suc (at + k) ≡ at + (k + 1) = omega arith in
        rw (e, ← f)

    module _ (is : value_from (at + k) (w - k) n ≡ value_from at w 0) where
      pub number_goes : value_from (at + (k + 1)) (w - (k + 1)) (n * 10 + get_or s (at + k) 0 - 48) ≡ value_from at w 0
      number_goes =
          let e : n * 10 + get_or s (at + k) 0 - 48 ≡ n * 10 + (get_or s (at + k) 0 - 48) = omega (arith, digit_there.0) in
          rw e (sym read_on ∙ is)

      pub number_fits : w ≤ 4 → n * 10 + (get_or s (at + k) 0 - 48) < 10000
      number_fits h =
          let a = value_least (at + (k + 1)) (w - (k + 1)) (n * 10 + (get_or s (at + k) 0 - 48)) in
          let b = (value_bounds at w 0 digits).1 in
          let c = small w h in
          omega (arith, a, b, c, sym read_on ∙ is)

  pub number_done : (at k w n : ℕ) → w ≤ k → 1 ≤ w → w ≤ 4 → all_from is_digit s at w ≡ true → value_from (at + k) (w - k) n ≡ value_from at w 0 → n ≡ or_none (number_at s at w)
  number_done at k w n done low high digits is =
      let e : w - k ≡ 0 = omega (arith, done) in
      let width : is_width w ≡ true = rw (le-leb 1 w low, le-leb w 10 (omega (arith, high))) in
      let whole : n ≡ value_from at w 0 = rw e at is in
      whole ∙ sym (ap or_none (is_number at w width digits))

  -- ---- a number is 0 if its digits are

  digit_zero : (v b : ℕ) → 48 ≤ b → eqb (v * 10 + (b - 48)) 0 ≡ eqb v 0 && eqb b 48
  digit_zero zero b h =
      by_less 48 b
      (λ l. ne_eqb (0 * 10 + (b - 48)) 0 (λ z. absurd (omega (arith, l, z))) ∙ sym (ne_eqb b 48 (λ z. absurd (omega (arith, l, z)))))
      (λ l. eq-eqb (0 * 10 + (b - 48)) 0 (omega (arith, l)) ∙ sym (eq-eqb b 48 (omega (arith, l, h))))
  digit_zero (suc v) b h = ne_eqb (suc v * 10 + (b - 48)) 0 (λ z. absurd (omega (arith, z))) ∙ sym (ap (λ (t : Bool). t && eqb b 48) (ne_eqb (suc v) 0 (λ z. absurd (omega (arith, z)))))

  pub value_zero : (p w v : ℕ) → all_from is_digit s p w ≡ true → eqb (value_from p w v) 0 ≡ eqb v 0 && all_from is_zero s p w
  unfolding all_from
  value_zero p zero v e = sym (and-true (eqb v 0))
  value_zero p (suc w) v e =
      value_zero (suc p) w (v * 10 + (get_or s p 0 - 48)) (next_digits p w e)
      ∙ ap (λ (t : Bool). t && all_from is_zero s (suc p) w) (digit_zero v (get_or s p 0) (first_digit p w e).0)
      ∙ and_assoc (eqb v 0) (eqb (get_or s p 0) 48) (all_from is_zero s (suc p) w)

  pub number_zero : (p w : ℕ) → is_width w ≡ true → all_from is_digit s p w ≡ true → eqb (or_none (number_at s p w)) 0 ≡ all_from is_zero s p w
  number_zero p w h e = ap (λ (n : Option ℕ). eqb (or_none n) 0) (is_number p w h e) ∙ value_zero p w 0 e
