-- A number in decimal is shown whole, and how many digits it has. Assumes nothing.
use Prim.Native.Nat.{ℕ, zero, suc, ◌+◌, ◌-◌, ◌/◌, ◌%◌, ◌^◌, ◌≤◌, ◌<◌}
use mathlib.Core.List.{List, [], ◌∷◌, append-nil}
use mathlib.Core.Bool.{true}
use mathlib.Core.Path.{◌≡◌, refl, sym, ap, ◌∙◌}
use native.Mathlib.Omega.{arith}
use native.Mathlib.Nat.{pow-suc, pow-zero}
use lib.ListN.{length, get_or, get_or-append}
use lib.Seq.{sets}
use lib.Dec.{ltb}
use borrow.Author.Tests.{le-leb, lt-ltb, le-ltb, ltb-true}
use Rattle.digits.specs.Digits.{digits, number_from, is_put_width, number_text}
use Rattle.digits.proofs.Tests.{by-test, by_less, and_true}
use Rattle.digits.proofs.Writing.{length_digits}
use Rattle.digits.proofs.Laws.{value_of_digits}
use Rattle.text.specs.Put.{place_after, Put}
use Rattle.text.specs.Decimal.{width_within, width, decimal, DecimalIsWhole}

-- ---- a number has one digit, or one more than without its last

pub one_digit_law : (k n : ℕ) → n < 10 → width_within k n ≡ 1
unfolding width_within
one_digit_law zero n h = refl
one_digit_law (suc k) n h = rw (lt-ltb n 10 h)

pub more_digits : (k n : ℕ) → 10 ≤ n → width_within (suc k) n ≡ suc (width_within k (n / 10))
unfolding width_within
more_digits k n h = rw (le-ltb n 10 h)

within_one : (n : ℕ) → width_within zero n ≡ 1
unfolding width_within
within_one n = refl

-- ---- bounds

within_some : (k n : ℕ) → (1 ≤ width_within k n) × (width_within k n ≤ suc k)
unfolding width_within
within_some zero n = (omega arith, omega arith)
within_some (suc k) n =
    let r = within_some k (n / 10) in
    by-test (ltb n 10) (λ e. rw e (omega arith, omega arith)) (λ e. rw e (omega arith, omega (arith, r.1)))

within_grows : (k n m : ℕ) → n ≤ m → width_within k n ≤ width_within k m
within_grows zero n m h = rw (within_one n, within_one m) (omega arith)
within_grows (suc k) n m h =
    by_less n 10
    (λ l. let w = within_some (suc k) m in let e = one_digit_law (suc k) n l in omega (arith, w.0, e))
    (λ l.
    let r = within_grows k (n / 10) (m / 10) (omega arith) in
    let a = more_digits k n l in
    let b = more_digits k m (omega arith) in
    omega (arith, r, a, b))

within_holds : (k n : ℕ) → n < 10 ^ suc k → n < 10 ^ width_within k n
unfolding width_within
within_holds zero n l = l
within_holds (suc k) n l =
    by-test (ltb n 10)
    (λ e. rw e (ltb-true n 10 e))
    (λ e.
    let r = within_holds k (n / 10) (omega (arith, l, pow-suc 10 (suc k))) in
    rw e (omega (arith, r, pow-suc 10 (width_within k (n / 10)))))

-- no digit is too many
within_least : (k n v : ℕ) → 1 ≤ n → width_within k n ≡ suc v → 10 ^ v ≤ n
unfolding width_within
within_least k n zero h e = omega (arith, h, pow-zero 10)
within_least zero n (suc v) h e = absurd (omega (arith, e))
within_least (suc k) n (suc v) h e =
    by_less n 10
    (λ l. absurd (let q = one_digit_law (suc k) n l in omega (arith, q, e)))
    (λ l.
    let q = more_digits k n l in
    let r = within_least k (n / 10) v (omega arith) (omega (arith, q, e)) in
    omega (arith, r, pow-suc 10 v))

pub width_some : (n : ℕ) → (1 ≤ width n) × (width n ≤ 20)
unfolding width
width_some n = within_some 19 n

-- a smaller number has no more digits
pub width_grows : (n m : ℕ) → n ≤ m → width n ≤ width m
unfolding width
width_grows n m h = within_grows 19 n m h

pub decimal_length : (n : ℕ) → length (decimal n) ≡ width n
unfolding decimal
decimal_length n = length_digits (width n) n

-- ---- digits counted from the last one to the first, as the loop does it: w of them, up to the last digit of m

pub record Counted (n m w : ℕ) : Type 0 where
  pub most : w ≤ 20
  pub fits : m < 10 ^ (21 - w)
  pub rest : w + width_within (20 - w) m ≡ suc (width n)

pub counted_one : (n : ℕ) → n < 2 ^ 64 → Counted n n 1
unfolding width
counted_one n l = record { most = omega arith; fits = omega (arith, l); rest = omega arith }

pub counted_more : (n m w : ℕ) → 9 < m → Counted n m w → Counted n (m / 10) (w + 1)
counted_more n m w h c =
    by_less w 20
    (λ l.
    let a : 20 - w ≡ suc (20 - (w + 1)) = omega arith in
    let b : 21 - w ≡ suc (21 - (w + 1)) = omega arith in
    let d : w + suc (width_within (20 - (w + 1)) (m / 10)) ≡ suc (width n) = rw (a, more_digits (20 - (w + 1)) m h) at c.rest in
    let f : m < 10 ^ suc (21 - (w + 1)) = rw b at c.fits in
    record { most = omega arith; fits = omega (arith, f, pow-suc 10 (21 - (w + 1))); rest = omega (arith, d) })
    (λ l.
    let e : 21 - w ≡ 1 = omega (arith, c.most) in
    let f : m < 10 ^ 1 = rw e at c.fits in
    absurd (omega arith))

pub counted_all : (n m w : ℕ) → m ≤ 9 → Counted n m w → w ≡ width n
counted_all n m w h c = let e = one_digit_law (20 - w) m (omega arith) in omega (arith, c.rest, e)

-- ---- whole

-- a number whose first digit is 0 has one digit too many
first_zero : (w n : ℕ) → n < 10 ^ suc w → get_or (digits (suc w) n) 0 0 ≡ 48 → n < 10 ^ w
unfolding digits
first_zero zero n l z = omega (arith, z)
first_zero (suc w) n l z =
    let p = pow-suc 10 (suc w) in
    let q = pow-suc 10 w in
    let e = get_or-append (digits (suc w) (n / 10)) ((48 + n % 10) ∷ []) 0 0 (omega (arith, length_digits (suc w) (n / 10))) in
    let h = first_zero w (n / 10) (omega (arith, l, p)) (sym e ∙ z) in
    omega (arith, h, q)

zero_plain : decimal 0 ≡ 48 ∷ []
unfolding decimal width width_within digits
zero_plain = refl

plain_whole : (n v : ℕ) → n < 10 ^ 20 → width n ≡ suc v → get_or (decimal n) 0 0 ≡ 48 → decimal n ≡ 48 ∷ []
unfolding decimal width
plain_whole zero v l e z = zero_plain
plain_whole (suc n) v l e z =
    let f : get_or (digits (suc v) (suc n)) 0 0 ≡ 48 = rw e at z in
    let h : suc n < 10 ^ suc v = rw e at (within_holds 19 (suc n) l) in
    absurd (let a = first_zero v (suc n) h f in let b = within_least 19 (suc n) v (omega arith) e in omega (arith, a, b))

pub decimal_is_whole : DecimalIsWhole
unfolding decimal width
decimal_is_whole n l =
    let w = width_some n in
    let d = decimal_length n in
    record {
      some = omega (arith, w.0, d);
      reads = rw (length_digits (width n) n) (ap (λ (s : List ℕ). number_from s 0 (width n) 0) (sym (append-nil (digits (width n) n))) ∙ value_of_digits (width n) n [] [] (within_holds 19 n l));
      plain = plain_whole n (width n - 1) l (omega (arith, w.0));
    }

-- ---- as the digits are put

pub put_digits : (out : List ℕ) (at n w end : ℕ) (out' : List ℕ) → w ≡ width n → end ≡ place_after at w → out' ≡ sets out at (number_text w n) → Put out at (decimal n) end out'
unfolding decimal
put_digits out at n w end out' e q h =
    let s = width_some n in
    let i : is_put_width (width n) ≡ true = and_true (le-leb 1 (width n) s.0) (le-leb (width n) 20 s.1) in
    record { next = rw (length_digits (width n) n, ← e) q; bytes = h ∙ rw (e, i) }
