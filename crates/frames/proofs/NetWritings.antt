-- Writings of net times and their values belong together one to one. Assumes nothing.
use Prim.Native.Nat.{ℕ, zero, suc, ◌+◌, ◌*◌, ◌/◌, ◌%◌, ◌≤◌, ◌<◌}
use mathlib.Core.List.{append_assoc}
use mathlib.Core.Bool.{Bool, true, false, cond, ◌&&◌, ◌||◌, and-eq-true_iff}
use mathlib.Core.Path.{◌≡◌, refl, ap}
use native.Mathlib.Omega.{arith}
use lib.Dec.{eqb, leb, ltb}
use lib.IntN.{ℤ, pos, negsuc, neg_ℤ, nat_abs}
use borrow.Author.Tests.{leb-true, le-leb, ltb-true, lt-ltb, eqb-true}
use Rattle.digits.proofs.Tests.{and_true}
use Rattle.times.specs.Clock.{a_day}
use Rattle.times.specs.Net.{is_below}
use Rattle.times.proofs.ClockLaws.{split_ticks, time_text}
use Rattle.frames.specs.Timing.{sign_of}
use Rattle.frames.specs.NetTimes.{Writing, text_of, size_of, value_of, fits_digits, is_writing, was_writing, is_value}
use Rattle.frames.specs.inside.Timing.{net_text}
use Rattle.frames.proofs.RuleLaws.{or_cases}

-- ---- the writing of a value

abbrev pub writing_of : ℤ → Writing
writing_of v =
    let t = nat_abs v % a_day in
    record { hours = t / 36000000; minutes = t / 600000 % 60; seconds = t / 10000 % 60; fraction = t % 10000; sign = sign_of (is_below v); days = nat_abs v / a_day }

-- it is what the code stores
pub writing_text : (v : ℤ) → net_text v ≡ text_of (writing_of v)
writing_text v = rw (time_text (nat_abs v % a_day)) (simp append_assoc)

size_of_writing : (v : ℤ) → size_of (writing_of v) ≡ nat_abs v
size_of_writing v = of_size (nat_abs v)
  where
    of_size : (n : ℕ) → n / a_day * 864000000 + (n % a_day / 36000000 * 36000000 + (n % a_day / 600000 % 60 * 600000 + (n % a_day / 10000 % 60 * 10000 + n % a_day % 10000))) ≡ n
    of_size n = omega arith

pub value_of_writing : (v : ℤ) → value_of (writing_of v) ≡ v
value_of_writing (pos n) = ap pos (size_of_writing (pos n))
value_of_writing (negsuc n) = ap (λ (m : ℕ). neg_ℤ (pos m)) (size_of_writing (negsuc n))

pub writing_good : (v : ℤ) → is_value v ≡ true → is_writing (writing_of v) ≡ true
unfolding is_writing
writing_good v e =
    let n = nat_abs v in
    let t = n % a_day in
    rw (le-leb (t / 36000000) 23 (omega arith), le-leb (t / 600000 % 60) 59 (omega arith), le-leb (t / 10000 % 60) 59 (omega arith), le-leb (t % 10000) 9999 (omega arith), le-leb (n / a_day) 9999999 (omega (arith, leb-true n 8639999999999999 e))) (signed v)
  where
    signed : (v : ℤ) → (eqb (sign_of (is_below v)) 43 || (eqb (sign_of (is_below v)) 45 && ltb 0 (size_of (writing_of v)))) ≡ true
    signed (pos n) = refl
    signed (negsuc n) = lt-ltb 0 (size_of (writing_of (negsuc n))) (omega (arith, size_of_writing (negsuc n)))

-- ---- the value of a writing

data Sign (w : Writing) : Type 0 where
  plus : w.sign ≡ 43 → Sign w
  minus : w.sign ≡ 45 → 0 < size_of w → Sign w

record IsWriting (w : Writing) : Type 0 where
  hours : w.hours ≤ 23
  minutes : w.minutes ≤ 59
  seconds : w.seconds ≤ 59
  fraction : w.fraction ≤ 9999
  days : w.days ≤ 9999999
  sign : Sign w

writing_is : (w : Writing) → is_writing w ≡ true → IsWriting w
unfolding is_writing
writing_is w e =
    let a = (and-eq-true_iff (fits_digits w) (eqb w.sign 43 || (eqb w.sign 45 && ltb 0 (size_of w)))).0 e in
    let b = (and-eq-true_iff _ (leb w.days 9999999)).0 a.0 in
    let c = (and-eq-true_iff _ (leb w.fraction 9999)).0 b.0 in
    let d = (and-eq-true_iff _ (leb w.seconds 59)).0 c.0 in
    let f = (and-eq-true_iff (leb w.hours 23) (leb w.minutes 59)).0 d.0 in
    record {
      hours = leb-true _ _ f.0;
      minutes = leb-true _ _ f.1;
      seconds = leb-true _ _ d.1;
      fraction = leb-true _ _ c.1;
      days = leb-true _ _ b.1;
      sign = or_cases (eqb w.sign 43) (eqb w.sign 45 && ltb 0 (size_of w)) (Sign w)
          (λ p. plus (eqb-true _ _ p))
          (λ p. let q = (and-eq-true_iff (eqb w.sign 45) (ltb 0 (size_of w))).0 p in minus (eqb-true _ _ q.0) (ltb-true _ _ q.1))
          a.1;
    }

value_size : (w : Writing) → nat_abs (value_of w) ≡ size_of w
value_size w = either (eqb w.sign 45) (size_of w)
  where
    either : (b : Bool) (n : ℕ) → nat_abs (cond b (neg_ℤ (pos n)) (pos n)) ≡ n
    either true zero = refl
    either true (suc n) = refl
    either false n = refl

value_sign : (w : Writing) → Sign w → sign_of (is_below (value_of w)) ≡ w.sign
value_sign w (plus e) = rw e
value_sign w (minus e h) = rw e (below (size_of w) h)
  where
    below : (n : ℕ) → 0 < n → sign_of (is_below (neg_ℤ (pos n))) ≡ 45
    below zero h = absurd (omega arith)
    below (suc n) h = refl

same_writing : {a a' b b' c c' d d' e e' f f' : ℕ} → a ≡ a' → b ≡ b' → c ≡ c' → d ≡ d' → e ≡ e' → f ≡ f'
    → ◌≡◌ {A = Writing} (record { hours = a; minutes = b; seconds = c; fraction = d; sign = e; days = f }) (record { hours = a'; minutes = b'; seconds = c'; fraction = d'; sign = e'; days = f' })
same_writing p q r s t u i = record { hours = p i; minutes = q i; seconds = r i; fraction = s i; sign = t i; days = u i }

-- taken apart, the value of a writing gives the writing again
pub writing_again : (w : Writing) → is_writing w ≡ true → writing_of (value_of w) ≡ w
writing_again w e =
    let g = writing_is w e in
    let n = nat_abs (value_of w) in
    let size = value_size w in
    let h = g.hours in
    let m = g.minutes in
    let s = g.seconds in
    let f = g.fraction in
    let days : n / a_day ≡ w.days = omega arith in
    let time : n % a_day ≡ ((w.hours * 60 + w.minutes) * 60 + w.seconds) * 10000 + w.fraction = omega arith in
    let q = split_ticks w.hours w.minutes w.seconds w.fraction m s f (n % a_day) time in
    same_writing q.0 q.1 q.2 q.3 (value_sign w g.sign) days

pub writing_value : (w : Writing) → is_writing w ≡ true → is_value (value_of w) ≡ true
writing_value w e =
    let g = writing_is w e in
    let h = g.hours in
    let m = g.minutes in
    let s = g.seconds in
    let f = g.fraction in
    let d = g.days in
    le-leb (nat_abs (value_of w)) 8639999999999999 (omega (arith, value_size w))

-- a good writing of the rule before is good still
pub writing_stays : (w : Writing) → was_writing w ≡ true → is_writing w ≡ true
unfolding was_writing is_writing
writing_stays w e =
    let a = (and-eq-true_iff (fits_digits w) (eqb w.sign 43 || (eqb w.sign 45 && ltb 0 w.days))).0 e in
    and_true a.0
    (or_cases (eqb w.sign 43) (eqb w.sign 45 && ltb 0 w.days) ((eqb w.sign 43 || (eqb w.sign 45 && ltb 0 (size_of w))) ≡ true)
    (λ p. rw p)
    (λ p.
    let q = (and-eq-true_iff (eqb w.sign 45) (ltb 0 w.days)).0 p in
    let k = ltb-true 0 w.days q.1 in
    rw (eqb-true w.sign 45 q.0, lt-ltb 0 (size_of w) (omega arith)))
    a.1)
