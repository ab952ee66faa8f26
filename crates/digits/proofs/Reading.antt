-- One digit of a number, as the loop reads it. Assumes nothing.
use Prim.Native.Nat.{ℕ, zero, suc, ◌+◌, ◌-◌, ◌*◌, ◌^◌, ◌≤◌, ◌<◌}
use mathlib.Core.List.{List}
use mathlib.Core.Bool.{Bool, true, false, cond, ◌&&◌, and-eq-true_iff}
use mathlib.Core.Logic.{◌⊎◌, inl, inr}
use mathlib.Core.Path.{◌≡◌, refl, ◌∙◌}
use native.Mathlib.Omega.{arith}
use native.Mathlib.Nat.{pow-suc, pow-le-pow_right, one-le-pow}
use native.Mathlib.Numerals.{add-one, sub-one}
use borrow.Author.Tests.{le-leb, lt-leb, leb-true}
use lib.Dec.{leb}
use lib.ListN.{length, get_or, take, drop, get_or-eq_default, length-drop}
use lib.Seq.{take_all, get_or-take, get_or-drop}
use Rattle.std.specs.Prelude.{Option, Some, None}
use Rattle.std.specs.List.{slice_range}
use Rattle.digits.specs.Digits.{number_from, number_at, is_digit}

-- ---- a number between two bounds

pub inside : (lo hi v : ℕ) → lo ≤ v → v ≤ hi → (leb lo v && leb v hi) ≡ true
inside lo hi v h k = rw (le-leb lo v h, le-leb v hi k)

pub under : (lo hi v : ℕ) → v < lo → (leb lo v && leb v hi) ≡ false
under lo hi v h = rw (lt-leb lo v h)

and_false : (a : Bool) → (a && false) ≡ false
and_false true = refl
and_false false = refl

pub over : (lo hi v : ℕ) → hi < v → (leb lo v && leb v hi) ≡ false
over lo hi v h = rw (lt-leb v hi h, and_false)

pub outside : (lo hi v : ℕ) → (v < lo) ⊎ ((lo ≤ v) × (hi < v)) → (leb lo v && leb v hi) ≡ false
outside lo hi v (inl h) = under lo hi v h
outside lo hi v (inr h) = over lo hi v h.1

pub between : (lo hi v : ℕ) → (leb lo v && leb v hi) ≡ true → (lo ≤ v) × (v ≤ hi)
between lo hi v e = let q = (and-eq-true_iff (leb lo v) (leb v hi)).0 e in (leb-true lo v q.0, leb-true v hi q.1)

-- ---- widths

pub some_width : (s : List ℕ) (p w : ℕ) → 1 ≤ w → w ≤ 10 → number_at s p w ≡ number_from s p w 0
unfolding number_at
some_width s p w h k = rw (inside 1 10 w h k)

pub no_width : (s : List ℕ) (p w : ℕ) → (w < 1) ⊎ ((1 ≤ w) × (10 < w)) → None ≡ number_at s p w
unfolding number_at
no_width s p w h = rw (outside 1 10 w h)

-- ---- a turn of the loop

step_wrong : (s : List ℕ) (p w v : ℕ) → 0 < w → is_digit (get_or s p 0) ≡ false → number_from s p w v ≡ None
unfolding number_from
step_wrong s p zero v h e = absurd (let z : ◌<◌ 0 0 = h in omega arith)
step_wrong s p (suc w) v h e = rw e

step_right : (s : List ℕ) (p w v : ℕ) → 0 < w → is_digit (get_or s p 0) ≡ true → number_from s p w v ≡ number_from s (p + 1) (w - 1) (v * 10 + (get_or s p 0 - 48))
unfolding number_from
step_right s p zero v h e = absurd (let z : ◌<◌ 0 0 = h in omega arith)
step_right s p (suc w) v h e = rw (e, add-one p, sub-one (suc w))

-- the same for a byte b that was read at p
module _ (s : List ℕ) (p w v b : ℕ) (more : 0 < w) (read : b ≡ get_or s p 0) where
  pub step_off : is_digit b ≡ false → number_from s p w v ≡ None
  step_off e = step_wrong s p w v more (rw (← read) e)

  pub step_on : 48 ≤ b → b ≤ 57 → number_from s p w v ≡ number_from s (p + 1) (w - 1) (v * 10 + (b - 48))
  step_on h k = rw read (step_right s p w v more (inside 48 57 (get_or s p 0) (omega arith) (omega arith)))

-- the bytes of a part that was cut in two steps
pub of_part : (s rest part : List ℕ) (at w i : ℕ) → rest ≡ slice_range s at (length s) → part ≡ slice_range rest 0 w → i < w → get_or part i 0 ≡ get_or s (at + i) 0
of_part s rest part at w i e q h =
    rw (q, e, get_or-take (w - 0) (take (length s - at) (drop at s)) i 0 (omega arith), take_all (length s - at) (drop at s) (omega (arith, length-drop at s))) (get_or-drop at s i 0)

pub step_done : (s : List ℕ) (p w v : ℕ) → w ≤ 0 → number_from s p w v ≡ Some v
unfolding number_from
step_done s p zero v h = refl
step_done s p (suc w) v h = absurd (omega arith)

-- ---- digits that are not all there

pub both_wrong : (t : Bool) → cond {A = Option ℕ} t None None ≡ None
both_wrong true = refl
both_wrong false = refl

too_short : (s : List ℕ) (p w v : ℕ) → 0 < w → length s < p + w → number_from s p w v ≡ None
unfolding number_from
too_short s p zero v h k = absurd (let z : ◌<◌ 0 0 = h in omega arith)
too_short s p (suc zero) v h k = rw (get_or-eq_default s 0 (let z : length s ≤ p = omega arith in z))
too_short s p (suc (suc w)) v h k = rw (too_short s (suc p) (suc w) (v * 10 + (get_or s p 0 - 48)) (omega arith) (omega arith)) (both_wrong (is_digit (get_or s p 0)))

pub no_room : (s : List ℕ) (p w : ℕ) → 1 ≤ w → w ≤ 10 → length s < p + w → number_at s p w ≡ None
no_room s p w h k l = some_width s p w h k ∙ too_short s p w 0 (omega arith) l

-- ---- the value of i digits

pub some_room : (w : ℕ) → 0 < 10 ^ w
some_room w = one-le-pow w 10 (omega arith)

pub nine_digits : (v i : ℕ) → i ≤ 9 → v < 10 ^ i → v < 1000000000
nine_digits v i h k = let e : 10 ^ i ≤ 10 ^ 9 = pow-le-pow_right (omega arith) {i = i} {j = 9} h in omega arith

pub grown : (v i d : ℕ) → d ≤ 9 → v < 10 ^ i → v * 10 + d < 10 ^ (i + 1)
grown v i d l h = rw (add-one i, pow-suc 10 i) (omega arith)
