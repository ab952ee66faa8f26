-- Reading and writing a number are inverse, both ways and for every width. Assumes nothing.
use Prim.Native.Nat.{ℕ, zero, suc, ◌+◌, ◌-◌, ◌*◌, ◌/◌, ◌%◌, ◌^◌, ◌≤◌, ◌<◌}
use mathlib.Core.List.{List, [], ◌∷◌, ◌++◌, append_assoc}
use mathlib.Core.Bool.{Bool, true, false, cond}
use mathlib.Core.Path.{◌≡◌, refl, sym, ap, ◌∙◌}
use native.Mathlib.Omega.{arith}
use native.Mathlib.Nat.{add-zero, add-suc, suc-add, pow-suc, pow-zero, pow-le-pow_right}
use lib.ListN.{length, get_or, take, drop, length-append, length-drop}
use lib.Seq.{get_or_at, take-suc, get_or-drop}
use Rattle.std.specs.Prelude.{Option, Some, None}
use Rattle.digits.specs.Digits.{digits, number_from, number_at, is_digit, is_width}
use Rattle.digits.proofs.Reading.{inside, between, some_width}
use Rattle.digits.proofs.Writing.{length_digits}

-- ---- a number without its last digit

abbrev pub and_then : Option ℕ → ℕ → Option ℕ
and_then (Some v) b = cond (is_digit b) (Some (v * 10 + (b - 48))) None
and_then None b = None

and_then_cond : (t : Bool) (x : Option ℕ) (b : ℕ) → cond t (and_then x b) None ≡ and_then (cond t x None) b
and_then_cond true x b = refl
and_then_cond false x b = refl

pub last_apart : (s : List ℕ) (p w v : ℕ) → number_from s p (suc w) v ≡ and_then (number_from s p w v) (get_or s (p + w) 0)
unfolding number_from
last_apart s p zero v = rw (add-zero p)
last_apart s p (suc w) v =
    ap (λ (x : Option ℕ). cond (is_digit (get_or s p 0)) x None) (last_apart s (suc p) w (v * 10 + (get_or s p 0 - 48)))
    ∙ and_then_cond (is_digit (get_or s p 0)) (number_from s (suc p) w (v * 10 + (get_or s p 0 - 48))) (get_or s (suc p + w) 0)
    ∙ rw (suc-add p w, add-suc p w)

-- ---- what was written reads back

last_digit : (x : Option ℕ) (b n : ℕ) → x ≡ Some (n / 10) → b ≡ 48 + n % 10 → and_then x b ≡ Some n
last_digit x b n e q = rw (e, inside 48 57 b (omega arith) (omega arith)) (ap Some (omega arith))

pub value_of_digits : (w n : ℕ) (pre post : List ℕ) → n < 10 ^ w → number_from (pre ++ digits w n ++ post) (length pre) w 0 ≡ Some n
unfolding digits number_from
value_of_digits zero n pre post h = ap Some (omega (arith, pow-zero 10))
value_of_digits (suc w) n pre post h =
    let few : n / 10 < 10 ^ w = omega (arith, pow-suc 10 w) in
    let last : List ℕ = (48 + n % 10) ∷ post in
    let e : pre ++ (digits w (n / 10) ++ ((48 + n % 10) ∷ [])) ++ post ≡ pre ++ digits w (n / 10) ++ last = simp append_assoc in
    let long : length (pre ++ digits w (n / 10)) ≡ length pre + w = length-append pre (digits w (n / 10)) ∙ ap (λ (k : ℕ). length pre + k) (length_digits w (n / 10)) in
    ap (λ (s : List ℕ). number_from s (length pre) (suc w) 0) e
    ∙ last_apart (pre ++ digits w (n / 10) ++ last) (length pre) w 0
    ∙ last_digit (number_from (pre ++ digits w (n / 10) ++ last) (length pre) w 0) (get_or (pre ++ digits w (n / 10) ++ last) (length pre + w) 0) n
    (value_of_digits w (n / 10) pre last few)
    (get_or_at (pre ++ digits w (n / 10)) (48 + n % 10) post 0 (length pre + w) long)

pub written_is_read : (w n : ℕ) (pre post : List ℕ) → 1 ≤ w → w ≤ 10 → n < 10 ^ w → number_at (pre ++ digits w n ++ post) (length pre) w ≡ Some n
written_is_read w n pre post h k f = some_width (pre ++ digits w n ++ post) (length pre) w h k ∙ value_of_digits w n pre post f

-- ---- what was read is written the same way

-- the w digits of n are in s at place p, and n has no more than w digits
pub record Stands (s : List ℕ) (p w n : ℕ) : Type 0 where
  pub text : take w (drop p s) ≡ digits w n
  pub small : n < 10 ^ w

record Apart (x : Option ℕ) (b n : ℕ) : Type 0 where
  first : x ≡ Some (n / 10)
  last : b ≡ 48 + n % 10

apart : (x : Option ℕ) (b n : ℕ) → and_then x b ≡ Some n → Apart x b n
apart (Some m) b n e = go (is_digit b) refl e
  where
    go : (t : Bool) → is_digit b ≡ t → cond t (Some (m * 10 + (b - 48))) None ≡ Some n → Apart (Some m) b n
    go true q r =
        let k : m * 10 + (b - 48) ≡ n = cc in
        let d = between 48 57 b q in
        record { first = ap Some (omega arith); last = omega arith }
    go false q r = absurd (let z : ◌≡◌ {A = ℕ} 0 1 = cc in omega arith)
apart None b n e = absurd (let z : ◌≡◌ {A = ℕ} 0 1 = cc in omega arith)

within : (s : List ℕ) (i b : ℕ) → get_or s i 0 ≡ 48 + b → i < length s
within [] i b e = absurd (omega arith)
within (x ∷ s) zero b e = omega arith
within (x ∷ s) (suc i) b e = let h = within s i b e in omega arith

digits_of_value : (s : List ℕ) (p w n : ℕ) → number_from s p w 0 ≡ Some n → Stands s p w n
unfolding digits number_from
digits_of_value s p zero n e = let z : 0 ≡ n = cc in record { text = refl; small = omega (arith, pow-zero 10) }
digits_of_value s p (suc w) n e =
    let q = apart (number_from s p w 0) (get_or s (p + w) 0) n (sym (last_apart s p w 0) ∙ e) in
    let r = digits_of_value s p w (n / 10) q.first in
    let i : p + w < length s = within s (p + w) (n % 10) q.last in
    record {
      text = take-suc (drop p s) w 0 (omega (arith, length-drop p s)) ∙ rw (get_or-drop p s w 0, q.last, r.text);
      small = omega (arith, pow-suc 10 w, r.small);
    }

pub read_was_written : (w : ℕ) (s : List ℕ) (p n : ℕ) → number_at s p w ≡ Some n → Stands s p w n
unfolding number_at
read_was_written w s p n e = go (is_width w) refl e
  where
    go : (t : Bool) → is_width w ≡ t → cond t (number_from s p w 0) None ≡ Some n → Stands s p w n
    go true q r = digits_of_value s p w n r
    go false q r = absurd (let z : ◌≡◌ {A = ℕ} 0 1 = cc in omega arith)

-- a number of at most nine digits fits in 32 bits
pub small_number : (s : List ℕ) (p w n : ℕ) → w ≤ 9 → number_at s p w ≡ Some n → n < 4294967296
small_number s p w n h e =
    let l = (read_was_written w s p n e).small in
    let k : 10 ^ w ≤ 10 ^ 9 = pow-le-pow_right (omega arith) {i = w} {j = 9} h in omega arith
