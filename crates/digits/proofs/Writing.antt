-- Runs of stores, and a number stored from its last digit on. Assumes nothing.
use Prim.Native.Nat.{ℕ, zero, suc, ◌+◌, ◌-◌, ◌/◌, ◌%◌, ◌≤◌, ◌<◌, min}
use mathlib.Core.List.{List, [], ◌∷◌, ◌++◌}
use mathlib.Core.Path.{◌≡◌, refl, sym, ap, ◌∙◌}
use native.Mathlib.Omega.{arith}
use native.Mathlib.Nat.{add-zero, add-suc, suc-add}
use native.Mathlib.Numerals.{add-one, sub-one}
use lib.ListN.{length, get_or, take, drop, set, length-append, take-append-drop}
use lib.Seq.{sets, set_comm, set_out, take_all, length-take-le, length-sets, take-suc}
use Rattle.digits.specs.Digits.{digits, number_text}
use Rattle.digits.proofs.Tests.{by_less}
use Rattle.digits.proofs.Reading.{inside}

pub length_digits : (w n : ℕ) → length (digits w n) ≡ w
unfolding digits
length_digits zero n = refl
length_digits (suc w) n = length-append (digits w (n / 10)) _ ∙ rw (length_digits w (n / 10)) (add-one w)

-- two runs, one after the other, are one
pub sets_append : {A : Type 0} (l : List A) (i : ℕ) (xs ys : List A) → sets l i (xs ++ ys) ≡ sets (sets l i xs) (i + length xs) ys
sets_append l i [] ys = rw (add-zero i)
sets_append l i (a ∷ xs) ys = sets_append (set l i a) (suc i) xs ys ∙ rw (add-suc i (length xs), suc-add i (length xs))

-- a run that starts past the end stores nothing
pub sets_beyond : {A : Type 0} (l : List A) (i : ℕ) (vs : List A) → length l ≤ i → sets l i vs ≡ l
sets_beyond l i [] h = refl
sets_beyond l i (b ∷ vs) h = rw (set_out l i b h) (sets_beyond l (suc i) vs (omega arith))

-- a run that is one item longer
pub run_more : {A : Type 0} (l : List A) (at : ℕ) (vs : List A) (i : ℕ) (v : A) → i < length vs → v ≡ get_or vs i v → set (sets l at (take i vs)) (at + i) v ≡ sets l at (take (i + 1) vs)
run_more {A} l at vs i v h is =
    let n = length-take-le i vs (omega arith) in
    let put : sets l at (take i vs ++ (get_or vs i v ∷ [])) ≡ set (sets l at (take i vs)) (at + i) (get_or vs i v) =
    sets_append l at (take i vs) (get_or vs i v ∷ []) ∙ ap (λ (k : ℕ). set (sets l at (take i vs)) (at + k) (get_or vs i v)) n in
    ap (set (sets l at (take i vs)) (at + i)) is ∙ sym put ∙ rw (add-one i, take-suc vs i v h)

-- a run stores just those of its items that fit
pub run_whole : {A : Type 0} (l : List A) (at : ℕ) (vs : List A) (n : ℕ) → n ≡ min (length l - at) (length vs) → at < length l → sets l at (take n vs) ≡ sets l at vs
run_whole l at vs n e h =
    by_less n (length vs)
    (λ k.
    let t = length-take-le n vs (omega arith) in
    let z = length-sets l at (take n vs) in
    sym
    (ap (sets l at) (sym (take-append-drop n vs))
    ∙ sets_append l at (take n vs) (drop n vs)
    ∙ sets_beyond (sets l at (take n vs)) (at + length (take n vs)) (drop n vs) (omega (arith, e, k, h, t, z))))
    (λ k. ap (sets l at) (take_all n vs k))

-- a store past a run may be made before it
set_sets : (l : List ℕ) (i : ℕ) (vs : List ℕ) (j d : ℕ) → i + length vs ≤ j → sets (set l j d) i vs ≡ set (sets l i vs) j d
set_sets l i [] j d h = refl
set_sets l i (a ∷ vs) j d h =
    ap (λ (k : List ℕ). sets k (suc i) vs) (set_comm l j i d a (omega (arith, add-suc i (length vs))))
    ∙ set_sets (set l i a) (suc i) vs j d (omega (arith, add-suc i (length vs), suc-add i (length vs)))

-- the digits of n stored from the last one to the first, as the loop does it
unfoldable pub put_from : List ℕ → ℕ → ℕ → ℕ → List ℕ
put_from l at zero n = l
put_from l at (suc w) n = put_from (set l (at + w) (48 + n % 10)) at w (n / 10)

put_from_sets : (l : List ℕ) (at w n : ℕ) → put_from l at w n ≡ sets l at (digits w n)
unfolding put_from digits
put_from_sets l at zero n = refl
put_from_sets l at (suc w) n =
    put_from_sets (set l (at + w) (48 + n % 10)) at w (n / 10)
    ∙ set_sets l at (digits w (n / 10)) (at + w) (48 + n % 10) (omega (arith, length_digits w (n / 10)))
    ∙ sym (sets_append l at (digits w (n / 10)) ((48 + n % 10) ∷ []) ∙ rw (length_digits w (n / 10)))

pub put_step : (l k : List ℕ) (at w n : ℕ) → 0 < w → k ≡ set l (at + (w - 1)) (48 + n % 10) → put_from l at w n ≡ put_from k at (w - 1) (n / 10)
unfolding put_from
put_step l k at zero n h e = absurd (omega arith)
put_step l k at (suc w) n h e = rw (e, sub-one (suc w))

pub put_done : (l : List ℕ) (at w n : ℕ) → w ≤ 0 → put_from l at w n ≡ l
unfolding put_from
put_done l at zero n h = refl
put_done l at (suc w) n h = absurd (omega arith)

-- ---- widths

pub some_text : (l : List ℕ) (at w n : ℕ) → 1 ≤ w → w ≤ 20 → put_from l at w n ≡ sets l at (number_text w n)
some_text l at w n h k = rw (inside 1 20 w h k) (put_from_sets l at w n)
