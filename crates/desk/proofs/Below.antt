-- Laws of tests, and of tests over the numbers below a bound. Assumes nothing.
use Prim.Native.Nat.{ℕ, zero, suc, ◌+◌, ◌≤◌, ◌<◌}
use mathlib.Core.Bool.{Bool, true, false, cond, not, ◌&&◌}
use mathlib.Core.Path.{◌≡◌, refl, sym, ap, ap₂, ◌∙◌}
use native.Mathlib.Omega.{arith}
use native.Mathlib.Numerals.{add-one}
use mathlib.Core.List.{List, [], ◌∷◌}
use lib.ListN.{length, get_or}
use lib.Pointwise.{pointwise}
use Rattle.std.specs.List.{position_or_len}
use native.Mathlib.Decide.{dec_lt, ℕ_discrete}
use lib.Dec.{eqb, ltb}
use borrow.Author.Tests.{lt-ltb, le-ltb, ltb-true, ltb-false}
use Rattle.digits.proofs.Tests.{by-test, and_true, and_l, and_r}
use Rattle.desk.specs.Below.{all_below, count_below, first}

-- ---- one test

and_false_l : {a : Bool} (b : Bool) → a ≡ false → a && b ≡ false
and_false_l b q = rw q

pub and_false_r : (a : Bool) {b : Bool} → b ≡ false → a && b ≡ false
and_false_r true q = q
and_false_r false q = refl

pub never : {A : Type 0} (b : Bool) → b ≡ true → b ≡ false → A
never b p q = let z : true ≡ false = sym p ∙ q in let y : ◌≡◌ {A = ℕ} 0 1 = cc in absurd (omega arith)

pub false_or : (b : Bool) → (b ≡ true → ⊥) → b ≡ false
false_or true h = absurd (h refl)
false_or false h = refl

-- from what a call returned for a test, and the way that a branch on its negation took, to the test
pub not_came : {x a : Bool} → x ≡ a → x ≡ false → a ≡ false
not_came e t = sym e ∙ t

pub not_left : {x a : Bool} → x ≡ a → x ≡ true → a ≡ true
not_left e t = sym e ∙ t

-- a row of tests, each of which returns false if it fails: going on after a test that held, and returning at one that failed
pub past : {a b r : Bool} → a ≡ true → r ≡ b → r ≡ a && b
past {a} {b} {r} e q = q ∙ sym (ap (λ (z : Bool). z && b) e)

pub out : {a : Bool} (b : Bool) → a ≡ false → false ≡ a && b
out b e = sym (ap (λ (z : Bool). z && b) e)

-- ---- two numbers

below_by {ℓ} : {A : Type ℓ} (k n : ℕ) → k < suc n → (k < n → A) → (k ≡ n → A) → Dec (k < n) → A
below_by k n h f g (yes l) = f l
below_by k n h f g (no l) = g (omega arith)

pub below-case {ℓ} : {A : Type ℓ} (k n : ℕ) → k < suc n → (k < n → A) → (k ≡ n → A) → A
below-case k n h f g = below_by k n h f g (dec_lt k n)

by-eq {ℓ} : {A : Type ℓ} (i s : ℕ) → (i ≡ s → A) → ((i ≡ s → ⊥) → A) → Dec (i ≡ s) → A
by-eq i s f g (yes e) = f e
by-eq i s f g (no n) = g n

pub eq-case {ℓ} : {A : Type ℓ} (i s : ℕ) → (i ≡ s → A) → ((i ≡ s → ⊥) → A) → A
eq-case i s f g = by-eq i s f g (ℕ_discrete i s)

-- ---- all below

pub all_more : (n : ℕ) (p : ℕ → Bool) → all_below n p ≡ true → p n ≡ true → all_below (n + 1) p ≡ true
unfolding all_below
all_more n p h q = rw add-one (and_true h q)

pub all_fails : (n k : ℕ) (p : ℕ → Bool) → k < n → p k ≡ false → all_below n p ≡ false
unfolding all_below
all_fails zero k p l q = absurd (omega arith)
all_fails (suc n) k p l q =
    below-case k n l
    (λ l'. and_false_l (p n) (all_fails n k p l' q))
    (λ e. and_false_r (all_below n p) (rw (← e) q))

pub all_at : (n : ℕ) (p : ℕ → Bool) → all_below n p ≡ true → (k : ℕ) → k < n → p k ≡ true
unfolding all_below
all_at zero p h k l = absurd (omega arith)
all_at (suc n) p h k l =
    below-case k n l
    (λ l'. all_at n p (and_l (all_below n p) (p n) h) k l')
    (λ e. rw e (and_r (all_below n p) (p n) h))

pub all_of : (n : ℕ) (p : ℕ → Bool) → ((k : ℕ) → k < n → p k ≡ true) → all_below n p ≡ true
unfolding all_below
all_of zero p h = refl
all_of (suc n) p h = and_true (all_of n p (λ k l. h k (omega arith))) (h n (omega arith))

-- at the loop's end i has reached n
pub all_to : (i n : ℕ) (p : ℕ → Bool) → i ≡ n → all_below i p ≡ true → all_below n p ≡ true
all_to i n p e h = rw e at h

-- one more turn of a loop without an exit
pub all_next : (n : ℕ) (p : ℕ → Bool) → all_below (n + 1) p ≡ all_below n p && p n
unfolding all_below
all_next n p = rw (add-one n)

pub all_on : {x : Bool} (n : ℕ) (p : ℕ → Bool) → x ≡ all_below n p → x && p n ≡ all_below (n + 1) p
all_on n p e = ap (λ (y : Bool). y && p n) e ∙ sym (all_next n p)

pub all_end : {x : Bool} (i n : ℕ) (p : ℕ → Bool) → i ≡ n → x ≡ all_below i p → x ≡ all_below n p
all_end i n p e h = h ∙ ap (λ (k : ℕ). all_below k p) e

-- two tests at once
pub all_and : (n : ℕ) (p q : ℕ → Bool) → all_below n (λ i. p i && q i) ≡ all_below n p && all_below n q
unfolding all_below
all_and zero p q = refl
all_and (suc n) p q = ap (λ (x : Bool). x && (p n && q n)) (all_and n p q) ∙ swap (all_below n p) (all_below n q) (p n) (q n)
  where
    swap : (a b c d : Bool) → (a && b) && (c && d) ≡ (a && c) && (b && d)
    swap true true c d = refl
    swap true false true d = refl
    swap true false false d = refl
    swap false b c d = refl

-- tests that agree below n
pub all_ext : (n : ℕ) (p q : ℕ → Bool) → ((k : ℕ) → k < n → p k ≡ q k) → all_below n p ≡ all_below n q
unfolding all_below
all_ext zero p q h = refl
all_ext (suc n) p q h = ap₂ (λ (a b : Bool). a && b) (all_ext n p q (λ k l. h k (omega arith))) (h n (omega arith))

-- ---- how many below

pub count_to : {r : ℕ} (i n : ℕ) (p : ℕ → Bool) → i ≡ n → r ≡ count_below i p → r ≡ count_below n p
count_to i n p e h = h ∙ ap (λ (k : ℕ). count_below k p) e

count_next : (n : ℕ) (p : ℕ → Bool) → count_below (n + 1) p ≡ cond (p n) (count_below n p + 1) (count_below n p)
unfolding count_below
count_next n p = rw (add-one n, add-one (count_below n p))

-- one more turn of a loop that counts
pub count_on : {x d : ℕ} (n : ℕ) (p : ℕ → Bool) → x ≡ count_below n p → d ≡ cond (p n) 1 0 → (d ≤ 1) × (x + d ≡ count_below (n + 1) p)
count_on {x} {d} n p e q =
    by-test (p n)
    (λ t. let y : d ≡ 1 = rw t at q in (omega arith, rw (count_next n p, t) (omega arith)))
    (λ t. let y : d ≡ 0 = rw t at q in (omega arith, rw (count_next n p, t) (omega arith)))

pub count_most : (n : ℕ) (p : ℕ → Bool) → count_below n p ≤ n
unfolding count_below
count_most zero p = omega arith
count_most (suc n) p = let h = count_most n p in by-test (p n) (λ e. rw e (omega arith)) (λ e. rw e (omega arith))

pub count_ext : (n : ℕ) (p q : ℕ → Bool) → ((k : ℕ) → k < n → p k ≡ q k) → count_below n p ≡ count_below n q
unfolding count_below
count_ext zero p q h = refl
count_ext (suc n) p q h = rw (count_ext n p q (λ k l. h k (omega arith)), h n (omega arith))

-- ---- the first below

pub count_none : (n : ℕ) (p : ℕ → Bool) → ((k : ℕ) → k < n → p k ≡ false) → count_below n p ≡ 0
unfolding count_below
count_none zero p h = refl
count_none (suc n) p h = rw (h n (omega arith)) (count_none n p (λ k l. h k (omega arith)))

pub count_one : (n s : ℕ) (p : ℕ → Bool) → s < n → p s ≡ true → ((k : ℕ) → k < n → p k ≡ true → k ≡ s) → count_below n p ≡ 1
unfolding count_below
count_one zero s p l t u = absurd (omega arith)
count_one (suc n) s p l t u =
    below-case s n l
    (λ b. rw (false_or (p n) (λ q. let e = u n (omega arith) q in omega arith)) (count_one n s p b t (λ k j q. u k (omega arith) q)))
    (λ e. let y : p n ≡ true = sym (ap p e) ∙ t in
    rw y (ap suc (count_none n p (λ k j. false_or (p k) (λ q. let g = u k (omega arith) q in omega arith)))))

pub count_some : (n s : ℕ) (p : ℕ → Bool) → s < n → p s ≡ true → 1 ≤ count_below n p
unfolding count_below
count_some zero s p l t = absurd (omega arith)
count_some (suc n) s p l t =
    below-case s n l
    (λ b. let h = count_some n s p b t in by-test (p n) (λ e. rw e (omega arith)) (λ e. rw e h))
    (λ e. let y : p n ≡ true = sym (ap p e) ∙ t in rw y (omega arith))

pub count_pair : (n j i : ℕ) (p : ℕ → Bool) → j < i → i < n → p j ≡ true → p i ≡ true → 2 ≤ count_below n p
unfolding count_below
count_pair zero j i p h l s t = absurd (omega arith)
count_pair (suc n) j i p h l s t =
    below-case i n l
    (λ b. let k = count_pair n j i p h b s t in by-test (p n) (λ e. rw e (omega arith)) (λ e. rw e k))
    (λ e. let y : p n ≡ true = sym (ap p e) ∙ t in let k = count_some n j p (omega arith) s in rw y (omega arith))

-- a test whose result changes from false to true at one place
pub count_turned : (n s : ℕ) (p q : ℕ → Bool) → s < n → p s ≡ false → q s ≡ true → ((k : ℕ) → (k ≡ s → ⊥) → q k ≡ p k) → count_below n q ≡ count_below n p + 1
unfolding count_below
count_turned zero s p q l a b e = absurd (omega arith)
count_turned (suc n) s p q l a b e =
    below-case s n l
    (λ h.
    let ih = count_turned n s p q h a b e in
    let same = e n (λ g. omega (arith, g, h)) in
    by-test (p n) (λ c. rw (same, c) (omega (arith, ih))) (λ c. rw (same, c) (omega (arith, ih))))
    (λ h.
    let rest = count_ext n q p (λ k i. e k (λ g. omega (arith, g, h, i))) in
    let x : p n ≡ false = sym (ap p h) ∙ a in
    let y : q n ≡ true = sym (ap q h) ∙ b in
    rw (x, y) (omega (arith, rest)))

first_most : (n : ℕ) (p : ℕ → Bool) → first n p ≤ n
unfolding first
first_most zero p = omega arith
first_most (suc n) p =
    by-test (ltb (first n p) n)
    (λ e. let h = ltb-true (first n p) n e in rw e (omega arith))
    (λ e. rw e (by-test (p n) (λ d. rw d (omega arith)) (λ d. rw d (omega arith))))

pub first_none : (n : ℕ) (p : ℕ → Bool) → ((j : ℕ) → j < n → p j ≡ false) → first n p ≡ n
unfolding first
first_none zero p h = refl
first_none (suc n) p h =
    let e = first_none n p (λ j l. h j (omega arith)) in
    rw (le-ltb (first n p) n (omega arith), h n (omega arith))

pub first_at : (n k : ℕ) (p : ℕ → Bool) → k < n → ((j : ℕ) → j < k → p j ≡ false) → p k ≡ true → first n p ≡ k
unfolding first
first_at zero k p l h q = absurd (omega arith)
first_at (suc n) k p l h q =
    below-case k n l
    (λ l'. let e = first_at n k p l' h q in rw (e, lt-ltb k n l'))
    (λ d. let e = first_none n p (λ j i. h j (omega arith)) in rw (le-ltb (first n p) n (omega arith), ← d, q))

pub first_sound : (n : ℕ) (p : ℕ → Bool) → first n p < n → p (first n p) ≡ true
unfolding first
first_sound zero p h = absurd (omega arith)
first_sound (suc n) p h =
    by-test (ltb (first n p) n)
    (λ e. rw e (first_sound n p (ltb-true (first n p) n e)))
    (λ e. by-test (p n) (λ d. rw (e, d) d) (λ d. let z : suc n < suc n = rw (e, d) at h in absurd (omega arith)))

pub first_before : (n : ℕ) (p : ℕ → Bool) (j : ℕ) → j < first n p → p j ≡ false
unfolding first
first_before zero p j l = absurd (omega arith)
first_before (suc n) p j l =
    by-test (ltb (first n p) n)
    (λ e. first_before n p j (rw e at l))
    (λ e.
    let m = first_most n p in
    let a = ltb-false (first n p) n e in
    by-test (p n)
    (λ d. let k : j < n = rw (e, d) at l in first_before n p j (omega arith))
    (λ d. let k : j < suc n = rw (e, d) at l in below-case j n k (λ i. first_before n p j (omega arith)) (λ i. rw i d)))

pub first_ext : (n : ℕ) (p q : ℕ → Bool) → ((k : ℕ) → k < n → p k ≡ q k) → first n p ≡ first n q
unfolding first
first_ext zero p q h = refl
first_ext (suc n) p q h = rw (first_ext n p q (λ k l. h k (omega arith)), h n (omega arith))

-- a search that has reached n
pub first_more : (n : ℕ) (p : ℕ → Bool) → first n p ≡ n → p n ≡ false → first (n + 1) p ≡ n + 1
unfolding first
first_more n p h q = rw (add-one n, le-ltb (first n p) n (omega arith), q)

pub first_hit : (n k : ℕ) (p : ℕ → Bool) → k < n → first k p ≡ k → p k ≡ true → first n p ≡ k
first_hit n k p l h q = first_at n k p l (λ j i. first_before k p j (omega arith)) q

pub first_past : (n k : ℕ) (p : ℕ → Bool) → n ≤ k → first k p ≡ k → first n p ≡ n
first_past n k p l h = first_none n p (λ j i. first_before k p j (omega arith))

-- ---- the places of a list, from the front

all_front : (n : ℕ) (p : ℕ → Bool) → all_below (suc n) p ≡ p 0 && all_below n (λ i. p (suc i))
unfolding all_below
all_front zero p = go (p 0)
  where
    go : (a : Bool) → a ≡ a && true
    go true = refl
    go false = refl
all_front (suc n) p = ap (λ (x : Bool). x && p (suc n)) (all_front n p) ∙ go (p 0) (all_below n (λ i. p (suc i))) (p (suc n))
  where
    go : (a b c : Bool) → (a && b) && c ≡ a && (b && c)
    go true b c = refl
    go false b c = refl

-- two lists, place by place
pub pointwise_all : (n : ℕ) (a b : List ℕ) → length a ≡ n → length b ≡ n → pointwise eqb a b ≡ all_below n (λ i. eqb (get_or a i 0) (get_or b i 0))
unfolding all_below
pointwise_all zero [] [] h k = refl
pointwise_all zero [] (y ∷ b) h k = absurd (omega arith)
pointwise_all zero (x ∷ a) b h k = absurd (omega arith)
pointwise_all (suc n) [] b h k = absurd (omega arith)
pointwise_all (suc n) (x ∷ a) [] h k = absurd (omega arith)
pointwise_all (suc n) (x ∷ a) (y ∷ b) h k =
    ap (λ (r : Bool). eqb x y && r) (pointwise_all n a b (omega arith) (omega arith))
    ∙ sym (all_front n (λ i. eqb (get_or (x ∷ a) i 0) (get_or (y ∷ b) i 0)))

first_front : (n : ℕ) (p : ℕ → Bool) → first (suc n) p ≡ cond (p 0) 0 (suc (first n (λ i. p (suc i))))
first_front n p =
    let m = first_most n (λ i. p (suc i)) in
    by-test (p 0)
    (λ t. rw t (first_at (suc n) 0 p (omega arith) (λ j l. absurd (omega arith)) t))
    (λ f.
    rw f
    (below-case (first n (λ i. p (suc i))) n (omega arith)
    (λ l. first_at (suc n) (suc (first n (λ i. p (suc i)))) p (omega arith) (λ j i. before f j i) (first_sound n (λ i. p (suc i)) l))
    (λ e. rw e (first_none (suc n) p (λ j i. before f j (omega (arith, e)))))))
  where
    before : p 0 ≡ false → (j : ℕ) → j < suc (first n (λ i. p (suc i))) → p j ≡ false
    before f zero l = f
    before f (suc j) l = first_before n (λ i. p (suc i)) j (omega arith)

-- the place that a search in a list finds
pub first_place : (p : ℕ → Bool) (xs : List ℕ) → position_or_len p xs ≡ first (length xs) (λ i. p (get_or xs i 0))
unfolding first
first_place p [] = refl
first_place p (x ∷ xs) = go (p x) _ _ (first_place p xs) ∙ sym (first_front (length xs) (λ i. p (get_or (x ∷ xs) i 0)))
  where
    go : (b : Bool) (m k : ℕ) → m ≡ k → cond (not b) (1 + m) 0 ≡ cond b 0 (suc k)
    go true m k e = refl
    go false m k e = omega (arith, e)
