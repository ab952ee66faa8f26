-- Two tests that agree at every number below a bound, shown by computing them all; worked cases of sets; and the place of a byte in a list. Assumes nothing.
use Prim.Native.Nat.{ℕ, zero, suc, ◌<◌}
use mathlib.Core.Bool.{Bool, true, false, false≢true, cond, ◌&&◌}
use mathlib.Core.List.{List, [], ◌∷◌}
use mathlib.Core.Path.{◌≡◌, refl, subst, sym, ap, ◌∙◌}
use native.Mathlib.Nat.{not-suc-le-zero, le_of_suc-le-suc}
use native.Mathlib.Omega.{arith}
use lib.Dec.{eqb, ltb}
use lib.ListN.{length, get_or}
use borrow.Author.Tests.{eqb-true, eqb-false, ne_eqb, lt-ltb, le-ltb, ltb-true}
use Rattle.digits.specs.Text.{one_of, place_of, in_set, SetsWorked}
use Rattle.digits.proofs.Tests.{by-test, by_less, and_l, and_r}

abbrev alike : Bool → Bool → Bool
alike true b = b
alike false true = false
alike false false = true

abbrev pub agree : (ℕ → Bool) → (ℕ → Bool) → ℕ → Bool
agree f g zero = true
agree f g (suc n) = alike (f n) (g n) && agree f g n

same : (a b : Bool) → alike a b ≡ true → a ≡ b
same true true e = refl
same true false e = absurd (false≢true e)
same false true e = absurd (false≢true e)
same false false e = refl

pub agreed : (f g : ℕ → Bool) (n : ℕ) → agree f g n ≡ true → (k : ℕ) → k < n → f k ≡ g k
agreed f g zero e k l = absurd (not-suc-le-zero l)
agreed f g (suc n) e k l =
    by-test (eqb k n)
    (λ b. subst (λ (x : ℕ). f x ≡ g x) (sym (eqb-true k n b)) (same (f n) (g n) (and_l (alike (f n) (g n)) (agree f g n) e)))
    (λ b. agreed f g n (and_r (alike (f n) (g n)) (agree f g n) e) k (let o = eqb-false k n b in omega (arith, l, o)))

pub sets_worked : SetsWorked
unfolding in_set
sets_worked = record {
  byte_0 = refl;
  not_byte_0 = refl;
  byte_63 = refl;
  not_byte_63 = refl;
  byte_64 = refl;
  not_byte_64 = refl;
  byte_127 = refl;
  not_byte_127 = refl;
  byte_128 = refl;
}

-- ---- the place of a byte in a list

-- a byte that is none of a list, as a match with an arm for each of the list says it
abbrev pub NoneOf : Type 0 → List ℕ → ℕ → Type 0
NoneOf D [] b = D
NoneOf D (x ∷ l) b = NoneOf (D × (b ≡ x → ⊥)) l b

past_all : (l : List ℕ) (b : ℕ) (D : Type 0) → NoneOf D l b → D × (place_of l b ≡ length l)
unfolding place_of
past_all [] b D h = (h, refl)
past_all (x ∷ l) b D h =
    let r = past_all l b (D × (b ≡ x → ⊥)) h in
    (r.0.0, rw (ne_eqb b x r.0.1) (ap suc r.1))

pub place_none : (l : List ℕ) (b : ℕ) → NoneOf (Unit {0}) l b → place_of l b ≡ length l
place_none l b h = (past_all l b (Unit {0}) h).1

-- a byte is in a list exactly if it has a place in it
pub place_listed : (l : List ℕ) (b : ℕ) → ltb (place_of l b) (length l) ≡ one_of l b
unfolding place_of one_of
place_listed [] b = refl
place_listed (x ∷ l) b = by-test (eqb b x) (λ e. rw (e, lt-ltb 0 (suc (length l)) (omega arith))) (λ e. rw e (shifted (place_of l b) (length l) ∙ place_listed l b))
  where
    shifted : (i n : ℕ) → ltb (suc i) (suc n) ≡ ltb i n
    shifted i n = by_less i n (λ h. rw (lt-ltb i n h, lt-ltb (suc i) (suc n) (omega arith))) (λ h. rw (le-ltb i n h, le-ltb (suc i) (suc n) (omega arith)))

pub place_below : (l : List ℕ) (b : ℕ) → one_of l b ≡ true → place_of l b < length l
place_below l b e = ltb-true (place_of l b) (length l) (place_listed l b ∙ e)

-- and that place is its own
pub at_place : (l : List ℕ) (b : ℕ) → place_of l b < length l → get_or l (place_of l b) 0 ≡ b
unfolding place_of
at_place [] b h = absurd (not-suc-le-zero h)
at_place (x ∷ l) b h =
    by-test (eqb b x)
    (λ e. rw e (sym (eqb-true b x e)))
    (λ e. rw e (at_place l b (le_of_suc-le-suc (subst (λ (n : ℕ). n < suc (length l)) (ap (λ (t : Bool). cond t 0 (suc (place_of l b))) e) h))))
