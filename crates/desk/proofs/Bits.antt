-- The bits of the seats in use: setting a clear one, the lowest clear one, and how many are set. Assumes nothing.
use Prim.Native.Nat.{ℕ, zero, suc, ◌+◌, ◌*◌, ◌-◌, ◌/◌, ◌%◌, ◌^◌, ◌<◌, ◌≤◌}
use mathlib.Core.Bool.{Bool, true, false, cond, not}
use mathlib.Core.Path.{◌≡◌, refl, ap, sym, ◌∙◌, subst}
use lib.Arith.{lt-one}
use lib.Count.{ones, ones_step, count_trailing_zeros, under}
use lib.Dec.{eqb}
use lib.Pow.{shr-shr, shl_exact}
use native.Mathlib.Nat.{div-one, pow-suc, pow-zero, zero-div}
use native.Mathlib.Omega.{arith}
use native.Mathlib.Numerals.{one-add}
use borrow.Author.Tests.{eqb-true, eqb-false, eq-eqb, ne_eqb}
use Rattle.desk.specs.Below.{count_below, first}
use Rattle.desk.specs.Seats.{used_bit, clear_at}
use Rattle.digits.proofs.Tests.{by-test}
use Rattle.desk.proofs.Below.{below-case, first_at, first_none, count_ext}

used_zero : (b : ℕ) → used_bit b 0 ≡ eqb (b % 2) 1
used_zero b = ap (λ (x : ℕ). eqb (x % 2) 1) (div-one b)

used_suc : (b i : ℕ) → used_bit b (suc i) ≡ used_bit (b / 2) i
used_suc b i =
    let e : b / 2 ^ suc i ≡ b / 2 / 2 ^ i = ap (λ (k : ℕ). b / 2 ^ k) (sym (one-add i)) ∙ sym (shr-shr b 1 i) in
    ap (λ (x : ℕ). eqb (x % 2) 1) e

twice : (k : ℕ) → 2 ^ suc k ≡ 2 ^ k + 2 ^ k
twice k = let e : 2 ^ suc k ≡ 2 ^ k * 2 = pow-suc 2 k in omega arith

-- no seat of an empty desk is in use
pub none_used : (i : ℕ) → used_bit 0 i ≡ false
none_used i =
    let e : 0 / 2 ^ i ≡ 0 = zero-div (2 ^ i) in
    ap (λ (x : ℕ). eqb (x % 2) 1) e

-- ---- setting a clear bit

half_set : (b s : ℕ) → (b + 2 ^ suc s) / 2 ≡ b / 2 + 2 ^ s
half_set b s = let e = twice s in omega arith

even : (b : ℕ) → used_bit b 0 ≡ false → b % 2 ≡ 0
even b h = let n = eqb-false (b % 2) 1 (sym (used_zero b) ∙ h) in omega arith

pub set_own : (b s : ℕ) → used_bit b s ≡ false → used_bit (b + 2 ^ s) s ≡ true
set_own b zero h =
    let e = even b h in
    used_zero (b + 1) ∙ eq-eqb ((b + 1) % 2) 1 (omega arith)
set_own b (suc s) h = used_suc (b + 2 ^ suc s) s ∙ ap (λ (x : ℕ). used_bit x s) (half_set b s) ∙ set_own (b / 2) s (sym (used_suc b s) ∙ h)

pub set_other : (b s i : ℕ) → used_bit b s ≡ false → (i ≡ s → ⊥) → used_bit (b + 2 ^ s) i ≡ used_bit b i
set_other b zero zero h n = absurd (n refl)
set_other b zero (suc i) h n =
    let e = even b h in
    let k : (b + 1) / 2 ≡ b / 2 = omega arith in
    used_suc (b + 1) i ∙ ap (λ (x : ℕ). used_bit x i) k ∙ sym (used_suc b i)
set_other b (suc s) zero h n =
    let e = twice s in
    let k : (b + 2 ^ suc s) % 2 ≡ b % 2 = omega arith in
    used_zero (b + 2 ^ suc s) ∙ ap (λ (x : ℕ). eqb x 1) k ∙ sym (used_zero b)
set_other b (suc s) (suc i) h n =
    used_suc (b + 2 ^ suc s) i ∙ ap (λ (x : ℕ). used_bit x i) (half_set b s)
    ∙ set_other (b / 2) s i (sym (used_suc b s) ∙ h) (λ e. n (ap suc e)) ∙ sym (used_suc b i)

pub set_below : (k b s : ℕ) → b < 2 ^ k → s < k → used_bit b s ≡ false → b + 2 ^ s < 2 ^ k
set_below zero b s l o h = absurd (omega arith)
set_below (suc k) b zero l o h = let e = even b h in let t = twice k in let z : 2 ^ 0 ≡ 1 = pow-zero 2 in omega arith
set_below (suc k) b (suc s) l o h =
    let t = twice k in
    let u = twice s in
    let r = set_below k (b / 2) s (omega arith) (omega arith) (sym (used_suc b s) ∙ h) in
    omega arith

-- ---- the lowest clear bit, by the trailing zeros of the complement

-- t is the lowest clear bit among the lowest k, or k if all of them are set
record Lowest (k b t : ℕ) : Type 0 where
  most : t ≤ k
  below : (i : ℕ) → i < t → used_bit b i ≡ true
  clear : t < k → used_bit b t ≡ false

lowest_odd : (k b t : ℕ) → b % 2 ≡ 1 → Lowest k (b / 2) t → Lowest (suc k) b (suc t)
lowest_odd k b t e h = record { most = let m = h.most in omega arith; below = below; clear = λ l. used_suc b t ∙ h.clear (omega arith) }
  where
    below : (i : ℕ) → i < suc t → used_bit b i ≡ true
    below zero l = used_zero b ∙ eq-eqb (b % 2) 1 e
    below (suc i) l = used_suc b i ∙ h.below i (omega arith)

lowest_even : (k b : ℕ) → b % 2 ≡ 0 → Lowest (suc k) b 0
lowest_even k b e = record { most = omega arith; below = λ i l. absurd (omega arith); clear = λ l. used_zero b ∙ ne_eqb (b % 2) 1 (λ z. omega arith) }

lowest_by : (k b d t : ℕ) → d ≡ 1 - b % 2 → Lowest k (b / 2) t → Lowest (suc k) b (under d t)
lowest_by k b zero t e h = lowest_odd k b t (omega arith) h
lowest_by k b (suc d) t e h = lowest_even k b (omega arith)

lowest : (k b : ℕ) → b < 2 ^ k → Lowest k b (count_trailing_zeros k (2 ^ k - 1 - b))
unfolding count_trailing_zeros
lowest zero b l = record { most = omega arith; below = λ i h. absurd (omega arith); clear = λ h. absurd (omega arith) }
lowest (suc k) b l =
    let t = twice k in
    let e : (2 ^ suc k - 1 - b) / 2 ≡ 2 ^ k - 1 - b / 2 = omega arith in
    let p : (2 ^ suc k - 1 - b) % 2 ≡ 1 - b % 2 = omega arith in
    let h = lowest k (b / 2) (omega arith) in
    lowest_by k b ((2 ^ suc k - 1 - b) % 2) (count_trailing_zeros k ((2 ^ suc k - 1 - b) / 2)) p (subst (λ (y : ℕ). Lowest k (b / 2) (count_trailing_zeros k y)) (sym e) h)

lowest_first : (k b t : ℕ) → Lowest k b t → first k (clear_at b) ≡ t
lowest_first k b t h =
    let m = h.most in
    below-case t k (omega arith)
    (λ l. first_at k t (clear_at b) l (λ j i. ap not (h.below j i)) (ap not (h.clear l)))
    (λ e. first_none k (clear_at b) (λ j i. ap not (h.below j (omega arith))) ∙ sym e)

pub lowest_clear_law : (k b : ℕ) → b < 2 ^ k → count_trailing_zeros k (2 ^ k - 1 - b) ≡ first k (clear_at b)
lowest_clear_law k b l = sym (lowest_first k b (count_trailing_zeros k (2 ^ k - 1 - b)) (lowest k b l))

-- ---- how many are set

count_front : (n : ℕ) (p : ℕ → Bool) → count_below (suc n) p ≡ cond (p 0) 1 0 + count_below n (λ i. p (suc i))
unfolding count_below
count_front zero p = by-test (p 0) (λ e. rw e) (λ e. rw e)
count_front (suc n) p =
    let h = count_front n p in
    by-test (p (suc n)) (λ e. rw e (ap suc h ∙ omega arith)) (λ e. rw e h)

parity : (b : ℕ) → b % 2 ≡ cond (eqb (b % 2) 1) 1 0
parity b =
    by-test (eqb (b % 2) 1)
    (λ e. rw e (eqb-true (b % 2) 1 e))
    (λ e. let n = eqb-false (b % 2) 1 e in rw e (omega arith))

pub ones_count : (w b : ℕ) → b < 2 ^ w → ones b ≡ count_below w (used_bit b)
unfolding ones count_below
ones_count zero b h = ap ones (lt-one h)
ones_count (suc w) b h =
    let p : b / 2 < 2 ^ w = omega (arith, pow-suc 2 w) in
    let i = ones_count w (b / 2) p in
    let j = count_ext w (λ i. used_bit b (suc i)) (used_bit (b / 2)) (λ k l. used_suc b k) in
    let f = count_front w (used_bit b) in
    let z : cond (used_bit b 0) 1 0 ≡ b % 2 = ap (λ (x : Bool). cond {A = ℕ} x 1 0) (used_zero b) ∙ sym (parity b) in
    ones_step b ∙ omega (arith, i, j, f, z)

-- numbers with the same bits are the same
pub same_bits : (k b c : ℕ) → b < 2 ^ k → c < 2 ^ k → ((i : ℕ) → i < k → used_bit b i ≡ used_bit c i) → b ≡ c
same_bits zero b c l m h = let z : 2 ^ 0 ≡ 1 = pow-zero 2 in omega arith
same_bits (suc k) b c l m h =
    let t = twice k in
    let e = same_bits k (b / 2) (c / 2) (omega arith) (omega arith) (λ i j. sym (used_suc b i) ∙ h (suc i) (omega arith) ∙ used_suc c i) in
    let low : b % 2 ≡ c % 2 = parity b ∙ ap (λ (x : Bool). cond {A = ℕ} x 1 0) (sym (used_zero b) ∙ h 0 (omega arith) ∙ used_zero c) ∙ sym (parity c) in
    omega arith

-- ---- 1 shifted to a seat's place

pub shl_one : (s : ℕ) → s < 64 → 1 * 2 ^ s % 18446744073709551616 ≡ 2 ^ s
shl_one s l =
    let a : 1 < 2 ^ 1 = omega arith in
    let h = shl_exact {a = 1} 1 s 64 a (omega arith) in
    let o : 1 * 2 ^ s ≡ 2 ^ s = omega arith in
    h ∙ o

pub trailing_most : (k b : ℕ) → b < 2 ^ k → count_trailing_zeros k (2 ^ k - 1 - b) ≤ k
trailing_most k b l = (lowest k b l).most
