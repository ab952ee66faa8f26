-- The seats of a desk hold as many records together as cells are held, and as many of each letter and status. Assumes nothing.
use Prim.Native.Nat.{ℕ, zero, suc, ◌+◌, ◌<◌}
use mathlib.Core.List.{List, [], ◌∷◌, ◌++◌}
use mathlib.Core.Bool.{Bool, true, false, cond}
use mathlib.Core.Path.{◌≡◌, refl, sym, ap, ◌∙◌}
use native.Mathlib.Nat.{not-suc-le-zero, add-zero}
use native.Mathlib.Omega.{arith}
use lib.ListN.{length}
use lib.Dec.{eqb}
use borrow.Author.Tests.{eqb-true, eqb-false, ne_eqb}
use Rattle.desk.specs.Limits.{seat_count}
use Rattle.desk.specs.Below.{count_below}
use Rattle.desk.specs.Looks.{among}
use Rattle.desk.specs.Tally.{is_of, held_of}
use Rattle.desk.specs.Memory.{Memory, cell_at, mark_at, records_of, held_by}
use Rattle.digits.proofs.Tests.{by-test}
use Rattle.desk.proofs.ReplayLaws.{Facts, marked}

-- ---- sums over the numbers below n

unfoldable pub sum : ℕ → (ℕ → ℕ) → ℕ
sum zero f = 0
sum (suc n) f = sum n f + f n

sum_add : (n : ℕ) (f g h : ℕ → ℕ) → ((k : ℕ) → h k ≡ f k + g k) → sum n h ≡ sum n f + sum n g
unfolding sum
sum_add zero f g h e = omega arith
sum_add (suc n) f g h e = let x = sum_add n f g h e in let y = e n in omega (arith, x, y)

sum_none : (n : ℕ) (f : ℕ → ℕ) → ((k : ℕ) → k < n → f k ≡ 0) → sum n f ≡ 0
unfolding sum
sum_none zero f e = refl
sum_none (suc n) f e = let x = sum_none n f (λ k l. e k (omega arith)) in let y = e n (omega arith) in omega (arith, x, y)

-- 1 at one place
abbrev one_at : ℕ → ℕ → ℕ
one_at x k = cond (eqb x k) 1 0

sum_one : (x n : ℕ) → x < n → sum n (one_at x) ≡ 1
unfolding sum
sum_one x zero l = absurd (not-suc-le-zero l)
sum_one x (suc n) l =
    by-test (eqb x n)
    (λ b.
    let same = eqb-true x n b in
    let rest = sum_none n (one_at x) (λ k h. let off : eqb x k ≡ false = ne_eqb x k (λ e. omega (arith, e, same, h)) in rw off) in
    rw b (let z : sum n (one_at x) + 1 ≡ 1 = omega (arith, rest) in z))
    (λ b.
    let other = eqb-false x n b in
    let less : x < n = omega (arith, l, other) in
    let rest = sum_one x n less in
    rw b (let z : sum n (one_at x) + 0 ≡ 1 = omega (arith, rest) in z))

pub sum_ext : (n : ℕ) (f g : ℕ → ℕ) → ((k : ℕ) → k < n → f k ≡ g k) → sum n f ≡ sum n g
unfolding sum
sum_ext zero f g e = refl
sum_ext (suc n) f g e = let x = sum_ext n f g (λ k l. e k (omega arith)) in let y = e n (omega arith) in omega (arith, x, y)

-- ---- the records of a seat that pass a test, cell by cell

among_append : (p : List ℕ → Bool) (a b : List (List ℕ)) → among p (a ++ b) ≡ among p a + among p b
unfolding among
among_append p [] b = omega arith
among_append p (f ∷ a) b = let h = among_append p a b in by-test (p f) (λ y. rw y (omega (arith, h))) (λ y. rw y h)

among_all : (l : List (List ℕ)) → among (λ f. true) l ≡ length l
unfolding among
among_all [] = refl
among_all (f ∷ l) = ap suc (among_all l)

module _ (p : List ℕ → Bool) (cells marks : List ℕ) where
  one_more_case : (k n : ℕ) → among p (records_of cells marks k (suc n)) ≡ among p (records_of cells marks k n) + cond (p (cell_at cells n)) (one_at (mark_at marks n) k) 0
  unfolding records_of among
  one_more_case k n =
      among_append p (records_of cells marks k n) (cond (eqb (mark_at marks n) k) (cell_at cells n ∷ []) [])
      ∙ by-test (eqb (mark_at marks n) k) (λ b. rw b (by-test (p (cell_at cells n)) (λ y. rw y) (λ y. rw y))) (λ b. rw b (by-test (p (cell_at cells n)) (λ y. rw y) (λ y. rw y)))

  none_yet : (k : ℕ) → among p (records_of cells marks k 0) ≡ 0
  unfolding records_of among
  none_yet k = refl

  -- each cell is counted at one seat
  pub spread : (n : ℕ) → ((i : ℕ) → i < n → mark_at marks i < seat_count) → sum seat_count (λ k. among p (records_of cells marks k n)) ≡ count_below n (λ i. p (cell_at cells i))
  unfolding count_below
  spread zero h = sum_none seat_count _ (λ k l. none_yet k)
  spread (suc n) h =
      let y = spread n (λ i l. h i (omega arith)) in
      let z = sum_one (mark_at marks n) seat_count (h n (omega arith)) in
      by-test (p (cell_at cells n))
      (λ t.
      let x = sum_add seat_count (λ k. among p (records_of cells marks k n)) (one_at (mark_at marks n)) (λ k. among p (records_of cells marks k (suc n))) (λ k. one_more_case k n ∙ rw t) in
      rw t (omega (arith, x, y, z)))
      (λ t. rw t (sum_ext seat_count _ _ (λ k l. one_more_case k n ∙ rw t (add-zero (among p (records_of cells marks k n)))) ∙ y))

count_all : (n : ℕ) → count_below n (λ i. true) ≡ n
unfolding count_below
count_all zero = refl
count_all (suc n) = ap suc (count_all n)

pub all_records : (m : Memory) → Facts m → sum seat_count (λ k. length (held_by m k)) ≡ m.count
all_records m d = sum_ext seat_count _ _ (λ k l. sym (among_all (held_by m k))) ∙ spread (λ f. true) m.cells m.marks m.count (marked m d) ∙ count_all m.count

-- and those of a letter and a status as many as are counted
pub held_spread : (m : Memory) → Facts m → (letter status : ℕ) → sum seat_count (λ k. among (is_of letter status) (held_by m k)) ≡ held_of m.cells m.count letter status
unfolding held_of
held_spread m d letter status = spread (is_of letter status) m.cells m.marks m.count (marked m d)
