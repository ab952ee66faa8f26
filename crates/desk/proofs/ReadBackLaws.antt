-- Calls of `next_held`, one after the other, return a seat's records in order. Assumes nothing.
use Prim.Native.Nat.{ℕ, zero, suc, ◌+◌}
use mathlib.Core.List.{List, [], ◌∷◌, ◌++◌, append_assoc, append-nil}
use mathlib.Core.Bool.{Bool, true, false, cond, ◌&&◌}
use mathlib.Core.Path.{◌≡◌, refl, sym, ap, ◌∙◌}
use native.Mathlib.Omega.{arith}
use lib.Dec.{eqb, leb}
use borrow.Author.Tests.{eqb-true, eqb-false, ne_eqb, leb-true, leb-false, le-leb, lt-leb}
use Rattle.digits.proofs.Tests.{by-test}
use Rattle.std.proofs.Common.{Option, Some, None}
use Rattle.desk.specs.Memory.{Memory, cell_at, mark_at, records_of}
use Rattle.desk.specs.Calls.{held_cells, held_from, held_answer, next_held}
use Rattle.desk.specs.ReadBack.{ReadBack, over, tells, ReadsBack}
use Rattle.desk.proofs.Below.{eq-case, first_ext}
use Rattle.desk.proofs.ReplayLaws.{desk_facts}
use Rattle.desk.proofs.HeldLaws.{from_none, found_cell, none_found}

-- ---- the records from a place on

module _ (cells marks : List ℕ) (s : ℕ) where
  rest : ℕ → ℕ → List (List ℕ)
  rest i zero = []
  rest i (suc g) = cond (eqb (mark_at marks i) s) (cell_at cells i ∷ rest (suc i) g) (rest (suc i) g)

  joined : (b : Bool) (x : List ℕ) (a l : List (List ℕ)) → (a ++ cond b (x ∷ []) []) ++ l ≡ a ++ cond b (x ∷ l) l
  joined true x a l = append_assoc a (x ∷ []) l
  joined false x a l = ap (λ (y : List (List ℕ)). y ++ l) (append-nil a)

  records_rest : (g i : ℕ) → records_of cells marks s (i + g) ≡ records_of cells marks s i ++ rest i g
  unfolding rest records_of
  records_rest zero i = let e : i + 0 ≡ i = omega arith in rw e (sym (append-nil (records_of cells marks s i)))
  records_rest (suc g) i =
      let e : i + suc g ≡ suc i + g = omega arith in
      ap (records_of cells marks s) e ∙ records_rest g (suc i) ∙ joined (eqb (mark_at marks i) s) (cell_at cells i) (records_of cells marks s i) (rest (suc i) g)

-- ---- the calls

module _ (m : Memory) (s : ℕ) where
  abbrev limit : ℕ
  limit = held_cells m.count m.cells m.marks

  abbrev next : ℕ → Option ℕ
  next from = next_held m.count m.cells m.marks s from

  abbrev search : ℕ → ℕ → Bool
  search from = held_from m.marks s from

  none_left : (i : ℕ) → i ≡ limit → next i ≡ None
  unfolding next_held
  none_left i e = sym (none_found m.marks s i limit limit refl i (omega (arith, e)) (from_none m.marks s i))

  here : (i g : ℕ) → i + suc g ≡ limit → mark_at m.marks i ≡ s → next i ≡ Some i
  unfolding next_held
  here i g e h = sym (found_cell m.marks s i limit limit refl i (omega (arith, e)) (omega arith) (from_none m.marks s i) h)

  -- a cell of another seat is skipped
  pass : (i j : ℕ) → (mark_at m.marks i ≡ s → ⊥) → search i j ≡ search (suc i) j
  pass i j n =
      eq-case j i
      (λ e. rw (e, ne_eqb (mark_at m.marks i) s n) (and_no (leb i i) ∙ sym (and_no (leb (suc i) i))))
      (λ k. ap (λ (b : Bool). b && eqb (mark_at m.marks j) s) (below i j k))
    where
      and_no : (b : Bool) → b && false ≡ false
      and_no true = refl
      and_no false = refl

      below : (i j : ℕ) → (j ≡ i → ⊥) → leb i j ≡ leb (suc i) j
      below i j k = by-test (leb i j) (λ a. a ∙ sym (le-leb (suc i) j (let l = leb-true i j a in omega (arith, l, k)))) (λ a. a ∙ sym (lt-leb (suc i) j (let l = leb-false i j a in omega (arith, l))))

  not_here : (i : ℕ) → (mark_at m.marks i ≡ s → ⊥) → next i ≡ next (suc i)
  unfolding next_held
  not_here i n = ap (held_answer limit) (first_ext limit (search i) (search (suc i)) (λ j l. pass i j n))

  from_before : (i j : ℕ) (fs : List (List ℕ)) → next i ≡ next j → ReadBack m s j fs → ReadBack m s i fs
  from_before i j fs e (over h) = over (e ∙ h)
  from_before i j fs e (tells h r) = tells (e ∙ h) r

  reads : (g i : ℕ) → i + g ≡ limit → ReadBack m s i (rest m.cells m.marks s i g)
  unfolding rest
  reads zero i e = over (none_left i (omega (arith, e)))
  reads (suc g) i e =
      let ih = reads g (suc i) (omega (arith, e)) in
      by-test (eqb (mark_at m.marks i) s)
      (λ b. rw b (tells (here i g e (eqb-true (mark_at m.marks i) s b)) ih))
      (λ b. rw b (from_before i (suc i) (rest m.cells m.marks s (suc i) g) (not_here i (eqb-false (mark_at m.marks i) s b)) ih))

  any_memory : ReadBack m s 0 (records_of m.cells m.marks s limit)
  unfolding records_of
  any_memory =
      let e : records_of m.cells m.marks s (0 + limit) ≡ rest m.cells m.marks s 0 limit = records_rest m.cells m.marks s limit 0 in
      let z : 0 + limit ≡ limit = omega arith in
      rw (← z, e) (reads limit 0 z)

pub reads_back : ReadsBack
reads_back = record {
  from_desk = λ m s d.
      let c = (desk_facts m d).fits in
      let e : held_cells m.count m.cells m.marks ≡ m.count = omega (arith, c) in
      rw e at (any_memory m s);
  from_any = any_memory;
}
