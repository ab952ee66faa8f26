-- Laws of memory that is copied aside and put back, and of what a capture leaves unchanged. Assumes nothing.
use Prim.Native.Nat.{ℕ, ◌+◌, ◌*◌, ◌≤◌, min}
use mathlib.Core.List.{List, ◌++◌}
use mathlib.Core.Bool.{true}
use mathlib.Core.Path.{◌≡◌, sym, ap, ◌∙◌}
use native.Mathlib.Omega.{arith}
use native.Mathlib.Nat.{zero-add}
use lib.ListN.{length, take, drop, take-append-drop, drop_of_length-le}
use lib.Seq.{sets, sets-eq, length-sets, length-take-le, take_at}
use Rattle.digits.proofs.Tests.{by_less}
use Rattle.digits.proofs.Writing.{sets_beyond, run_whole}
use Rattle.finder.specs.Pieces.{pieces}
use Rattle.desk.specs.Limits.{most_cells, cell_size}
use Rattle.desk.specs.Memory.{capacity_of}
use Rattle.desk.specs.Desk.{is_desk}
use Rattle.desk.proofs.ReplayLaws.{desk_facts}
use Rattle.desk.proofs.DeskLaws.{stays_desk}
use Rattle.desk.proofs.LeavesLaws.{Leaves, all_leaves, all_desk}
use Rattle.listing.specs.Listing.{store, after}

-- ---- a copy of as many as have room

copy_whole : (l vs : List ℕ) (n : ℕ) → n ≡ min (length l) (length vs) → sets l 0 (take n vs) ≡ sets l 0 vs
copy_whole l vs n e =
    by_less 0 (length l)
    (λ h. run_whole l 0 vs n (omega (arith, e)) h)
    (λ h. sets_beyond l 0 (take n vs) h ∙ sym (sets_beyond l 0 vs h))

-- ---- putting back

-- a list whose first elements are replaced by those of another
front : (l vs : List ℕ) (n : ℕ) → n ≡ min (length l) (length vs) → sets l 0 vs ≡ take n vs ++ drop n l
front l vs n e =
    let t = length-take-le n vs (omega (arith, e)) in
    sym (copy_whole l vs n e)
    ∙ sets-eq (take n vs) l 0 (omega (arith, e, t))
    ∙ ap (λ (k : ℕ). take n vs ++ drop k l) (ap (λ (k : ℕ). 0 + k) t ∙ zero-add n)

-- if all after n stayed, so did all after n or after the list's length, whichever is less
after_min : (n : ℕ) (c c' : List ℕ) → length c' ≡ length c → drop n c' ≡ drop n c → drop (min (length c) n) c' ≡ drop (min (length c) n) c
after_min n c c' l d =
    by_less n (length c)
    (λ h. let e : min (length c) n ≡ n = omega arith in rw e d)
    (λ h.
    let e : min (length c) n ≡ length c = omega arith in
    let a : length c' ≤ length c = omega arith in
    let b : length c ≤ length c = omega arith in
    rw e (drop_of_length-le c' a ∙ sym (drop_of_length-le c b)))

-- copied aside onto zeros, and put back onto a list that changed only in its first n elements
pub restored : (n : ℕ) (c c' zeros old back : List ℕ) → length zeros ≡ n → length c' ≡ length c → drop n c' ≡ drop n c → old ≡ sets zeros 0 c → back ≡ sets c' 0 old → back ≡ c
restored n c c' zeros old back z l d o b =
    let m : ℕ = min (length c) n in
    let t = length-take-le m c (omega arith) in
    let e : old ≡ take m c ++ drop m zeros = o ∙ front zeros c m (omega (arith, z)) in
    let k : length old ≡ n = ap length o ∙ length-sets zeros 0 c ∙ z in
    let f : take m old ≡ take m c = ap (take m) e ∙ take_at (take m c) (drop m zeros) m t in
    b ∙ front c' old m (omega (arith, k, l)) ∙ rw (f, after_min n c c' l d) (take-append-drop m c)

module _ (cells marks s : List ℕ) where
  pub store_desk : is_desk (store cells marks) ≡ true
  store_desk = stays_desk.reset (store cells marks)

  pub after_leaves : Leaves (store cells marks) (after cells marks s)
  after_leaves = all_leaves (store cells marks) (pieces s)

  -- the cells and marks that are held exist
  pub record Fits : Type 0 where
    pub most : (after cells marks s).count ≤ most_cells
    pub marked : (after cells marks s).count ≤ length (after cells marks s).marks
    pub celled : (after cells marks s).count * cell_size ≤ length (after cells marks s).cells

  pub after_fits : Fits
  unfolding capacity_of
  after_fits =
      let f = (desk_facts (after cells marks s) (all_desk (store cells marks) (pieces s) store_desk)).fits in
      record { most = omega arith; marked = omega arith; celled = omega arith }
