-- A part of a list, from a place on and by its end; and a part of a part. Assumes nothing.
use Rattle.std.proofs.Common.{◌≡◌, ℕ, zero, suc, ◌+◌, ◌≤◌, List, [], ◌∷◌, take, drop, ap, ◌∙◌, suc-add, zero-add, take-take, drop-drop}
use lib.Seq.{slice, take-nil}

module _ {A : Type 0} where
  pub part_is : (at n : ℕ) (l : List A) → take n (drop at l) ≡ slice at (at + n) l
  part_is zero n l = rw zero-add
  part_is (suc at) n [] = take-nil n ∙ rw suc-add
  part_is (suc at) n (x ∷ l) = rw suc-add (part_is at n l)

  pub part_part : (at n a e : ℕ) (l : List A) → e ≤ n → slice a e (take n (drop at l)) ≡ slice (at + a) (at + e) l
  part_part at n a e l h =
      ap (drop a) (take-take e n (drop at l) h ∙ part_is at e l) ∙ drop-drop a at (take (at + e) l)
