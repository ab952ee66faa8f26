-- Laws of rows: a seat's records one after the other, and seat after seat. Assumes nothing.
use Prim.Native.Nat.{ℕ, ◌+◌, ◌*◌, ◌-◌, ◌≤◌}
use mathlib.Core.List.{List, [], ◌∷◌, ◌++◌, append-nil, append_assoc}
use mathlib.Core.Bool.{Bool, true, false, cond}
use mathlib.Core.Path.{◌≡◌, refl, sym, ap, ◌∙◌}
use native.Mathlib.Omega.{arith}
use native.Mathlib.Numerals.{add-one}
use lib.ListN.{length, take, drop, length-take, length-drop}
use lib.Dec.{eqb}
use Rattle.text.specs.Put.{most_place, Put}
use Rattle.text.proofs.PutLaws.{put_then}
use Rattle.desk.specs.Limits.{cell_size}
use Rattle.desk.specs.Memory.{cell_at, mark_at, records_of}
use Rattle.desk.proofs.ClauseLaws.{part_cell}
use Rattle.listing.specs.Text.{row_text, rows_text}
use Rattle.listing.specs.inside.Rows.{seats_of}

rows_both : (s : ℕ) (a b : List (List ℕ)) → rows_text s (a ++ b) ≡ rows_text s a ++ rows_text s b
rows_both s [] b = refl
rows_both s (f ∷ a) b = ap (λ (l : List ℕ). row_text s f ++ l) (rows_both s a b) ∙ sym (append_assoc (row_text s f) (rows_text s a) (rows_text s b))

row_or : (s : ℕ) (f : List ℕ) (b : Bool) → rows_text s (cond b (f ∷ []) []) ≡ cond b (row_text s f) []
row_or s f true = append-nil (row_text s f)
row_or s f false = refl

pub rows_more : (cells marks : List ℕ) (s i : ℕ) → rows_text s (records_of cells marks s (i + 1)) ≡ rows_text s (records_of cells marks s i) ++ cond (eqb (mark_at marks i) s) (row_text s (cell_at cells i)) []
unfolding records_of
rows_more cells marks s i =
    rw (add-one i) (rows_both s (records_of cells marks s i) (cond (eqb (mark_at marks i) s) (cell_at cells i ∷ []) [])
    ∙ ap (λ (l : List ℕ). rows_text s (records_of cells marks s i) ++ l) (row_or s (cell_at cells i) (eqb (mark_at marks i) s)))

-- a cell within the memory has its full length
pub cell_whole : (cells : List ℕ) (i : ℕ) → i * cell_size + cell_size ≤ length cells → length (take (i * cell_size + cell_size - i * cell_size) (drop (i * cell_size) cells)) ≡ cell_size
cell_whole cells i l =
    let a = length-take (i * cell_size + cell_size - i * cell_size) (drop (i * cell_size) cells) in
    let b = length-drop (i * cell_size) cells in
    omega (arith, a, b)

-- one more cell, and one more seat
module _ (out : List ℕ) (at : ℕ) (cells marks : List ℕ) (p : ℕ) (mid : List ℕ) (q : ℕ) (out' : List ℕ) (l : length out ≤ most_place) where
  pub seat_more : (s i : ℕ) → Put out at (rows_text s (records_of cells marks s i)) p mid
      → Put mid p (cond (eqb (mark_at marks i) s) (row_text s (take (i * cell_size + cell_size - i * cell_size) (drop (i * cell_size) cells))) []) q out'
      → Put out at (rows_text s (records_of cells marks s (i + 1))) q out'
  seat_more s i x y = rw (rows_more cells marks s i) (put_then out at _ p mid _ q out' l x (rw (part_cell cells i) at y))

  pub seats_more : (count n : ℕ) → Put out at (seats_of cells marks count n) p mid → Put mid p (rows_text n (records_of cells marks n count)) q out'
      → Put out at (seats_of cells marks count (n + 1)) q out'
  unfolding seats_of
  seats_more count n x y = rw (add-one n) (put_then out at _ p mid _ q out' l x y)
