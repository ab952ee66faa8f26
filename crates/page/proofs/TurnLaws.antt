-- One more line of a cell is stored. Assumes nothing.
use Rattle.std.proofs.Common.{◌≡◌, ℕ, ◌+◌, ◌-◌, ◌*◌, ◌≤◌, List, [], ◌∷◌, ◌++◌, length, take, drop, set, sym, ap, ◌∙◌, add-one, arith, length-append, take_all}
use Rattle.std.proofs.lemmas.Slice.{put_mid-paste}
use borrow.Rule.Slice.PartMut.{put_mid}
use lib.Seq.{slice, length-slice}
use Rattle.frames.specs.Kind.{CR}
use Rattle.desk.specs.Limits.{cell_size}
use Rattle.desk.specs.Tally.{Table, letter_at, status_at, counted_in}
use Rattle.page.specs.inside.Machine.{framed}
use Rattle.page.specs.inside.Stored.{line_size, begins_at, frame_in, seat_in, stored_cells, stored_marks, stored_tally}
use Rattle.page.proofs.PartLaws.{part_part}

module _ (text : List ℕ) (from j : ℕ) where
  -- the frame in the line that begins at `at`
  pub frame_here : (at : ℕ) → at ≡ begins_at text from j → framed (slice 2 51 (take (at + line_size - at) (drop at text))) ≡ frame_in text from j
  frame_here at e =
      let n : at + line_size - at ≡ line_size = omega arith in
      rw n (rw e (ap framed (part_part (begins_at text from j) line_size 2 51 text (omega arith))))

  pub frame_long : begins_at text from j + line_size ≤ length text → length (frame_in text from j) ≡ cell_size
  frame_long h =
      let at = begins_at text from j in
      let bytes = slice (at + 2) (at + 51) text in
      let n = length-slice (at + 2) (at + 51) text (omega arith) in
      let m = length-append bytes (CR ∷ []) in
      omega (arith, n, m)

  module _ (frame : List ℕ) (e : frame ≡ frame_in text from j) where
    pub cells_more : (cells₀ cells ys : List ℕ) (k : ℕ) → k ≡ cell_size → ys ≡ frame → cells ≡ stored_cells text from cells₀ j → begins_at text from j + line_size ≤ length text
        → put_mid (j * cell_size) k cells ys ≡ stored_cells text from cells₀ (j + 1)
    unfolding stored_cells
    cells_more cells₀ cells ys k w y c h =
        let n = frame_long h in
        rw (add-one j, ← c)
        (put_mid-paste (j * cell_size) k cells ys (frame_in text from j) cell_size (y ∙ e) (sym w) (sym n)
        ∙ ap (λ (f : List ℕ). take (j * cell_size) cells ++ f ++ drop (j * cell_size + cell_size) cells) (take_all cell_size (frame_in text from j) (omega (arith, n))))

    pub tally_more : (t : Table) → t ≡ stored_tally text from j → counted_in t (letter_at frame) (status_at frame) ≡ stored_tally text from (j + 1)
    unfolding stored_tally
    tally_more t c = rw (e, add-one j, c)

  pub marks_more : (marks₀ marks : List ℕ) (i : ℕ) → marks ≡ stored_marks text from marks₀ j → i ≡ seat_in text from j → set marks j i ≡ stored_marks text from marks₀ (j + 1)
  unfolding stored_marks
  marks_more marks₀ marks i c e = rw (e, add-one j, c)
