-- What is stored of a desk's page is the desk's: its cells, its marks and its tally. Assumes nothing.
use Rattle.std.proofs.Common.{◌≡◌, ℕ, zero, suc, ◌+◌, ◌*◌, ◌<◌, ◌≤◌, List, ◌++◌, length, get_or, take, drop, set, sym, refl, ap, ◌∙◌, suc-mul, arith, length-take-le, drop-cons, take-suc, drop-drop, take_at, take-add, drop_at, lt-ltb}
use lib.Seq.{set_at, append_snoc}
use Rattle.desk.specs.Limits.{most_cells, cell_size}
use Rattle.desk.specs.Memory.{Memory, cell_at}
use Rattle.desk.specs.Tally.{Table, entry_of, letter_at, status_at, counted, counted_in}
use Rattle.desk.specs.Calls.{with_cell}
use Rattle.desk.proofs.ClauseLaws.{cap_room}
use Rattle.desk.proofs.TallyLaws.{Listed, Right, same_table, right_empty, right_more, right_entry, held_most}
use Rattle.desk.proofs.ReplayLaws.{Facts, desk_facts}
use Rattle.page.specs.Version.{one}
use Rattle.page.specs.Page.{page}
use Rattle.page.specs.inside.Stored.{cells_from, stored_cells, stored_marks, stored_tally, Stores, StoredRestored}
use Rattle.page.proofs.MiddleLaws.{cell_listed}
use Rattle.page.proofs.FoundLaws.{seat_in_line, frame_in_line}

-- ---- one more cell, and one more mark, over lent ones

cell_over : (own lent : List ℕ) (at : ℕ) → at ≤ length own → with_cell (take at own ++ drop at lent) at (take cell_size (drop at own)) ≡ take (at + cell_size) own ++ drop (at + cell_size) lent
cell_over own lent at l =
    let n = length-take-le at own l in
    let rest : drop (at + cell_size) (take at own ++ drop at lent) ≡ drop (at + cell_size) lent =
    sym (drop-drop cell_size at (take at own ++ drop at lent)) ∙ ap (drop cell_size) (drop_at (take at own) (drop at lent) at n) ∙ drop-drop cell_size at lent in
    rw (take_at (take at own) (drop at lent) at n, rest, take-add at cell_size own)

mark_over : (own lent : List ℕ) (j : ℕ) → j < length own → j < length lent → set (take j own ++ drop j lent) j (get_or own j 0) ≡ take (suc j) own ++ drop (suc j) lent
mark_over own lent j k l =
    ap (λ (t : List ℕ). set (take j own ++ t) j (get_or own j 0)) (drop-cons lent j 0 l)
    ∙ set_at (take j own) (get_or lent j 0) (drop (suc j) lent) (get_or own j 0) j (length-take-le j own (omega arith))
    ∙ sym (append_snoc (take j own) (get_or own j 0) (drop (suc j) lent))
    ∙ ap (λ (t : List ℕ). t ++ drop (suc j) lent) (sym (take-suc own j 0 k))

-- ---- a tally is told by the cells that it counts

right_counted_in : (cells : List ℕ) (n : ℕ) (t : Table) → Right cells n t → n < 4294967295 → (f : List ℕ) → Listed f → counted_in t (letter_at f) (status_at f) ≡ counted t (letter_at f) (status_at f)
unfolding counted_in
right_counted_in cells n t r small f g =
    let e = right_entry cells n t r (letter_at f) (status_at f) g.letter g.status in
    let m = held_most cells n (letter_at f) (status_at f) in
    let l : entry_of t (letter_at f) (status_at f) < 4294967295 = omega (arith, e, m, small) in
    rw (g.letter, g.status, lt-ltb (entry_of t (letter_at f) (status_at f)) 4294967295 l)

pub right_once : (cells : List ℕ) (n : ℕ) (t u : Table) → Right cells n t → Right cells n u → t ≡ u
right_once cells n t u x y = same_table t u x.whole y.whole (λ i j k l. x.each i j k l ∙ sym (y.each i j k l))

-- ---- the page of a desk

module _ (d : Memory) (facts : Facts d) where
  abbrev text : List ℕ
  text = page one d

  abbrev from : ℕ
  from = cells_from text d.count

  room : (d.count ≤ most_cells) × ((d.count ≤ length d.marks) × (d.count * cell_size ≤ length d.cells))
  room = cap_room (length d.cells) (length d.marks) d.count facts.fits

  cells_over : (lent : List ℕ) (n : ℕ) → n ≤ d.count → stored_cells text from lent n ≡ take (n * cell_size) d.cells ++ drop (n * cell_size) lent
  unfolding stored_cells
  cells_over lent zero l = refl
  cells_over lent (suc n) l =
      let k = room.1.1 in
      rw (cells_over lent n (omega arith), frame_in_line d facts n l, suc-mul n cell_size)
      (cell_over d.cells lent (n * cell_size) (omega (arith, k)))

  marks_over : (lent : List ℕ) → d.count ≤ length lent → (n : ℕ) → n ≤ d.count → stored_marks text from lent n ≡ take n d.marks ++ drop n lent
  unfolding stored_marks
  marks_over lent h zero l = refl
  marks_over lent h (suc n) l =
      let k = room.1.0 in
      rw (marks_over lent h n (omega arith), seat_in_line d facts n l) (mark_over d.marks lent n (omega (arith, k)) (omega arith))

  tally_right_law : (n : ℕ) → n ≤ d.count → Right d.cells n (stored_tally text from n)
  unfolding stored_tally
  tally_right_law zero l = right_empty d.cells
  tally_right_law (suc n) l =
      let f = cell_at d.cells n in
      let r = tally_right_law n (omega arith) in
      let g = cell_listed d facts n l in
      let k = room.0 in
      rw (frame_in_line d facts n l, right_counted_in d.cells n (stored_tally text from n) r (omega (arith, k)) f g)
      (right_more d.cells n (stored_tally text from n) r f refl g)

  pub facts_stored : (cells marks : List ℕ) → d.count ≤ length marks → Stores d text cells marks
  facts_stored cells marks h = record {
    cells_are = cells_over cells d.count (omega arith);
    marks_are = marks_over marks h d.count (omega arith);
    tally_is = right_once d.cells d.count _ d.tally (tally_right_law d.count (omega arith)) facts.tally;
  }

pub stored_restored : StoredRestored
stored_restored d text cells marks desk e h = rw (← e) (facts_stored d (desk_facts d desk) cells marks h)
