-- What storing the cells of a page leaves, by the bytes of the text: a line for each cell, from a place on.
use Rattle.std.specs.Prelude.{◌≡◌, ℕ, zero, suc, ◌+◌, ◌-◌, ◌*◌, ◌≤◌, true, List, ◌++◌, length, take, drop, slice_index, slice_set}
use Rattle.std.proofs.Math.Seq.{slice}
use Rattle.desk.specs.Limits.{cell_size}
use Rattle.desk.specs.Memory.{Memory}
use Rattle.desk.specs.Desk.{is_desk}
use Rattle.desk.specs.Tally.{Table, empty_tally, letter_at, status_at, counted_in}
use Rattle.desk.specs.Calls.{with_cell}
use Rattle.page.specs.Version.{digit_seat, one}
use Rattle.page.specs.Page.{page}
use Rattle.page.specs.inside.Tokens.{value_of, last_size}
use Rattle.page.specs.inside.Machine.{framed}

-- how many bytes the line of a cell has
abbrev pub line_size : ℕ
line_size = 52

-- where the lines of so many cells begin: they end right before the last line
abbrev pub cells_from : List ℕ → ℕ → ℕ
cells_from text count = length text - last_size one - count * line_size

module _ (text : List ℕ) (from : ℕ) where
  -- where line j begins, the frame in it, and its seat
  abbrev pub begins_at : ℕ → ℕ
  begins_at j = from + j * line_size

  abbrev pub frame_in : ℕ → List ℕ
  frame_in j = framed (slice (begins_at j + 2) (begins_at j + 51) text)

  abbrev pub seat_in : ℕ → ℕ
  seat_in j = value_of (digit_seat (slice_index text (begins_at j)))

  unfoldable pub stored_cells : List ℕ → ℕ → List ℕ
  stored_cells cells zero = cells
  stored_cells cells (suc j) = with_cell (stored_cells cells j) (j * cell_size) (frame_in j)

  unfoldable pub stored_marks : List ℕ → ℕ → List ℕ
  stored_marks marks zero = marks
  stored_marks marks (suc j) = slice_set (stored_marks marks j) j (seat_in j)

  unfoldable pub stored_tally : ℕ → Table
  stored_tally zero = empty_tally
  stored_tally (suc j) = counted_in (stored_tally j) (letter_at (frame_in j)) (status_at (frame_in j))

-- what a text stores over lent cells and marks is desk d's: the cells and marks below the count, and the tally
pub record Stores (d : Memory) (text cells marks : List ℕ) : Type 0 where
  pub cells_are : stored_cells text (cells_from text d.count) cells d.count ≡ take (d.count * cell_size) d.cells ++ drop (d.count * cell_size) cells
  pub marks_are : stored_marks text (cells_from text d.count) marks d.count ≡ take d.count d.marks ++ drop d.count marks
  pub tally_is : stored_tally text (cells_from text d.count) d.count ≡ d.tally

-- the page of a desk stores that desk, if there are marks enough
abbrev pub StoredRestored : Type 0
StoredRestored = (d : Memory) (text cells marks : List ℕ) → is_desk d ≡ true → page one d ≡ text → d.count ≤ length marks → Stores d text cells marks
