-- The state and the lent memory together: the row of seats, the bits, the count, the cells, the marks and the tally.
use Rattle.std.specs.Prelude.{ℕ, zero, suc, ◌*◌, ◌/◌, min, List, [], ◌∷◌, ◌++◌, cond, length, get_or, take, drop, eqb}
use Rattle.desk.specs.declared.state.Seat.{Seat}
use Rattle.desk.specs.declared.state.Desk.{Desk}
use Rattle.desk.specs.Limits.{most_cells, cell_size}

pub record Memory : Type 0 where
  pub row : List Seat
  pub bits : ℕ
  pub count : ℕ
  pub cells : List ℕ
  pub marks : List ℕ
  pub tally : List (List ℕ)

abbrev pub memory : Desk → List Seat → List ℕ → List ℕ → List (List ℕ) → Memory
memory d row cells marks tally = record { row = row; bits = d.bits; count = d.count; cells = cells; marks = marks; tally = tally }

-- the least of 256, the whole cells and the marks
unfoldable pub capacity_of : ℕ → ℕ → ℕ
capacity_of cells marks = min most_cells (min (cells / cell_size) marks)

abbrev pub capacity : Memory → ℕ
capacity m = capacity_of (length m.cells) (length m.marks)

abbrev pub cell_at : List ℕ → ℕ → List ℕ
cell_at cells i = take cell_size (drop (i * cell_size) cells)

abbrev pub mark_at : List ℕ → ℕ → ℕ
mark_at marks i = get_or marks i 0

-- the records of seat s: those of the first n cells whose mark names it, in order
unfoldable pub records_of : List ℕ → List ℕ → ℕ → ℕ → List (List ℕ)
records_of cells marks s zero = []
records_of cells marks s (suc n) = records_of cells marks s n ++ cond (eqb (mark_at marks n) s) (cell_at cells n ∷ []) []

abbrev pub held_by : Memory → ℕ → List (List ℕ)
held_by m s = records_of m.cells m.marks s m.count
