-- What the code needs to put a seat's line, and a memory of which it puts only some lines.
use Rattle.std.specs.Prelude.{◌≡◌, ℕ, ◌*◌, ◌<◌, ◌≤◌, true, List, [], length}
use Rattle.desk.specs.declared.state.Seat.{Seat}
use Rattle.desk.specs.Limits.{seat_count, cell_size}
use Rattle.desk.specs.Key.{seat_key}
use Rattle.desk.specs.Seats.{seat_at, used_bit}
use Rattle.desk.specs.Memory.{Memory, mark_at}
use Rattle.page.specs.inside.Taking.{Narrow}

-- a seat whose parts have room in a line
pub record SeatFits (s : Seat) : Type 0 where
  pub key : Narrow (seat_key s)
  pub ended : s.ended ≤ 1

-- each used seat has room in a line
abbrev pub SeatsFit : List Seat → ℕ → Type 0
SeatsFit row bits = (i : ℕ) → i < seat_count → used_bit bits i ≡ true → SeatFits (seat_at row i)

-- the first cells and marks exist, and each of these marks is a seat
pub record CellsFit (cells marks : List ℕ) (count : ℕ) : Type 0 where
  pub celled : count * cell_size ≤ length cells
  pub marked : count ≤ length marks
  pub seats : (j : ℕ) → j < count → mark_at marks j < seat_count

-- a memory with these seats and no cells, and one with these cells and no seats
abbrev pub of_seats : List Seat → ℕ → Memory
of_seats row bits = record { row = row; bits = bits; count = 0; cells = []; marks = []; tally = [] }

abbrev pub of_cells : List ℕ → List ℕ → Memory
of_cells cells marks = record { row = []; bits = 0; count = 0; cells = cells; marks = marks; tally = [] }
