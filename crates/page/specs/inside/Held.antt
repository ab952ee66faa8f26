-- How many records the seats of a row hold.
use Rattle.std.specs.Prelude.{ℕ, ◌<◌, ◌≤◌, List}
use Rattle.desk.specs.declared.state.Seat.{Seat}
use Rattle.desk.specs.Limits.{seat_count}
use Rattle.desk.specs.Seats.{seat_at}

-- no seat holds more than so many
abbrev pub HeldMost : List Seat → ℕ → Type 0
HeldMost row count = (i : ℕ) → i < seat_count → (seat_at row i).held ≤ count
