-- Seats: which are in use, and which one has a key.
use Rattle.std.specs.Prelude.{ℕ, ◌/◌, ◌%◌, ◌^◌, List, Bool, not, ◌&&◌, get_or, eqb}
use Rattle.desk.specs.declared.state.Seat.{Seat}
use Rattle.desk.specs.declared.key.Key.{Key}
use Rattle.desk.specs.Limits.{seat_count}
use Rattle.desk.specs.Below.{first}
use Rattle.desk.specs.Key.{seat_key, same_key}

abbrev pub zero_seat : Seat
zero_seat = record { address = 0; requester = 0; number = 0; held = 0; ended = 0 }

abbrev pub seat_at : List Seat → ℕ → Seat
seat_at row i = get_or row i zero_seat

-- bit i of the number is set: seat i is in use
abbrev pub used_bit : ℕ → ℕ → Bool
used_bit bits i = eqb (bits / 2 ^ i % 2) 1

-- in use, with this key
unfoldable pub keyed : Seat → ℕ → ℕ → Key → Bool
keyed s bits i k = used_bit bits i && same_key (seat_key s) k

abbrev pub keyed_at : List Seat → ℕ → Key → ℕ → Bool
keyed_at row bits k i = keyed (seat_at row i) bits i k

-- the seat with this key, or 16 if no seat has it
unfoldable pub seat_with : List Seat → ℕ → Key → ℕ
seat_with row bits k = first seat_count (keyed_at row bits k)

abbrev pub clear_at : ℕ → ℕ → Bool
clear_at bits i = not (used_bit bits i)

-- the lowest clear bit of a number of 64 bits, or 64 if all are set
unfoldable pub lowest_clear : ℕ → ℕ
lowest_clear bits = first 64 (clear_at bits)
