-- The lines of a page as tokens: what each line says, how it is written, and which line would say it.
use Rattle.std.specs.Prelude.{ℕ, zero, suc, ◌+◌, ◌-◌, ◌%◌, Bool, true, cond, ◌&&◌, List, [], ◌∷◌, ◌++◌, length, ◌==◌, nat_le, nat_lt, slice_index, Option, unwrap_or}
use Rattle.std.proofs.Math.Seq.{slice}
use Rattle.digits.specs.Digits.{number_at}
use Rattle.text.specs.Address.{shown_address}
use Rattle.lines.specs.Lines.{Line, every}
use Rattle.lines.specs.Tokens.{Code, by_guess}
use Rattle.desk.specs.declared.key.Key.{Key}
use Rattle.desk.specs.Key.{seat_key, is_key}
use Rattle.desk.specs.Seats.{seat_at, used_bit}
use Rattle.desk.specs.Memory.{Memory, cell_at, mark_at}
use Rattle.page.specs.Version.{Version, within}
use Rattle.page.specs.Sum.{sum_of, sum_modulus}
use Rattle.page.specs.Page.{first_line, seat_line, middle, cell_line, last_line, front}

pub data Token : Type 0 where
  first : Token
  -- a seat, its key, and 1 or 0 for ended or not
  seat : ℕ → Key → ℕ → Token
  -- a seat, and the middle of a frame
  cell : ℕ → List ℕ → Token
  -- the number of cells, and the sum modulo 65,536
  last : ℕ → ℕ → Token

-- how many bytes the middle of a frame has
abbrev pub middle_size : ℕ
middle_size = 49

-- what is guessed of what may be no number
abbrev pub value_of : Option ℕ → ℕ
value_of n = unwrap_or n 0

module _ (v : Version) where
  abbrev pub write : Token → Line
  write first = first_line v
  write (seat i k ended) = seat_line v i k ended
  write (cell i bytes) = cell_line v i bytes
  write (last count sum) = last_line count sum

  unfoldable pub fits : Token → Bool
  fits first = true
  fits (seat i k ended) = nat_lt i v.seats && is_key k && nat_le ended 1
  fits (cell i bytes) = nat_lt i v.seats && length bytes == middle_size && every within bytes
  fits (last count sum) = nat_lt count 10000 && nat_lt sum 100000

  -- how many bytes the lines of seats, of cells and the last line have
  abbrev pub seat_size : ℕ
  seat_size = v.seat.width + 11

  abbrev pub cell_size : ℕ
  cell_size = v.seat.width + 51

  abbrev pub last_size : ℕ
  last_size = 11

  -- the token that a line of a seat, of a cell, or a last line would say
  unfoldable pub guess_seat : Line → Token
  guess_seat l =
      seat (value_of (v.seat.got l 0))
      (record { address = shown_address (slice_index l (v.seat.width + 1)); requester = slice_index l (v.seat.width + 3); number = value_of (number_at l (v.seat.width + 5) 3) })
      (slice_index l (v.seat.width + 9) - 48)

  unfoldable pub guess_cell : Line → Token
  guess_cell l = cell (value_of (v.seat.got l 0)) (slice (v.seat.width + 1) (v.seat.width + 50) l)

  unfoldable pub guess_last : Line → Token
  guess_last l = last (value_of (number_at l 0 4)) (value_of (number_at l 5 5))

  -- by its length
  unfoldable pub guess : Line → Token
  guess l =
      cond (length l == cell_size) (guess_cell l)
      (cond (length l == seat_size) (guess_seat l)
      (cond (length l == last_size) (guess_last l)
      first))

  abbrev pub code : Code Token
  code = by_guess write fits guess

-- ---- the tokens of a desk

module _ (v : Version) (m : Memory) where
  -- of the used seats below n, with what is said of their end
  unfoldable pub seat_tokens : (ℕ → ℕ) → ℕ → List Token
  seat_tokens said zero = []
  seat_tokens said (suc i) = seat_tokens said i ++ cond (used_bit m.bits i) (seat i (seat_key (seat_at m.row i)) (said i) ∷ []) []

  unfoldable pub cell_tokens : ℕ → List Token
  cell_tokens zero = []
  cell_tokens (suc j) = cell_tokens j ++ (cell (mark_at m.marks j) (middle (cell_at m.cells j)) ∷ [])

  unfoldable pub front_tokens : (ℕ → ℕ) → List Token
  front_tokens said = first ∷ (seat_tokens said v.seats ++ cell_tokens m.count)

  abbrev pub ended_at : ℕ → ℕ
  ended_at i = (seat_at m.row i).ended

  unfoldable pub tokens : List Token
  tokens = front_tokens ended_at ++ (last m.count (sum_of (front v m) % sum_modulus) ∷ [])
