-- The machine that reads pages. It keeps the seats as they are after the lines so far, and takes a line only if some desk's page goes on from it.
use Rattle.std.specs.Prelude.{ℕ, ◌+◌, ◌-◌, ◌*◌, ◌/◌, ◌%◌, ◌^◌, Bool, true, false, cond, not, ◌&&◌, ◌||◌, List, [], ◌∷◌, ◌++◌, ◌==◌, nat_le, slice_set}
use Rattle.digits.specs.Told.{Told}
use Rattle.frames.specs.declared.reply.ReplyLabel.{ReplyLabel}
use Rattle.frames.specs.Kind.{CR}
use Rattle.frames.specs.Reply.{reply}
use Rattle.lines.specs.Lines.{Line}
use Rattle.lines.specs.Machine.{Machine, Step, refused, next}
use Rattle.lines.specs.Filter.{only_where}
use Rattle.lines.specs.Tokens.{over_lines}
use Rattle.desk.specs.declared.state.Seat.{Seat}
use Rattle.desk.specs.declared.key.Key.{Key}
use Rattle.desk.specs.Limits.{seat_count}
use Rattle.desk.specs.Key.{seat_key}
use Rattle.desk.specs.Hearing.{heard, has_key, status_in, ends}
use Rattle.desk.specs.Step.{progress_of, step, goes}
use Rattle.desk.specs.Seats.{seat_at, used_bit, seat_with}
use Rattle.desk.specs.Memory.{Memory}
use Rattle.desk.specs.Calls.{new_seat, grown, empty_row}
use Rattle.page.specs.Version.{Version}
use Rattle.page.specs.Sum.{sum_of, sum_modulus}
use Rattle.page.specs.inside.Tokens.{Token, first, seat, cell, last, write, code}

-- what was read so far: the seats, how many cells, which seats are said to end (as bits), how many of them have not had their E or Z, and the sum of all bytes
pub record Body : Type 0 where
  pub row : List Seat
  pub bits : ℕ
  pub count : ℕ
  pub said : ℕ
  pub waiting : ℕ
  pub sum : ℕ

pub data Reached : Type 0 where
  heading : Reached
  body : Body → Reached
  over : Body → Reached

-- what a page shows of a desk, apart from its cells
pub record Shown : Type 0 where
  pub row : List Seat
  pub bits : ℕ
  pub count : ℕ

abbrev pub shows : Memory → Shown
shows m = record { row = m.row; bits = m.bits; count = m.count }

-- the frame with this middle
abbrev pub framed : List ℕ → List ℕ
framed bytes = reply.lead ∷ (bytes ++ (CR ∷ []))

-- ---- a line of a seat

-- it comes before all cells and after all lower seats, and no seat has its key
unfoldable pub seat_taken : Body → ℕ → Key → Bool
seat_taken s i k = s.count == 0 && s.bits / 2 ^ i == 0 && nat_le seat_count (seat_with s.row s.bits k)

abbrev pub with_seat : Body → ℕ → Key → ℕ → ℕ → Body
with_seat s i k ended sum =
    record {
      row = slice_set s.row i (new_seat k);
      bits = s.bits + 2 ^ i;
      count = s.count;
      said = s.said + ended * 2 ^ i;
      waiting = s.waiting + ended;
      sum = s.sum + sum;
    }

-- ---- a line of a cell

-- its seat is in use, it is a reply with the seat's key that the seat takes, and it does not end a seat that is not said to end
unfoldable pub heard_taken : Body → ℕ → Told ReplyLabel → Bool
heard_taken s i got =
    used_bit s.bits i
    && has_key (seat_key (seat_at s.row i)) got
    && goes (step (progress_of (seat_at s.row i)) true (status_in got))
    && (not (ends (status_in got)) || used_bit s.said i)

abbrev pub with_cell : Body → ℕ → ℕ → ℕ → Body
with_cell s i status sum =
    record {
      row = slice_set s.row i (grown (seat_at s.row i) status);
      bits = s.bits;
      count = s.count + 1;
      said = s.said;
      waiting = s.waiting - cond (ends status) 1 0;
      sum = s.sum + sum;
    }

-- ---- the machine

abbrev pub only : Bool → Reached → Step Reached
only t q = cond t (next q) refused

module _ (v : Version) where
  -- how a page is built, line by line
  abbrev pub step' : Reached → Token → Step Reached
  step' heading first = next (body (record { row = empty_row; bits = 0; count = 0; said = 0; waiting = 0; sum = sum_of (write v first) }))
  step' heading (seat i k ended) = refused
  step' heading (cell i bytes) = refused
  step' heading (last count sum) = refused
  step' (body s) first = refused
  step' (body s) (seat i k ended) = only (seat_taken s i k) (body (with_seat s i k ended (sum_of (write v (seat i k ended)))))
  step' (body s) (cell i bytes) =
      only (heard_taken s i (heard (framed bytes))) (body (with_cell s i (status_in (heard (framed bytes))) (sum_of (write v (cell i bytes)))))
  -- no seat may wait for its end any more
  step' (body s) (last count sum) = only (count == s.count && sum == s.sum % sum_modulus && s.waiting == 0) (over s)
  -- nothing comes after the last line
  step' (over s) k = refused

  -- each seat that waits needs one cell more
  unfoldable pub roomy : Body → Bool
  roomy s = nat_le (s.count + s.waiting) v.cells

  abbrev pub viable : Reached → Bool
  viable heading = true
  viable (body s) = roomy s
  viable (over s) = roomy s

  abbrev pub final : Reached → Bool
  final heading = false
  final (body s) = false
  final (over s) = true

  abbrev pub shown_of : Body → Shown
  shown_of s = record { row = s.row; bits = s.bits; count = s.count }

  abbrev pub built : Reached → Shown
  built heading = record { row = empty_row; bits = 0; count = 0 }
  built (body s) = shown_of s
  built (over s) = shown_of s

  abbrev pub builder : Machine Shown Reached Token
  builder = record { start = heading; step = step'; final = final; built = built }

  abbrev pub token_machine : Machine Shown Reached Token
  token_machine = only_where viable builder

  abbrev pub machine : Machine Shown Reached Line
  machine = over_lines (code v) token_machine
