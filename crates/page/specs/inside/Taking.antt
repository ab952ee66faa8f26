-- What the code does with one line of a page, beside the machine.
use Rattle.std.specs.Prelude.{◌≡◌, ℕ, ◌+◌, ◌-◌, ◌<◌, Bool, true, false, cond, not, ◌&&◌, ◌||◌, nat_le, slice_index}
use Rattle.digits.specs.Digits.{number_at}
use Rattle.frames.specs.declared.reply.ReplyLabel.{ReplyLabel}
use Rattle.text.specs.Address.{shown_address}
use Rattle.lines.specs.Lines.{Line}
use Rattle.lines.specs.Machine.{Step, refused, next}
use Rattle.desk.specs.declared.key.Key.{Key}
use Rattle.desk.specs.Key.{key_in}
use Rattle.desk.specs.Hearing.{ends, ended_by}
use Rattle.desk.specs.Step.{progress_of, step, goes}
use Rattle.desk.specs.Seats.{seat_at, used_bit, keyed_at}
use Rattle.page.specs.declared.sofar.Sofar.{Sofar}
use Rattle.page.specs.Version.{one}
use Rattle.page.specs.Sum.{sum_of}
use Rattle.page.specs.inside.Tokens.{value_of}
use Rattle.page.specs.inside.Machine.{Body, Reached, body, seat_taken, with_seat, with_cell, machine}

-- a key whose letters are bytes
pub record Narrow (k : Key) : Type 0 where
  pub address : k.address < 256
  pub requester : k.requester < 256

-- the machine's state: the code keeps no sum
abbrev pub state_of : Sofar → ℕ → Body
state_of s sum = record { row = s.row; bits = s.bits; count = s.count; said = s.said; waiting = s.waiting; sum = sum }

-- what a turn says: taken or not, and what is read then
abbrev pub turned : ℕ → Line → Bool → Sofar → Step Reached
turned sum line taken s = cond taken (next (body (state_of s (sum + sum_of line)))) refused

-- what is promised of taking a line that is neither the first nor the last: for every sum, it is the machine's step; and a line that is not taken changes nothing
pub record Taken (s : Sofar) (line : Line) (taken : Bool) (s' : Sofar) : Type 0 where
  pub steps : (sum : ℕ) → turned sum line taken s' ≡ (machine one).step (body (state_of s sum)) line
  pub stays : taken ≡ false → state_of s' 0 ≡ state_of s 0

-- ---- the turns that the code makes

-- the key in a line of a seat
abbrev pub key_shown : Line → Key
key_shown l = record { address = shown_address (slice_index l 2); requester = slice_index l 4; number = value_of (number_at l 6 3) }

-- a line of a seat: it may come here, and a cell is left for its end
unfoldable pub seat_takes : Sofar → ℕ → Key → ℕ → Bool
seat_takes s i k ended = seat_taken (state_of s 0) i k && nat_le (s.count + (s.waiting + ended)) one.cells

abbrev pub seat_turn : Sofar → ℕ → Key → ℕ → Body
seat_turn s i k ended = cond (seat_takes s i k ended) (with_seat (state_of s 0) i k ended 0) (state_of s 0)

-- a line of a cell: the seat takes its reply, which ends only a seat that is said to end
unfoldable pub cell_hears : Sofar → ℕ → ReplyLabel → Bool
cell_hears s i l =
    keyed_at s.row s.bits (key_in l) i && goes (step (progress_of (seat_at s.row i)) true l.status) && (not (ends l.status) || used_bit s.said i)

-- and a cell is left for each seat that still waits for its end
unfoldable pub cell_takes : Sofar → ℕ → ReplyLabel → Bool
cell_takes s i l = cell_hears s i l && nat_le (s.count + 1 + (s.waiting - ended_by l.status)) one.cells

abbrev pub cell_turn : Sofar → ℕ → ReplyLabel → Body
cell_turn s i l = cond (cell_takes s i l) (with_cell (state_of s 0) i l.status 0) (state_of s 0)
