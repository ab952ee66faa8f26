-- The clauses of a desk, as the code computes them.
use Rattle.std.specs.Prelude.{ℕ, ◌<◌, List, Bool, true, false, cond, ◌&&◌, ◌≡◌, eqb, ltb, length, get_or, Option, Some, None}
use Rattle.digits.specs.Told.{Told, gives, refuses}
use Rattle.frames.specs.declared.reply.ReplyLabel.{ReplyLabel}
use Rattle.desk.specs.declared.state.Seat.{Seat}
use Rattle.desk.specs.declared.step.Progress.{Progress}
use Rattle.desk.specs.Limits.{seat_count}
use Rattle.desk.specs.Key.{key_in, seat_key, is_key}
use Rattle.desk.specs.Hearing.{heard, status_in}
use Rattle.desk.specs.Step.{advanced, step, goes}
use Rattle.desk.specs.Memory.{cell_at, mark_at}
use Rattle.desk.specs.Seats.{seat_at, used_bit}
use Rattle.desk.specs.Desk.{is_zero}
use Rattle.desk.specs.Replay.{replayed, taken_at}
use Rattle.desk.specs.inside.Columns.{key_number}

-- a used seat has a legal key, an unused one is all zero
unfoldable pub seat_good : Seat → ℕ → ℕ → Bool
seat_good s bits i = cond (used_bit bits i) (is_key (seat_key s)) (is_zero s)

abbrev pub seat_good_at : List Seat → ℕ → ℕ → Bool
seat_good_at row bits i = seat_good (seat_at row i) bits i

-- a well formed reply whose key is this number
abbrev pub has_number : ℕ → Told ReplyLabel → Bool
has_number key (gives l) = eqb key (key_number (key_in l))
has_number key (refuses f) = false

-- one more row of a seat: how far the seat comes with it, if it is a reply with the seat's key that the seat takes
unfoldable pub turn_of : Progress → ℕ → Told ReplyLabel → Option Progress
turn_of p key got = cond (has_number key got && goes (step p true (status_in got))) (Some (advanced p (status_in got))) None

-- row i, with the keys as a column: a seat that is not in use has the key 0, which no reply has
abbrev pub row_taken : List ℕ → List ℕ → List ℕ → ℕ → Bool
row_taken keys cells marks i = ltb (mark_at marks i) seat_count && (has_number (get_or keys (mark_at marks i) 0) (heard (cell_at cells i)) && taken_at cells marks i)

-- the columns are what the first n rows bring each seat to
pub record Tracks (cells marks : List ℕ) (n : ℕ) (held ended : List ℕ) : Type 0 where
  pub held_size : length held ≡ seat_count
  pub ended_size : length ended ≡ seat_count
  pub each : (s : ℕ) → s < seat_count → ◌≡◌ {A = Progress} (record { held = get_or held s 0; ended = get_or ended s 0 }) (replayed cells marks s n)
