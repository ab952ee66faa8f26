-- The desk's calls on a row that is lent, of any length. They do what the calls by value do. A row that does not have sixteen
-- seats is not a desk.
use Rattle.std.specs.Prelude.{ℕ, List, ◌≡◌}
use Rattle.digits.specs.Told.{Told}
use Rattle.desk.specs.declared.state.Seat.{Seat}
use Rattle.desk.specs.declared.state.Desk.{Desk}
use Rattle.desk.specs.declared.capture.Counts.{Counts}
use Rattle.desk.specs.Memory.{Memory, memory}
use Rattle.desk.specs.Calls.{Outcome, opens, replies, resets}
use Rattle.desk.specs.Capture.{Captured, captures}
use Rattle.rei2.specs.declared.lent.DeskAnswer.{DeskAnswer}
use Rattle.rei2.specs.declared.lent.CapturedAnswer.{CapturedAnswer}
use Rattle.rei2.specs.Numbers.{number_in, offset_in, spoiled_in, value_in}

abbrev pub state_in : Memory → Desk
state_in m = record { bits = m.bits; count = m.count }

-- ---- answers in numbers

abbrev pub desk_answer : Desk → Told ℕ → DeskAnswer
desk_answer d t = record { desk = d; refusal = number_in t; offset = offset_in t; spoiled = spoiled_in t; seat = value_in 0 t }

-- an outcome in numbers, with the state that it leaves
abbrev pub answer_of : Outcome → DeskAnswer
answer_of o = desk_answer (state_in o.after) o.answer

abbrev pub no_counts : Counts
no_counts = record { opened = 0; collected = 0; dynamic = 0; refused = 0 }

abbrev pub capture_answer : Desk → Told Counts → CapturedAnswer
capture_answer d t = record { desk = d; refusal = number_in t; counts = value_in no_counts t }

abbrev pub captured_of : Captured → CapturedAnswer
captured_of o = capture_answer (state_in o.after) o.answer

-- ---- what is promised: the answer, and everything that is lent, are as after the call by value

pub record Lent {A : Type 0} (says : A) (after : Memory) (r : A) (seats' : List Seat) (cells' marks' : List ℕ) (tally' : List (List ℕ)) : Type 0 where
  pub answer : r ≡ says
  pub seats : seats' ≡ after.row
  pub cells : cells' ≡ after.cells
  pub marks : marks' ≡ after.marks
  pub tally : tally' ≡ after.tally

abbrev pub LentCall : Outcome → DeskAnswer → List Seat → List ℕ → List ℕ → List (List ℕ) → Type 0
LentCall o = Lent (answer_of o) o.after

module _ (seats : List Seat) (desk : Desk) where
  -- cells and marks are not lent to a reset: whatever they hold stays
  abbrev pub ResetLent : List (List ℕ) → DeskAnswer → List Seat → List (List ℕ) → Type 0
  ResetLent tally r seats' tally' = (cells marks : List ℕ) → LentCall (resets (memory desk seats cells marks tally)) r seats' cells marks tally'

  module _ (cells marks : List ℕ) (tally : List (List ℕ)) where
    -- cells, marks and tally are lent only to be read
    abbrev pub OpenLent : List ℕ → DeskAnswer → List Seat → Type 0
    OpenLent frame r seats' = LentCall (opens (memory desk seats cells marks tally) frame) r seats' cells marks tally

    abbrev pub ReplyLent : List ℕ → DeskAnswer → List Seat → List ℕ → List ℕ → List (List ℕ) → Type 0
    ReplyLent frame = LentCall (replies (memory desk seats cells marks tally) frame)

    abbrev pub CaptureLent : List ℕ → CapturedAnswer → List Seat → List ℕ → List ℕ → List (List ℕ) → Type 0
    CaptureLent capture =
        let o = captures (memory desk seats cells marks tally) capture in
        Lent (captured_of o) o.after
