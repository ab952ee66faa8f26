-- The calls of the desk: what each one answers, and the state and memory that it leaves.
use Rattle.std.specs.Prelude.{ℕ, ◌+◌, ◌*◌, ◌^◌, min, List, ◌++◌, Bool, cond, not, ◌&&◌, ◌≡◌, length, take, drop, set, replicate, eqb, leb, ltb, Option, Some, None, Result, Ok, Err}
use Rattle.digits.specs.declared.refusal.Refusal.{Refusal}
use Rattle.digits.specs.Refusals.{DESK, NO_ANSWER_DUE, IN_USE, NO_SEAT, STRAY, ENDED, OUT_OF_PLACE, FULL}
use Rattle.digits.specs.Told.{Told, gives, refuses, tried}
use Rattle.frames.specs.Kind.{read}
use Rattle.frames.specs.Request.{request}
use Rattle.frames.specs.Refusals.{read_refused}
use Rattle.frames.specs.declared.request.StaticRequest.{StaticRequest}
use Rattle.frames.specs.declared.reply.ReplyLabel.{ReplyLabel}
use Rattle.desk.specs.declared.state.Seat.{Seat}
use Rattle.desk.specs.declared.state.Desk.{Desk}
use Rattle.desk.specs.declared.state.Emptied.{Emptied}
use Rattle.desk.specs.declared.key.Key.{Key}
use Rattle.desk.specs.declared.opening.Opening.{Opening}
use Rattle.desk.specs.declared.opening.OpenRefusal.{OpenRefusal}
use Rattle.desk.specs.declared.opening.OpenRefusal.TheVariants.{Desk as open-no-desk, Frame as open-frame, NoAnswerDue, InUse, NoSeat}
use Rattle.desk.specs.declared.done.Done.{Done}
use Rattle.desk.specs.declared.done.Change.{Change}
use Rattle.desk.specs.declared.done.Step.{Step}
use Rattle.desk.specs.declared.reply.Taking.{Taking}
use Rattle.desk.specs.declared.reply.ReplyRefusal.{ReplyRefusal}
use Rattle.desk.specs.declared.reply.ReplyRefusal.TheVariants.{Desk as no_desk_case, Frame, Stray, Ended, OutOfPlace, Full}
use Rattle.desk.specs.declared.step.StepRefusal.{StepRefusal}
use Rattle.desk.specs.declared.step.StepRefusal.TheVariants.{Ended as step_ended, OutOfPlace as step_out_of_place, Full as step_full}
use Rattle.desk.specs.Limits.{seat_count, cell_size}
use Rattle.desk.specs.Below.{first, count_below}
use Rattle.desk.specs.Key.{request_key, key_in}
use Rattle.desk.specs.Hearing.{heard}
use Rattle.desk.specs.Step.{progress_of, advanced, step}
use Rattle.desk.specs.Seats.{zero_seat, seat_at, used_bit, seat_with, lowest_clear}
use Rattle.desk.specs.Memory.{Memory, memory, capacity, capacity_of, mark_at}
use Rattle.desk.specs.Tally.{empty_tally, letter_at, status_at, counted}
use Rattle.desk.specs.Desk.{is_desk, all_seats}

-- ---- what a call does

-- the answer, a seat or a refusal, and the memory after the call
pub record Outcome : Type 0 where
  pub answer : Told ℕ
  pub after : Memory

module _ {A B : Type 0} where
  -- a refusal stays; what was given is tested further
  abbrev pub what_is_given : Told A → (A → Told B) → Told B
  what_is_given (gives a) further = further a
  what_is_given (refuses f) further = refuses f

module _ {A : Type 0} where
  -- the outcome of a call by its tests: the seat and what the call leaves, or the refusal and the memory as it was
  abbrev pub outcome : Memory → (A → ℕ) → (A → Memory) → Told A → Outcome
  outcome m seat after (gives a) = record { answer = gives (seat a); after = after a }
  outcome m seat after (refuses f) = record { answer = refuses f; after = m }

-- ---- an opening

-- information q: no answer is due
abbrev pub letter_q : ℕ
letter_q = 113

-- the key must be at no seat, and a seat must be free: the lowest clear bit
unfoldable pub key_tried : List Seat → ℕ → Key → Told Opening
key_tried row bits k =
    tried (leb seat_count (seat_with row bits k)) IN_USE
    (tried (ltb (lowest_clear bits) seat_count) NO_SEAT
    (gives (record { seat = lowest_clear bits; key = k })))

-- the information must not be q
unfoldable pub request_tried : List Seat → ℕ → StaticRequest → Told Opening
request_tried row bits r = tried (not (eqb r.information letter_q)) NO_ANSWER_DUE (key_tried row bits (request_key r))

-- an opening is tested in this order: desk, frame, information, key, free seat
unfoldable pub open_tried : Memory → List ℕ → Told Opening
open_tried m f = tried (is_desk m) DESK (what_is_given (read request f) (request_tried m.row m.bits))

abbrev pub new_seat : Key → Seat
new_seat k = record { address = k.address; requester = k.requester; number = k.number; held = 0; ended = 0 }

-- the seat gets the key, and its bit is set; nothing else changes
abbrev pub opened : Memory → Opening → Memory
opened m o = record { row = set m.row o.seat (new_seat o.key); bits = m.bits + 2 ^ o.seat; count = m.count; cells = m.cells; marks = m.marks; tally = m.tally }

unfoldable pub opens : Memory → List ℕ → Outcome
opens m f = outcome m (λ o. o.seat) (opened m) (open_tried m f)

-- ---- a reply

-- the step of the request at a seat
unfoldable pub seat_tried : Seat → Bool → Taking → Told Taking
seat_tried s free t = what_is_given (step (progress_of s) free t.status) (λ p. gives t)

-- STRAY if no seat has the reply's key; otherwise that seat is tested further
unfoldable pub label_tried : List Seat → ℕ → Bool → ReplyLabel → Told Taking
label_tried row bits free l =
    tried (ltb (seat_with row bits (key_in l)) seat_count) STRAY
    (seat_tried (seat_at row (seat_with row bits (key_in l))) free (record { seat = seat_with row bits (key_in l); status = l.status }))

-- a reply is tested in this order: desk, frame, key, and then the three tests of the step
unfoldable pub reply_tried : Memory → List ℕ → Told Taking
reply_tried m f = tried (is_desk m) DESK (what_is_given (heard f) (label_tried m.row m.bits (ltb m.count (capacity m))))

-- the seat with one more record
abbrev pub grown : Seat → ℕ → Seat
grown s status =
    record {
      address = s.address;
      requester = s.requester;
      number = s.number;
      held = (advanced (progress_of s) status).held;
      ended = (advanced (progress_of s) status).ended;
    }

-- the cells with the frame f stored over the cell that begins at byte `at`
abbrev pub with_cell : List ℕ → ℕ → List ℕ → List ℕ
with_cell cells at f = take at cells ++ f ++ drop (at + cell_size) cells

-- the frame goes to the cell at the count and its seat to the mark beside it; the seat holds one more record; the count grows by one, and so does the tally at the reply's letter and status; nothing else changes
abbrev pub taken : Memory → List ℕ → Taking → Memory
taken m f t =
    record {
      row = set m.row t.seat (grown (seat_at m.row t.seat) t.status);
      bits = m.bits;
      count = m.count + 1;
      cells = with_cell m.cells (m.count * cell_size) f;
      marks = set m.marks m.count t.seat;
      tally = counted m.tally (letter_at f) (status_at f);
    }

unfoldable pub replies : Memory → List ℕ → Outcome
replies m f = outcome m (λ t. t.seat) (taken m f) (reply_tried m f)

-- ---- a reset, and the number of seats in use

abbrev pub empty_row : List Seat
empty_row = replicate seat_count zero_seat

abbrev pub empty_state : Desk
empty_state = record { bits = 0; count = 0 }

abbrev pub empty_desk : Emptied
empty_desk = record { desk = empty_state; row = empty_row }

-- a memory after a reset: seats, bits, count and tally are zero; cells and marks stay
abbrev pub emptied : Memory → Memory
emptied m = memory empty_state empty_row m.cells m.marks empty_tally

-- refused only if the row does not have sixteen seats; nothing else is looked at
unfoldable pub resets : Memory → Outcome
resets m = cond (all_seats m) (record { answer = gives 0; after = emptied m }) (record { answer = refuses DESK; after = m })

-- how many bits are set in a number of 64 bits
unfoldable pub seats_in_use : ℕ → ℕ
seats_in_use bits = count_below 64 (used_bit bits)

-- ---- reading records back

-- how many cells are looked at: those that are counted as held and for which there is memory
abbrev pub held_cells : ℕ → List ℕ → List ℕ → ℕ
held_cells count cells marks = min count (capacity_of (length cells) (length marks))

abbrev pub held_from : List ℕ → ℕ → ℕ → ℕ → Bool
held_from marks seat from i = leb from i && eqb (mark_at marks i) seat

abbrev pub held_answer : ℕ → ℕ → Option ℕ
held_answer limit i = cond (ltb i limit) (Some i) None

-- the first of these cells from a place on whose mark names the seat
unfoldable pub next_held : ℕ → List ℕ → List ℕ → ℕ → ℕ → Option ℕ
next_held count cells marks seat from =
    held_answer (held_cells count cells marks) (first (held_cells count cells marks) (held_from marks seat from))

-- ---- what the answers of the code mean

abbrev pub open_refused : OpenRefusal → Refusal
open_refused open-no-desk = DESK
open_refused (open-frame f) = read_refused f
open_refused NoAnswerDue = NO_ANSWER_DUE
open_refused InUse = IN_USE
open_refused NoSeat = NO_SEAT

abbrev pub reply_refused : ReplyRefusal → Refusal
reply_refused no_desk_case = DESK
reply_refused (Frame f) = read_refused f
reply_refused Stray = STRAY
reply_refused Ended = ENDED
reply_refused OutOfPlace = OUT_OF_PLACE
reply_refused Full = FULL

-- a refusal of the step is the reply's
abbrev pub of_step : StepRefusal → ReplyRefusal
of_step step_ended = Ended
of_step step_out_of_place = OutOfPlace
of_step step_full = Full

module _ {A R : Type 0} where
  -- a result, with its refusals in the table
  abbrev pub result_told : (R → Refusal) → Result A R → Told A
  result_told refused (Ok a) = gives a
  result_told refused (Err f) = refuses (refused f)

abbrev pub open_told : Result ℕ OpenRefusal → Told ℕ
open_told = result_told open_refused

abbrev pub reply_told : Result ℕ ReplyRefusal → Told ℕ
reply_told = result_told reply_refused

-- what is promised of a call: its answer and the whole memory after it are those of the outcome
pub record Did (told : Told ℕ) (after : Memory) (o : Outcome) : Type 0 where
  pub answer : told ≡ o.answer
  pub memory : after ≡ o.after

-- of a reset: the state and the row that it returns, and the tally after it
pub record ResetDid (r : Emptied) (tally' : List (List ℕ)) : Type 0 where
  pub empty : r ≡ empty_desk
  pub zero : tally' ≡ empty_tally

-- of an opening: cells, marks and tally are lent only to be read
abbrev pub OpenDid : Memory → List ℕ → Done (Result ℕ OpenRefusal) → Type 0
OpenDid m f r = Did (open_told r.answer) (memory r.desk r.row m.cells m.marks m.tally) (opens m f)

-- of a reply: with the cells, the marks and the tally after it
abbrev pub ReplyDid : Memory → List ℕ → Done (Result ℕ ReplyRefusal) → List ℕ → List ℕ → List (List ℕ) → Type 0
ReplyDid m f r cells' marks' tally' = Did (reply_told r.answer) (memory r.desk r.row cells' marks' tally') (replies m f)

-- the seat that a call changed, with its place: none if it was refused
abbrev pub change_in : Told ℕ → List Seat → Option Change
change_in (gives s) row = Some (record { at = s; seat = seat_at row s })
change_in (refuses f) row = None

-- a step returns this seat, as it is after the call, instead of the row
pub record Changed (o : Outcome) (changed : Option Change) : Type 0 where
  pub is : changed ≡ change_in o.answer o.after.row

-- a row with a seat changed
abbrev pub row_with : List Seat → Option Change → List Seat
row_with row (Some c) = set row c.at c.seat
row_with row None = row

module _ {A : Type 0} where
  abbrev pub done_on : List Seat → Step A → Done A
  done_on row r = record { answer = r.answer; desk = r.desk; row = row_with row r.changed }

-- of a step: the row with the seat changed is the row after the call
abbrev pub OpenStepDid : Memory → List ℕ → Step (Result ℕ OpenRefusal) → Type 0
OpenStepDid m f r =
    Changed (opens m f) r.changed × Did (open_told r.answer) (memory r.desk (row_with m.row r.changed) m.cells m.marks m.tally) (opens m f)

abbrev pub ReplyStepDid : Memory → List ℕ → Step (Result ℕ ReplyRefusal) → List ℕ → List ℕ → List (List ℕ) → Type 0
ReplyStepDid m f r cells' marks' tally' =
    Changed (replies m f) r.changed × Did (reply_told r.answer) (memory r.desk (row_with m.row r.changed) cells' marks' tally') (replies m f)
