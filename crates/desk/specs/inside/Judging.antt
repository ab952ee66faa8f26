-- What a call finds before it changes anything.
use Rattle.std.specs.Prelude.{ℕ, ◌+◌, ◌*◌, ◌<◌, ◌≤◌, List, Bool, not, ◌≡◌, eqb, leb, ltb, length, get_or, set, Result, Ok, Err}
use Rattle.digits.specs.declared.refusal.Refusal.{Refusal}
use Rattle.digits.specs.Refusals.{NO_ANSWER_DUE, IN_USE, NO_SEAT, STRAY, ENDED, OUT_OF_PLACE, FULL}
use Rattle.digits.specs.Told.{Told, gives, refuses, tried}
use Rattle.frames.specs.declared.request.StaticRequest.{StaticRequest}
use Rattle.frames.specs.declared.reply.ReplyLabel.{ReplyLabel}
use Rattle.desk.specs.declared.state.Desk.{Desk}
use Rattle.desk.specs.declared.opening.OpenRefusal.{OpenRefusal}
use Rattle.desk.specs.declared.reply.ReplyRefusal.{ReplyRefusal}
use Rattle.desk.specs.declared.key.Key.{Key}
use Rattle.desk.specs.declared.opening.Opening.{Opening}
use Rattle.desk.specs.declared.reply.Taking.{Taking}
use Rattle.desk.specs.declared.step.Progress.{Progress}
use Rattle.desk.specs.declared.step.StepRefusal.{StepRefusal}
use Rattle.desk.specs.declared.step.StepRefusal.TheVariants.{Ended, OutOfPlace, Full}
use Rattle.desk.specs.Limits.{seat_count, most_cells, cell_size}
use Rattle.desk.specs.Below.{first}
use Rattle.desk.specs.Key.{request_key, key_in}
use Rattle.desk.specs.Step.{advanced, step}
use Rattle.desk.specs.Seats.{lowest_clear}
use Rattle.desk.specs.Calls.{what_is_given, letter_q, with_cell, open_refused, reply_refused, result_told}
use Rattle.desk.specs.inside.Columns.{key_number, key_is}

abbrev pub open_judged : Result Opening OpenRefusal → Told Opening
open_judged = result_told open_refused

abbrev pub reply_judged : Result Taking ReplyRefusal → Told Taking
reply_judged = result_told reply_refused

abbrev pub step_refused : StepRefusal → Refusal
step_refused Ended = ENDED
step_refused OutOfPlace = OUT_OF_PLACE
step_refused Full = FULL

abbrev pub step_told : Progress → ℕ → Result (Unit {0}) StepRefusal → Told Progress
step_told p status (Ok taken) = gives (advanced p status)
step_told p status (Err f) = refuses (step_refused f)

-- ---- the tests of a call, over columns

-- the first seat with this key
abbrev pub seat_with_key : List ℕ → Key → ℕ
seat_with_key keys k = first seat_count (key_is keys (key_number k))

-- a key that is at the seat `found`, or at none if that is 16
unfoldable pub number_tried : ℕ → ℕ → Key → Told Opening
number_tried found bits k =
    tried (leb seat_count found) IN_USE
    (tried (ltb (lowest_clear bits) seat_count) NO_SEAT
    (gives (record { seat = lowest_clear bits; key = k })))

unfoldable pub column_asked : List ℕ → ℕ → StaticRequest → Told Opening
column_asked keys bits r = tried (not (eqb r.information letter_q)) NO_ANSWER_DUE (number_tried (seat_with_key keys (request_key r)) bits (request_key r))

unfoldable pub step_tried : Progress → Bool → Taking → Told Taking
step_tried p free t = what_is_given (step p free t.status) (λ p. gives t)

unfoldable pub column_tried : List ℕ → List ℕ → List ℕ → Bool → ReplyLabel → Told Taking
column_tried keys held ended free l =
    let s = seat_with_key keys (key_in l) in
    tried (ltb s seat_count) STRAY
    (step_tried (record { held = get_or held s 0; ended = get_or ended s 0 }) free (record { seat = s; status = l.status }))

-- ---- storing a reply

-- there is a cell and a mark at the count, and the frame fills a cell
pub record RoomFor (d : Desk) (s : ℕ) (c m f : List ℕ) : Type 0 where
  pub seat : s < seat_count
  pub count : d.count < most_cells
  pub mark : d.count < length m
  pub cell : d.count * cell_size + cell_size ≤ length c
  pub frame : length f ≡ cell_size

-- the frame goes to the cell at the count, and its seat to the mark beside it
pub record PutReply (d : Desk) (s : ℕ) (c m f : List ℕ) (r : Desk) (c' m' : List ℕ) : Type 0 where
  pub bits : r.bits ≡ d.bits
  pub count : r.count ≡ d.count + 1
  pub cells : c' ≡ with_cell c (d.count * cell_size) f
  pub marks : m' ≡ set m d.count s
