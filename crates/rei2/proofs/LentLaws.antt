-- From the promises of the desk's calls to those of the calls on a lent row, and the promises if the row does not have sixteen seats. Assumes nothing.
use mathlib.Core.Path.{◌≡◌, refl}
use mathlib.Core.Bool.{false}
use mathlib.Core.List.{List}
use Prim.Native.Nat.{ℕ}
use lib.ListN.{length}
use lib.Dec.{eqb}
use borrow.Author.Tests.{eq-eqb, ne_eqb}
use Rattle.digits.specs.Refusals.{DESK}
use Rattle.digits.specs.Told.{gives, refuses}
use Rattle.desk.specs.declared.state.Seat.{Seat}
use Rattle.desk.specs.declared.state.Desk.{Desk}
use Rattle.desk.specs.declared.state.Emptied.{Emptied}
use Rattle.desk.specs.Limits.{seat_count}
use Rattle.desk.specs.Memory.{Memory, memory}
use Rattle.desk.specs.Desk.{is_desk}
use Rattle.desk.specs.Calls.{ResetDid, resets, opens, open_tried, replies, reply_tried}
use Rattle.rei2.specs.Lent.{desk_answer, capture_answer, ResetLent, OpenLent, ReplyLent, CaptureLent}

-- ---- a reset that was made: its answer in numbers, and the memory that it left

pub reset_is : (seats : List Seat) (d : Desk) (tally : List (List ℕ)) (r : Emptied) (tally' : List (List ℕ)) → length seats ≡ seat_count → ResetDid r tally'
    → ResetLent seats d tally (desk_answer r.desk (gives 0)) r.row tally'
unfolding resets
reset_is seats d tally r tally' l h cells marks =
    rw (eq-eqb (length seats) seat_count l)
    (record { answer = λ i. desk_answer (h.empty i).desk (gives 0); seats = λ i. (h.empty i).row; cells = refl; marks = refl; tally = h.zero })

-- ---- a row that does not have sixteen seats is not a desk

module _ (seats : List Seat) (d : Desk) (l : length seats ≡ seat_count → ⊥) where
  no_row : eqb (length seats) seat_count ≡ false
  no_row = ne_eqb (length seats) seat_count l

  pub no_reset : (tally : List (List ℕ)) → ResetLent seats d tally (desk_answer d (refuses DESK)) seats tally
  unfolding resets
  no_reset tally cells marks = rw no_row (record { answer = refl; seats = refl; cells = refl; marks = refl; tally = refl })

  module _ (cells marks : List ℕ) (tally : List (List ℕ)) (frame : List ℕ) where
    abbrev M : Memory
    M = memory d seats cells marks tally

    no_desk : is_desk M ≡ false
    unfolding is_desk
    no_desk = rw no_row

    pub no_opening : OpenLent seats d cells marks tally frame (desk_answer d (refuses DESK)) seats
    unfolding opens open_tried
    no_opening = rw no_desk (record { answer = refl; seats = refl; cells = refl; marks = refl; tally = refl })

    pub no_reply : ReplyLent seats d cells marks tally frame (desk_answer d (refuses DESK)) seats cells marks tally
    unfolding replies reply_tried
    no_reply = rw no_desk (record { answer = refl; seats = refl; cells = refl; marks = refl; tally = refl })

    pub no_capture : CaptureLent seats d cells marks tally frame (capture_answer d (refuses DESK)) seats cells marks tally
    no_capture = rw no_desk (record { answer = refl; seats = refl; cells = refl; marks = refl; tally = refl })
