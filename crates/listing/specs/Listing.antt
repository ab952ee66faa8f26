-- The list of a capture, and what is promised of the call that writes it.
use Rattle.std.specs.Prelude.{ℕ, zero, suc, List, [], ◌++◌, Bool, cond, ◌&&◌, ◌≡◌, length, drop, leb, Result, Ok, Err}
use Rattle.digits.specs.declared.refusal.Refusal.{Refusal}
use Rattle.digits.specs.Told.{Told, gives, refuses, tried}
use Rattle.digits.specs.Refusals.{ROOM}
use Rattle.finder.specs.Pieces.{pieces}
use Rattle.desk.specs.declared.capture.Counts.{Counts}
use Rattle.desk.specs.Limits.{seat_count}
use Rattle.desk.specs.Memory.{Memory, held_by}
use Rattle.desk.specs.Calls.{empty_row}
use Rattle.desk.specs.Tally.{empty_tally}
use Rattle.desk.specs.Capture.{fates, after_all, counts_of}
use Rattle.listing.specs.declared.ListRefusal.{ListRefusal}
use Rattle.listing.specs.declared.ListRefusal.TheVariants.{Room}
use Rattle.listing.specs.Text.{heading, rows_text, end_text, too_long}

-- the longest capture that is listed
abbrev pub most_input : ℕ
most_input = 32768

-- an emptied desk on lent cells and marks; its tally is not lent
abbrev pub store : List ℕ → List ℕ → Memory
store cells marks = record { row = empty_row; bits = 0; count = 0; cells = cells; marks = marks; tally = empty_tally }

-- the rows of the seats below n, the lowest seat first, each seat's rows in order
unfoldable pub seats_text : Memory → ℕ → List ℕ
seats_text m zero = []
seats_text m (suc n) = seats_text m n ++ rows_text n (held_by m n)

unfoldable pub list_text : Memory → Counts → List ℕ
list_text m c = heading ++ seats_text m seat_count ++ end_text c

-- ---- a capture

module _ (cells marks s : List ℕ) where
  -- the desk after all frames of the capture, and the counts
  abbrev pub after : Memory
  after = after_all (store cells marks) (pieces s)

  abbrev pub counts : Counts
  counts = counts_of (fates (store cells marks) (pieces s))

  abbrev pub short : Bool
  short = leb (length s) most_input

  unfoldable pub list_of : List ℕ
  list_of = cond short (list_text after counts) too_long

  -- ---- on an output `out`

  module _ (out : List ℕ) where
    abbrev pub fits : Bool
    fits = leb (length list_of) (length out)

    -- the answer: the size of the list, or ROOM
    abbrev pub listed : Told ℕ
    listed = tried fits ROOM (gives (length list_of))

    abbrev pub out_after : List ℕ
    out_after = cond fits (list_of ++ drop (length list_of) out) out

    abbrev pub cells_after : List ℕ
    cells_after = cond (fits && short) after.cells cells

    abbrev pub marks_after : List ℕ
    marks_after = cond (fits && short) after.marks marks

-- ---- the call

abbrev pub list_refused : ListRefusal → Refusal
list_refused Room = ROOM

abbrev pub list_told : Result ℕ ListRefusal → Told ℕ
list_told (Ok n) = gives n
list_told (Err f) = refuses (list_refused f)

-- what is promised of listing s to an output: the answer, and all bytes and marks that are lent
pub record Listed (lent-cells lent-marks s out : List ℕ) (answer : Result ℕ ListRefusal) (cells' marks' out' : List ℕ) : Type 0 where
  pub told : list_told answer ≡ listed lent-cells lent-marks s out
  pub bytes : out' ≡ out_after lent-cells lent-marks s out
  pub cells : cells' ≡ cells_after lent-cells lent-marks s out
  pub marks : marks' ≡ marks_after lent-cells lent-marks s out
