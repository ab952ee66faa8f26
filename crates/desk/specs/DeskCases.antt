-- What makes a desk, worked out: a small desk, and for each clause a memory that breaks it.
use Rattle.std.specs.Prelude.{ℕ, List, [], ◌∷◌, ◌++◌, true, false, ◌≡◌, replicate}
use Prim.Native.String.{String}
use Rattle.digits.specs.Told.{gives}
use Rattle.desk.specs.declared.state.Seat.{Seat}
use Rattle.desk.specs.Memory.{Memory}
use Rattle.desk.specs.Desk.{is_desk}
use Rattle.desk.specs.Calls.{opens}
use Rattle.desk.specs.Cases.{asking, reply_from, reply_to}

abbrev pub seat : ℕ → ℕ → ℕ → ℕ → ℕ → Seat
seat address requester number held ended = record { address = address; requester = requester; number = number; held = held; ended = ended }

-- requester 1 has two records and has ended, requester A has one
abbrev pub one : Seat
one = seat 32 49 7 2 1

abbrev pub two : Seat
two = seat 32 65 7 1 0

-- the reply to a requester, with this status
abbrev pub told : String → String → List ℕ
told requester status = reply_to status requester "00007" "00015"

-- three records, and a free cell
abbrev pub cells : List ℕ → List ℕ → List ℕ → List ℕ
cells a b c = a ++ b ++ c ++ replicate 51 0

abbrev pub records : List ℕ
records = cells (told "1" "R") (told "A" "R") (told "1" "E")

-- a tally with a row for P, which comes after twelve other letters; the other 32 rows are zeros
abbrev pub nobody : List ℕ
nobody = 0 ∷ 0 ∷ 0 ∷ []

abbrev pub tally : ℕ → ℕ → ℕ → List (List ℕ)
tally r e z = replicate 12 nobody ++ (r ∷ e ∷ z ∷ []) ∷ replicate 20 nobody

-- the seats, the bits, the count, the cells, the marks and the tally
abbrev pub telling : List Seat → ℕ → ℕ → List ℕ → List ℕ → List (List ℕ) → Memory
telling row bits count cells marks tally = record { row = row; bits = bits; count = count; cells = cells; marks = marks; tally = tally }

-- two records with R and one with E
abbrev pub with : List Seat → ℕ → ℕ → List ℕ → List ℕ → Memory
with row bits count cells marks = telling row bits count cells marks (tally 2 1 0)

-- the first three seats, and thirteen seats of zeros
abbrev pub seats : Seat → Seat → Seat → List Seat
seats a b c = a ∷ b ∷ c ∷ replicate 13 (seat 0 0 0 0 0)

abbrev pub none : Seat
none = seat 0 0 0 0 0

-- the last mark is that of a free cell: it is not looked at
abbrev pub marks : List ℕ
marks = 0 ∷ 1 ∷ 0 ∷ 99 ∷ []

pub record DeskWorked : Type 0 where
  pub a_desk : is_desk (with (seats one two none) 3 3 records marks) ≡ true
  -- a seat in use above one that is not: also a desk, and an opening gets the seat between
  pub gap : is_desk (with (seats one none two) 5 3 records (0 ∷ 2 ∷ 0 ∷ 99 ∷ [])) ≡ true
  pub gap_opened : (opens (with (seats one none two) 5 3 records (0 ∷ 2 ∷ 0 ∷ 99 ∷ [])) (asking "B" "P")).answer ≡ gives 1
  -- sixteen seats
  pub fifteen : is_desk (with (one ∷ two ∷ replicate 13 none) 3 3 records marks) ≡ false
  pub seventeen : is_desk (with (one ∷ two ∷ replicate 15 none) 3 3 records marks) ≡ false
  -- no bit above them
  pub bit_16 : is_desk (with (seats one two none) 65539 3 records marks) ≡ false
  -- keys that a request can have
  pub key_B : is_desk (with (seats one two (seat 32 66 999 0 0)) 7 3 records marks) ≡ true
  pub key_at_9 : is_desk (with (seats one two (seat 57 66 999 0 0)) 7 3 records marks) ≡ true
  pub key_at_none : is_desk (with (seats one two (seat 0 66 999 0 0)) 7 3 records marks) ≡ false
  pub key_at_45 : is_desk (with (seats one two (seat 45 66 999 0 0)) 7 3 records marks) ≡ false
  pub key_at_58 : is_desk (with (seats one two (seat 58 66 999 0 0)) 7 3 records marks) ≡ false
  pub key_of_64 : is_desk (with (seats one two (seat 32 64 999 0 0)) 7 3 records marks) ≡ false
  pub key_1000 : is_desk (with (seats one two (seat 32 66 1000 0 0)) 7 3 records marks) ≡ false
  -- no two used seats share a key
  pub same_key_case : is_desk (with (seats one two (seat 32 65 7 0 0)) 7 3 records marks) ≡ false
  pub same_but_address : is_desk (with (seats one two (seat 48 65 7 0 0)) 7 3 records marks) ≡ true
  pub same_number : is_desk (with (seats one two (seat 32 97 7 0 0)) 7 3 records marks) ≡ true
  -- unused seats are all zero
  pub address_left : is_desk (with (seats one two (seat 32 0 0 0 0)) 3 3 records marks) ≡ false
  pub requester_left : is_desk (with (seats one two (seat 0 66 0 0 0)) 3 3 records marks) ≡ false
  pub number_left : is_desk (with (seats one two (seat 0 0 7 0 0)) 3 3 records marks) ≡ false
  pub held_left : is_desk (with (seats one two (seat 0 0 0 1 0)) 3 3 records marks) ≡ false
  pub ended_left : is_desk (with (seats one two (seat 0 0 0 0 1)) 3 3 records marks) ≡ false
  -- the count is at most the capacity
  pub full : is_desk (with (seats one two none) 3 3 (told "1" "R" ++ told "A" "R" ++ told "1" "E") (0 ∷ 1 ∷ 0 ∷ [])) ≡ true
  pub no_mark : is_desk (with (seats one two none) 3 3 records (0 ∷ 1 ∷ [])) ≡ false
  -- marks name used seats
  pub mark_of_unused : is_desk (with (seats one (seat 32 65 7 0 0) none) 3 3 records (0 ∷ 2 ∷ 0 ∷ [])) ≡ false
  pub mark_16 : is_desk (with (seats one (seat 32 65 7 0 0) none) 3 3 records (0 ∷ 16 ∷ 0 ∷ [])) ≡ false
  -- cells are well formed replies with the keys of their seats
  pub damaged : is_desk (telling (seats one two none) 3 3 (cells (told "1" "R") (told "A" "Q") (told "1" "E")) marks (tally 1 1 0)) ≡ false
  pub of_another : is_desk (with (seats one two none) 3 3 (cells (told "1" "R") (told "a" "R") (told "1" "E")) marks) ≡ false
  pub of_another_address : is_desk (with (seats one two none) 3 3 (cells (told "1" "R") (reply_from "0" "R" "A" "00007" "00015") (told "1" "E")) marks) ≡ false
  pub of_another_number : is_desk (with (seats one two none) 3 3 (cells (told "1" "R") (reply_to "R" "A" "00008" "00015") (told "1" "E")) marks) ≡ false
  -- a seat holds as many records as marks name it
  pub held_less : is_desk (with (seats (seat 32 49 7 1 1) two none) 3 3 records marks) ≡ false
  pub held_more : is_desk (with (seats (seat 32 49 7 3 1) two none) 3 3 records marks) ≡ false
  -- only the last record is E or Z, and a Z is the only one
  pub e_first : is_desk (with (seats (seat 32 49 7 2 0) two none) 3 3 (cells (told "1" "E") (told "A" "R") (told "1" "R")) marks) ≡ false
  pub e_twice : is_desk (telling (seats one two none) 3 3 (cells (told "1" "E") (told "A" "R") (told "1" "E")) marks (tally 1 2 0)) ≡ false
  pub z_first : is_desk (telling (seats (seat 32 49 7 2 0) two none) 3 3 (cells (told "1" "Z") (told "A" "R") (told "1" "R")) marks (tally 2 0 1)) ≡ false
  pub z_last : is_desk (telling (seats one two none) 3 3 (cells (told "1" "R") (told "A" "R") (told "1" "Z")) marks (tally 2 0 1)) ≡ false
  pub z_alone : is_desk (telling (seats one (seat 32 65 7 1 1) none) 3 3 (cells (told "1" "R") (told "A" "Z") (told "1" "E")) marks (tally 1 1 1)) ≡ true
  -- `ended` is 1 if the last record is E or Z, and otherwise 0
  pub goes_on : is_desk (telling (seats (seat 32 49 7 2 0) two none) 3 3 (cells (told "1" "R") (told "A" "R") (told "1" "R")) marks (tally 3 0 0)) ≡ true
  pub not_ended : is_desk (with (seats (seat 32 49 7 2 0) two none) 3 3 records marks) ≡ false
  pub ended_by_2 : is_desk (with (seats (seat 32 49 7 2 2) two none) 3 3 records marks) ≡ false
  pub ended_early : is_desk (with (seats one (seat 32 65 7 1 1) none) 3 3 records marks) ≡ false
  -- the tally has 33 rows of three numbers, and each is how many records have its letter and status
  pub one_more_case : is_desk (telling (seats one two none) 3 3 records marks (tally 3 1 0)) ≡ false
  pub one_less : is_desk (telling (seats one two none) 3 3 records marks (tally 2 0 0)) ≡ false
  pub other_status : is_desk (telling (seats one two none) 3 3 records marks (tally 1 2 0)) ≡ false
  pub other_letter : is_desk (telling (seats one two none) 3 3 records marks (replicate 11 nobody ++ (2 ∷ 1 ∷ 0 ∷ []) ∷ replicate 21 nobody)) ≡ false
  pub one_beside : is_desk (telling (seats one two none) 3 3 records marks (replicate 12 nobody ++ (2 ∷ 1 ∷ 0 ∷ []) ∷ (replicate 19 nobody ++ (0 ∷ 0 ∷ 1 ∷ []) ∷ []))) ≡ false
  pub no_tally : is_desk (telling (seats one two none) 3 3 records marks []) ≡ false
  pub rows_32 : is_desk (telling (seats one two none) 3 3 records marks (replicate 12 nobody ++ (2 ∷ 1 ∷ 0 ∷ []) ∷ replicate 19 nobody)) ≡ false
  pub rows_34 : is_desk (telling (seats one two none) 3 3 records marks (tally 2 1 0 ++ nobody ∷ [])) ≡ false
  pub row_of_two : is_desk (telling (seats one two none) 3 3 records marks (replicate 12 nobody ++ (2 ∷ 1 ∷ []) ∷ replicate 20 nobody)) ≡ false
  pub row_of_four : is_desk (telling (seats one two none) 3 3 records marks (replicate 12 nobody ++ (2 ∷ 1 ∷ 0 ∷ 0 ∷ []) ∷ replicate 20 nobody)) ≡ false
  -- a cell beyond the count is not counted, whatever it holds
  pub stale : is_desk (with (seats one two none) 3 3 (told "1" "R" ++ told "A" "R" ++ told "1" "E" ++ told "A" "E") marks) ≡ true
  pub stale_counted : is_desk (telling (seats one two none) 3 3 (told "1" "R" ++ told "A" "R" ++ told "1" "E" ++ told "A" "E") marks (tally 2 2 0)) ≡ false
