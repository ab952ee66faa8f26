-- Worked cases: lines, sums, the page of an empty desk and that of a small one, and the answers for three outputs.
use Rattle.std.specs.Prelude.{◌≡◌, ℕ, ◌%◌, List, [], ◌∷◌, ◌++◌, map, replicate}
use Prim.Native.String.{String}
use Rattle.digits.specs.Text.{codes}
use Rattle.digits.specs.Refusals.{DESK, ROOM}
use Rattle.digits.specs.Told.{gives, refuses}
use Rattle.desk.specs.declared.state.Seat.{Seat}
use Rattle.desk.specs.declared.key.Key.{Key}
use Rattle.desk.specs.Seats.{zero_seat}
use Rattle.desk.specs.Memory.{Memory}
use Rattle.desk.specs.Calls.{empty_row}
use Rattle.desk.specs.Tally.{empty_tally}
use Rattle.page.specs.Version.{one, seat_digit}
use Rattle.page.specs.Sum.{sum_of, sum_modulus}
use Rattle.page.specs.Page.{first_line, seat_line, middle, cell_line, last_line, page}
use Rattle.page.specs.Writing.{write_tried}
use Rattle.page.specs.Sizes.{longest_page}

abbrev pub key : ℕ → ℕ → ℕ → Key
key address requester number = record { address = address; requester = requester; number = number }

abbrev pub seat : ℕ → ℕ → ℕ → ℕ → ℕ → Seat
seat address requester number held ended = record { address = address; requester = requester; number = number; held = held; ended = ended }

-- a reply with this text between its lead byte and its CR
abbrev pub reply_of : String → List ℕ
reply_of text = 18 ∷ (codes text ++ (13 ∷ []))

-- an empty row and no cells, with these bits; with the bits 0 it is the empty desk
abbrev pub nothing : ℕ → Memory
nothing bits = record { row = empty_row; bits = bits; count = 0; cells = []; marks = []; tally = empty_tally }

-- seat 0 has one record; seat 11 has two, the second of which ends it. There is a free cell
abbrev pub small : Memory
small =
    record {
      row = seat 51 49 12 1 0 ∷ (replicate 10 zero_seat ++ seat 32 65 7 2 1 ∷ replicate 4 zero_seat);
      bits = 2049;
      count = 3;
      cells =
          reply_of "R SORA0000700022003014015006P010203040506070809  "
          ++ (reply_of "R3SOR10001200009004001002003P111213141516171819  "
          ++ (reply_of "R SOEA0000700015003014015006P212223242526272829  "
          ++ replicate 51 0));
      marks = 11 ∷ 0 ∷ 11 ∷ 7 ∷ [];
      tally = replicate 12 (0 ∷ 0 ∷ 0 ∷ []) ++ (2 ∷ 1 ∷ 0 ∷ []) ∷ replicate 20 (0 ∷ 0 ∷ 0 ∷ []);
    }

pub record PageWorked : Type 0 where
  -- the digits of the seats
  pub seats : map seat_digit (0 ∷ 1 ∷ 9 ∷ 10 ∷ 11 ∷ 15 ∷ []) ≡ codes "019ABF"
  -- lines
  pub first_line_case : first_line one ≡ codes "page\t1\n"
  pub seat_line_case : seat_line one 11 (key 32 65 12) 1 ≡ codes "B\t-\tA\t012\t1\n"
  pub seat_line_0 : seat_line one 0 (key 51 122 999) 0 ≡ codes "0\t3\tz\t999\t0\n"
  pub cell_line_case : cell_line one 15 (codes "R3S") ≡ codes "F\tR3S\n"
  pub cell_middle : middle (reply_of "R SORA0000700022003014015006P010203040506070809  ") ≡ codes "R SORA0000700022003014015006P010203040506070809  "
  pub last_line_case : last_line 3 65535 ≡ codes "0003\t65535\n"
  -- sums: an LF counts as 10, and 65,536 as 0
  pub sum : sum_of (codes "ab") ≡ 195
  pub sum_of_line : sum_of (codes "a\n") ≡ 107
  pub sum_past : sum_of (replicate 300 255) % sum_modulus ≡ 10964
  -- pages
  pub empty_page : page one (nothing 0) ≡ codes "page\t1\n" ++ codes "0000\t00481\n"
  pub small_page : page one small
      ≡ codes "page\t1\n"
      ++ codes "0\t3\t1\t012\t0\n"
      ++ codes "B\t-\tA\t007\t1\n"
      ++ codes "B\tR SORA0000700022003014015006P010203040506070809  \n"
      ++ codes "0\tR3SOR10001200009004001002003P111213141516171819  \n"
      ++ codes "B\tR SOEA0000700015003014015006P212223242526272829  \n"
      ++ codes "0003\t09228\n"
  -- answers: an output with just room, one byte less, and no desk on an output without room
  pub answer : write_tried one small (replicate 198 0) ≡ gives 198
  pub answer_room : write_tried one small (replicate 197 0) ≡ refuses ROOM
  pub answer_desk : write_tried one (nothing 65536) [] ≡ refuses DESK
  -- the length of the longest page, as a number
  pub longest : longest_page ≡ 13522
