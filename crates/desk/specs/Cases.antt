-- Calls on small desks, worked out: each refusal by its number, from the bytes of frames.
use Rattle.std.specs.Prelude.{ℕ, List, [], ◌∷◌, ◌++◌, ◌≡◌, replicate}
use Prim.Native.String.{String}
use Rattle.digits.specs.Text.{codes}
use Rattle.digits.specs.Refusals.{plain, spoiled_at}
use Rattle.frames.specs.declared.refusals.ReadRefusal.TheVariants.{Field}
use Rattle.digits.specs.Told.{gives, refuses}
use Rattle.desk.specs.Memory.{Memory, capacity_of, held_by}
use Rattle.desk.specs.declared.opening.OpenRefusal.TheVariants.{Desk as open-no-desk, Frame as open-frame, NoAnswerDue, InUse, NoSeat}
use Rattle.desk.specs.declared.reply.ReplyRefusal.TheVariants.{Desk as no_desk_case, Frame, Stray, Ended, OutOfPlace, Full}
use Rattle.desk.specs.Calls.{opens, replies, emptied, seats_in_use, open_refused, reply_refused}
use Rattle.desk.specs.Events.{Event, to_open, to_reply, run, answers as answers_of, openings}
use Rattle.desk.specs.Mix.{replies_to}

-- no seats, and lent cells of this many bytes with this many marks
abbrev pub lending : ℕ → ℕ → Memory
lending bytes marks = record { row = []; bits = 0; count = 0; cells = replicate bytes 0; marks = replicate marks 0; tally = [] }

-- a request with number 007, with this address, requester and letter
abbrev pub asking_at : String → String → String → List ℕ
asking_at address requester letter =
    17 ∷ (codes "R" ++ (codes address ++ (codes requester ++ (codes "00700000" ++ (codes letter ++ (codes "000002000S" ++ (13 ∷ [])))))))

-- a reply with this address, status, requester, number and bib
abbrev pub reply_from : String → String → String → String → String → List ℕ
reply_from address status requester number bib =
    18 ∷ (codes "R" ++ (codes address ++ (codes "SO" ++ (codes status ++ (codes requester ++ (codes number ++ (codes bib ++ (codes "000002000000P000000000000000000  " ++ (13 ∷ [])))))))))

-- both with a space as the address
abbrev pub asking : String → String → List ℕ
asking = asking_at " "

abbrev pub reply_to : String → String → String → String → List ℕ
reply_to = reply_from " "

-- a reply to the request of requester 1, with this status
abbrev pub replying : String → List ℕ
replying status = reply_to status "1" "00007" "00015"

-- an emptied desk with two cells, and the same desk with the request of requester 1 opened
abbrev pub bare : Memory
bare = emptied (lending 102 2)

abbrev pub asked : Memory
asked = (opens bare (asking "1" "P")).after

-- sixteen requests
abbrev pub sixteen : List (List ℕ)
sixteen =
    asking "0" "P" ∷ asking "1" "P" ∷ asking "2" "P" ∷ asking "3" "P" ∷ asking "4" "P" ∷ asking "5" "P" ∷ asking "6" "P" ∷ asking "7" "P"
    ∷ asking "8" "P" ∷ asking "9" "P" ∷ asking "A" "P" ∷ asking "Z" "P" ∷ asking "a" "P" ∷ asking "b" "P" ∷ asking "y" "P" ∷ asking "z" "P" ∷ []

-- the desk with both cells taken; the last status says whether the request goes on or has ended
abbrev pub crowded : String → Memory
crowded status = (replies (replies asked (replying "R")).after (replying status)).after

pub record Worked : Type 0 where
  pub no_desk_opens : (opens (lending 102 2) (asking "1" "P")).answer ≡ refuses (plain 9)
  pub no_desk_replies : (replies (lending 102 2) (replying "R")).answer ≡ refuses (plain 9)
  pub no_answer_due : (opens bare (asking "1" "q")).answer ≡ refuses (plain 10)
  pub opened : (opens bare (asking "1" "P")).answer ≡ gives 0
  pub in_use : (opens asked (asking "1" "P")).answer ≡ refuses (plain 11)
  -- the same requester and number at another address is another key, and a space is not 0
  pub other_address : (opens asked (asking_at "0" "1" "P")).answer ≡ gives 1
  pub no_address : (opens bare (asking_at "-" "1" "P")).answer ≡ refuses (plain 4)
  -- a wrong field is reported with the byte that spoils it
  pub run_spoiled : (opens bare (17 ∷ (codes "R 100700000P0000x2000S" ++ (13 ∷ [])))).answer ≡ refuses (spoiled_at 5 16 17)
  pub bib_spoiled : (replies asked (reply_to "R" "1" "00007" "60x15")).answer ≡ refuses (spoiled_at 5 12 12)
  pub number_spoiled : (replies asked (reply_to "R" "1" "0000:" "00015")).answer ≡ refuses (spoiled_at 5 7 11)
  pub next_seat : (opens asked (asking "A" "P")).answer ≡ gives 1
  pub no_seat : (opens (run bare (openings sixteen)) (asking "B" "P")).answer ≡ refuses (plain 12)
  pub stray : (replies bare (replying "R")).answer ≡ refuses (plain 13)
  -- a reply's number is compared whole: 01007 is not a request's 007
  pub stray_by_thousand : (replies asked (reply_to "R" "1" "01007" "00015")).answer ≡ refuses (plain 13)
  pub stray_by_address : (replies asked (reply_from "0" "R" "1" "00007" "00015")).answer ≡ refuses (plain 13)
  pub reply_without_address : (replies asked (reply_from "-" "R" "1" "00007" "00015")).answer ≡ refuses (plain 4)
  pub taken : (replies asked (replying "R")).answer ≡ gives 0
  -- the same R twice is two records
  pub taken_twice : held_by (crowded "R") 0 ≡ replying "R" ∷ replying "R" ∷ []
  pub ended : (replies (replies asked (replying "E")).after (replying "R")).answer ≡ refuses (plain 14)
  pub ended_by_Z : (replies (replies asked (replying "Z")).after (replying "R")).answer ≡ refuses (plain 14)
  pub out_of_place : (replies (replies asked (replying "R")).after (replying "Z")).answer ≡ refuses (plain 15)
  pub full : (replies (crowded "R") (replying "R")).answer ≡ refuses (plain 16)
  -- the numbers of what an opening and a reply answer
  pub open_numbers : open_refused open-no-desk ∷ open_refused (open-frame (Field (record { field = 16; spoiled = 17 }))) ∷ open_refused NoAnswerDue ∷ open_refused InUse ∷ open_refused NoSeat ∷ []
      ≡ plain 9 ∷ spoiled_at 5 16 17 ∷ plain 10 ∷ plain 11 ∷ plain 12 ∷ []
  pub reply_numbers : reply_refused no_desk_case ∷ reply_refused (Frame (Field (record { field = 30; spoiled = 32 }))) ∷ reply_refused Stray ∷ reply_refused Ended ∷ reply_refused OutOfPlace ∷ reply_refused Full ∷ []
      ≡ plain 9 ∷ spoiled_at 5 30 32 ∷ plain 13 ∷ plain 14 ∷ plain 15 ∷ plain 16 ∷ []
  -- of two faults, the one that is tested first is reported
  pub desk_before_frame : (opens (lending 102 2) []).answer ≡ refuses (plain 9)
  pub frame_before_q : (opens bare (asking "[" "q")).answer ≡ refuses (spoiled_at 5 3 3)
  pub q_before_in_use : (opens asked (asking "1" "q")).answer ≡ refuses (plain 10)
  pub in_use_before_no_seat : (opens (run bare (openings sixteen)) (asking "1" "P")).answer ≡ refuses (plain 11)
  pub desk_before_reply : (replies (lending 102 2) []).answer ≡ refuses (plain 9)
  pub stray_before_full : (replies (crowded "R") (reply_to "R" "B" "00007" "00015")).answer ≡ refuses (plain 13)
  pub ended_before_out_of_place : (replies (crowded "E") (replying "Z")).answer ≡ refuses (plain 14)
  pub ended_before_full : (replies (crowded "E") (replying "R")).answer ≡ refuses (plain 14)
  pub out_of_place_before_full : (replies (crowded "R") (replying "Z")).answer ≡ refuses (plain 15)
  -- how many cells a desk has: 51 bytes and a mark for each, and at most 256
  pub cells_256 : capacity_of 13056 256 ≡ 256
  pub no_more_cells : capacity_of 26112 512 ≡ 256
  pub a_byte_less : capacity_of 13055 256 ≡ 255
  pub a_mark_less : capacity_of 13056 255 ≡ 255
  -- how many seats are in use: the bits that are set
  pub two_seats : seats_in_use 32769 ≡ 2
  pub all_seats_case : seats_in_use 65535 ≡ 16

-- ---- three requests with their replies mixed, on a desk with nine cells: as many as there are replies to these requests

abbrev pub three : Memory
three = run (emptied (lending 459 9)) (openings (asking "1" "P" ∷ asking "A" "P" ∷ asking "z" "P" ∷ []))

abbrev pub mixed : List Event
mixed =
    to_reply (reply_to "R" "A" "00007" "00001")
    ∷ to_reply (reply_to "R" "1" "00007" "00002")
    -- a stray with the same number, and one with the same requester
    ∷ to_reply (reply_to "R" "B" "00007" "00003")
    ∷ to_reply (reply_to "R" "A" "00107" "00004")
    -- damaged in the bib
    ∷ to_reply (reply_to "E" "1" "00007" "0000x")
    -- a Z as first record, and a Z out of place
    ∷ to_reply (reply_to "Z" "z" "00007" "00005")
    ∷ to_reply (reply_to "Z" "A" "00007" "00006")
    ∷ to_reply (reply_to "E" "1" "00007" "00007")
    -- after the end
    ∷ to_reply (reply_to "R" "z" "00007" "00008")
    ∷ to_reply (reply_to "Z" "1" "00007" "00009")
    -- a lower bib later than a higher one
    ∷ to_reply (reply_to "R" "A" "00007" "00000")
    ∷ to_reply (reply_to "E" "A" "00007" "00010")
    ∷ []

pub record MixWorked : Type 0 where
  pub answers : answers_of three mixed
      ≡ gives 1 ∷ gives 0 ∷ refuses (plain 13) ∷ refuses (plain 13) ∷ refuses (spoiled_at 5 12 16) ∷ gives 2 ∷ refuses (plain 15) ∷ gives 0 ∷ refuses (plain 14) ∷ refuses (plain 14) ∷ gives 1 ∷ gives 1 ∷ []
  pub marks : (run three mixed).marks ≡ 1 ∷ 0 ∷ 2 ∷ 0 ∷ 1 ∷ 1 ∷ 0 ∷ 0 ∷ 0 ∷ []
  pub count : (run three mixed).count ≡ 6
  pub bits : (run three mixed).bits ≡ 7
  pub seats : (run three mixed).row
      ≡ record { address = 32; requester = 49; number = 7; held = 2; ended = 1 } ∷ record { address = 32; requester = 65; number = 7; held = 3; ended = 1 } ∷ record { address = 32; requester = 122; number = 7; held = 1; ended = 1 }
      ∷ replicate 13 (record { address = 0; requester = 0; number = 0; held = 0; ended = 0 })
  pub held_by_1 : held_by (run three mixed) 0 ≡ reply_to "R" "1" "00007" "00002" ∷ reply_to "E" "1" "00007" "00007" ∷ []
  pub held_by_A : held_by (run three mixed) 1 ≡ reply_to "R" "A" "00007" "00001" ∷ reply_to "R" "A" "00007" "00000" ∷ reply_to "E" "A" "00007" "00010" ∷ []
  pub held_by_z : held_by (run three mixed) 2 ≡ reply_to "Z" "z" "00007" "00005" ∷ []
  -- three R, two E and one Z, all with letter P, which is the thirteenth
  pub tally : (run three mixed).tally ≡ replicate 12 (0 ∷ 0 ∷ 0 ∷ []) ++ (3 ∷ 2 ∷ 1 ∷ []) ∷ replicate 20 (0 ∷ 0 ∷ 0 ∷ [])
  -- six are kept; the three that are refused after the end or out of place count as replies too
  pub bound : replies_to three mixed ≡ 9

-- ---- three requests that differ in the address alone: a space, 0 and 9

abbrev pub stopwatches : Memory
stopwatches = run (emptied (lending 306 6)) (openings (asking_at " " "1" "P" ∷ asking_at "0" "1" "P" ∷ asking_at "9" "1" "P" ∷ []))

abbrev pub from_all : List Event
from_all =
    to_reply (reply_from "0" "R" "1" "00007" "00001")
    ∷ to_reply (reply_from " " "R" "1" "00007" "00002")
    -- a stopwatch that was not asked, and a byte that is no address
    ∷ to_reply (reply_from "1" "R" "1" "00007" "00003")
    ∷ to_reply (reply_from "-" "R" "1" "00007" "00004")
    -- each stopwatch ends its own request, and no other
    ∷ to_reply (reply_from "0" "E" "1" "00007" "00005")
    ∷ to_reply (reply_from "9" "Z" "1" "00007" "00006")
    ∷ to_reply (reply_from "0" "R" "1" "00007" "00007")
    ∷ to_reply (reply_from " " "E" "1" "00007" "00008")
    ∷ []

pub record AddressMixWorked : Type 0 where
  pub answers : answers_of stopwatches from_all
      ≡ gives 1 ∷ gives 0 ∷ refuses (plain 13) ∷ refuses (plain 4) ∷ gives 1 ∷ gives 2 ∷ refuses (plain 14) ∷ gives 0 ∷ []
  pub marks : (run stopwatches from_all).marks ≡ 1 ∷ 0 ∷ 1 ∷ 2 ∷ 0 ∷ 0 ∷ []
  pub count : (run stopwatches from_all).count ≡ 5
  pub seats : (run stopwatches from_all).row
      ≡ record { address = 32; requester = 49; number = 7; held = 2; ended = 1 } ∷ record { address = 48; requester = 49; number = 7; held = 2; ended = 1 } ∷ record { address = 57; requester = 49; number = 7; held = 1; ended = 1 }
      ∷ replicate 13 (record { address = 0; requester = 0; number = 0; held = 0; ended = 0 })
  pub held_at_space : held_by (run stopwatches from_all) 0 ≡ reply_from " " "R" "1" "00007" "00002" ∷ reply_from " " "E" "1" "00007" "00008" ∷ []
  pub held_at_0 : held_by (run stopwatches from_all) 1 ≡ reply_from "0" "R" "1" "00007" "00001" ∷ reply_from "0" "E" "1" "00007" "00005" ∷ []
  pub held_at_9 : held_by (run stopwatches from_all) 2 ≡ reply_from "9" "Z" "1" "00007" "00006" ∷ []
  pub bound : replies_to stopwatches from_all ≡ 6

-- ---- two events in both orders

-- the requests of 1 and A, on an emptied desk with this many cells, and a reply to each
abbrev pub pair : ℕ → ℕ → Memory
pair bytes marks = run (emptied (lending bytes marks)) (openings (asking "1" "P" ∷ asking "A" "P" ∷ []))

abbrev pub to1 : Event
to1 = to_reply (reply_to "R" "1" "00007" "00001")

abbrev pub to_a : Event
to_a = to_reply (reply_to "E" "A" "00007" "00002")

pub record OrdersWorked : Type 0 where
  -- the stores differ
  pub marks_one_way : (run (pair 102 2) (to1 ∷ to_a ∷ [])).marks ≡ 0 ∷ 1 ∷ []
  pub marks_other_way : (run (pair 102 2) (to_a ∷ to1 ∷ [])).marks ≡ 1 ∷ 0 ∷ []
  -- with one cell the order decides which of them is FULL
  pub one_cell_one_way : answers_of (pair 51 1) (to1 ∷ to_a ∷ []) ≡ gives 0 ∷ refuses (plain 16) ∷ []
  pub one_cell_other_way : answers_of (pair 51 1) (to_a ∷ to1 ∷ []) ≡ gives 1 ∷ refuses (plain 16) ∷ []
  -- two openings get each other's seats
  pub openings_one_way : (run bare (to_open (asking "1" "P") ∷ to_open (asking "A" "P") ∷ [])).row ≡ record { address = 32; requester = 49; number = 7; held = 0; ended = 0 } ∷ record { address = 32; requester = 65; number = 7; held = 0; ended = 0 }
      ∷ replicate 14 (record { address = 0; requester = 0; number = 0; held = 0; ended = 0 })
  pub openings_other_way : (run bare (to_open (asking "A" "P") ∷ to_open (asking "1" "P") ∷ [])).row ≡ record { address = 32; requester = 65; number = 7; held = 0; ended = 0 } ∷ record { address = 32; requester = 49; number = 7; held = 0; ended = 0 }
      ∷ replicate 14 (record { address = 0; requester = 0; number = 0; held = 0; ended = 0 })
