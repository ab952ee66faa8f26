-- The host's answers, worked out in numbers: each code, and each zero that a host sees.
use Rattle.std.specs.Prelude.{ℕ, List, [], ◌∷◌, ◌++◌, ◌≡◌, pos, negsuc, replicate}
use Rattle.digits.specs.Text.{codes}
use Rattle.times.specs.Running.{running_time}
use Rattle.frames.specs.declared.timing.Timing.TheVariants.{Clock, Net, Raw}
use Rattle.frames.specs.Kind.{read}
use Rattle.frames.specs.Request.{request}
use Rattle.frames.specs.Reply.{reply}
use Rattle.frames.specs.Dynamic.{dynamic}
use Rattle.frames.specs.Cases as F
use Rattle.frames.specs.RequestCases as Q
use Rattle.frames.specs.ReplyCases as P
use Rattle.frames.specs.DynamicCases as D
use Rattle.finder.specs.Pieces.{found_from}
use Rattle.desk.specs.Memory.{Memory, memory}
use Rattle.desk.specs.Calls.{resets, opens, replies, next_held}
use Rattle.desk.specs.Capture.{captures}
use Rattle.desk.specs.Events.{run, openings}
use Rattle.desk.specs.Cases.{asking_at, asking, reply_from, replying, bare, asked, sixteen}
use Rattle.listing.specs.Listing.{listed}
use Rattle.rei2.specs.declared.lent.DeskAnswer.{DeskAnswer}
use Rattle.rei2.specs.declared.request.WrittenAnswer.{WrittenAnswer}
use Rattle.rei2.specs.declared.reply.TimingNumbers.{TimingNumbers}
use Rattle.rei2.specs.declared.reply.ReplyRecord.{ReplyRecord}
use Rattle.rei2.specs.Lent.{answer_of, captured_of}
use Rattle.rei2.specs.Frames.{request_answer, dynamic_answer, WroteLent}
use Rattle.rei2.specs.Reply.{numbers_of, reply_answer, wrong_in_c, WroteReplyLent}
use Rattle.rei2.specs.Calls.{frame_answer, cell_answer, running_answer, list_answer}
use Rattle.rei2.specs.Names.{name_of, NamedLent}
use Rattle.desk.specs.Tally.{looks}
use Rattle.rei2.specs.Look.{look_answer}
use Rattle.rei2.specs.Limits.{limits}

-- ---- frames in a capture: a whole one, one cut by the end, one cut by a lead byte

pub record FramesFound : Type 0 where
  pub nothing : frame_answer (found_from [] 0) 0 ≡ record { kind = 0; start = 0; end = 0; next = 0 }
  pub no_lead : frame_answer (found_from (65 ∷ 13 ∷ []) 0) 2 ≡ record { kind = 0; start = 0; end = 0; next = 2 }
  pub past_the_end : frame_answer (found_from (17 ∷ 13 ∷ []) 7) 2 ≡ record { kind = 0; start = 0; end = 0; next = 2 }
  pub one : frame_answer (found_from (65 ∷ 17 ∷ 66 ∷ 13 ∷ 67 ∷ []) 0) 5 ≡ record { kind = 1; start = 1; end = 4; next = 4 }
  pub no_more : frame_answer (found_from (65 ∷ 17 ∷ 66 ∷ 13 ∷ 67 ∷ []) 4) 5 ≡ record { kind = 0; start = 0; end = 0; next = 5 }
  pub cut_by_end : frame_answer (found_from (65 ∷ 18 ∷ 66 ∷ []) 0) 3 ≡ record { kind = 2; start = 1; end = 3; next = 3 }
  pub cut_by_lead : frame_answer (found_from (65 ∷ 17 ∷ 66 ∷ 19 ∷ 13 ∷ []) 0) 5 ≡ record { kind = 2; start = 1; end = 3; next = 3 }
  pub next_one : frame_answer (found_from (65 ∷ 17 ∷ 66 ∷ 19 ∷ 13 ∷ []) 3) 5 ≡ record { kind = 1; start = 3; end = 5; next = 5 }

-- ---- held cells: three cells with the marks 4, 5 and 4

pub record CellsHeld : Type 0 where
  pub first : cell_answer (next_held 3 (replicate 153 0) (4 ∷ 5 ∷ 4 ∷ []) 5 0) ≡ record { found = 1; cell = 1 }
  pub later : cell_answer (next_held 3 (replicate 153 0) (4 ∷ 5 ∷ 4 ∷ []) 4 1) ≡ record { found = 1; cell = 2 }
  pub no_more : cell_answer (next_held 3 (replicate 153 0) (4 ∷ 5 ∷ 4 ∷ []) 5 2) ≡ record { found = 0; cell = 0 }
  pub not_held : cell_answer (next_held 2 (replicate 153 0) (4 ∷ 5 ∷ 4 ∷ []) 4 1) ≡ record { found = 0; cell = 0 }

-- ---- the desk's calls, on the desks and frames of the desk's own cases

-- bits and count after the call; the refusal, its offset and the offset of the spoiled byte; the seat
abbrev pub answering : ℕ → ℕ → ℕ → ℕ → ℕ → ℕ → DeskAnswer
answering bits count refusal offset spoiled seat = record { desk = record { bits = bits; count = count }; refusal = refusal; offset = offset; spoiled = spoiled; seat = seat }

-- no seats, and a state that is not empty
abbrev pub no_desk : Memory
no_desk = memory (record { bits = 5; count = 7 }) [] [] [] []

pub record DeskCalls : Type 0 where
  pub emptied : answer_of (resets asked) ≡ answering 0 0 0 0 0 0
  pub not_emptied : answer_of (resets no_desk) ≡ answering 5 7 9 0 0 0
  pub opened : answer_of (opens bare (asking "1" "P")) ≡ answering 1 0 0 0 0 0
  pub opened_next : answer_of (opens asked (asking "A" "P")) ≡ answering 3 0 0 0 0 1
  pub no_desk_opens : answer_of (opens no_desk (asking "1" "P")) ≡ answering 5 7 9 0 0 0
  pub kind : answer_of (opens asked []) ≡ answering 1 0 1 0 0 0
  pub length : answer_of (opens asked (17 ∷ [])) ≡ answering 1 0 2 0 0 0
  pub end : answer_of (opens asked (17 ∷ (codes "R 200700000P000002000S" ++ (10 ∷ [])))) ≡ answering 1 0 3 0 0 0
  pub address : answer_of (opens asked (17 ∷ (codes "R-200700000P000002000S" ++ (13 ∷ [])))) ≡ answering 1 0 4 0 0 0
  pub field : answer_of (opens asked (asking "[" "P")) ≡ answering 1 0 5 3 3 0
  pub field_spoiled : answer_of (opens asked (17 ∷ (codes "R 200700000P0000x2000S" ++ (13 ∷ [])))) ≡ answering 1 0 5 16 17 0
  pub no_answer_due : answer_of (opens asked (asking "2" "q")) ≡ answering 1 0 10 0 0 0
  pub in_use : answer_of (opens asked (asking "1" "P")) ≡ answering 1 0 11 0 0 0
  pub no_seat : answer_of (opens (run bare (openings sixteen)) (asking "B" "P")) ≡ answering 65535 0 12 0 0 0
  pub no_desk_replies : answer_of (replies no_desk (replying "R")) ≡ answering 5 7 9 0 0 0
  pub reply_field : answer_of (replies asked (replying "Q")) ≡ answering 1 0 5 5 5 0
  pub reply_spoiled : answer_of (replies asked (reply_from " " "R" "1" "00007" "0001x")) ≡ answering 1 0 5 12 16 0
  -- the same requester and number at another address: another seat, and another key
  pub other_address : answer_of (opens asked (asking_at "3" "1" "P")) ≡ answering 3 0 0 0 0 1
  pub stray_by_address : answer_of (replies asked (reply_from "3" "R" "1" "00007" "00015")) ≡ answering 1 0 13 0 0 0
  pub stray : answer_of (replies bare (replying "R")) ≡ answering 0 0 13 0 0 0
  pub taken : answer_of (replies asked (replying "R")) ≡ answering 1 1 0 0 0 0
  pub ended : answer_of (replies (replies asked (replying "E")).after (replying "R")) ≡ answering 1 1 14 0 0 0
  pub out_of_place : answer_of (replies (replies asked (replying "R")).after (replying "Z")) ≡ answering 1 1 15 0 0 0
  pub full : answer_of (replies (replies (replies asked (replying "R")).after (replying "R")).after (replying "R")) ≡ answering 1 2 16 0 0 0

-- a request and three lead bytes; a reply; a dynamic request; memory that is not a desk
pub record CapturesTaken : Type 0 where
  pub asked_and_cut : captured_of (captures bare (asking "1" "P" ++ (17 ∷ 18 ∷ 19 ∷ [])))
      ≡ record { desk = record { bits = 1; count = 0 }; refusal = 0; counts = record { opened = 1; collected = 0; dynamic = 0; refused = 3 } }
  pub replied : captured_of (captures asked (replying "E"))
      ≡ record { desk = record { bits = 1; count = 1 }; refusal = 0; counts = record { opened = 0; collected = 1; dynamic = 0; refused = 0 } }
  pub ran : captured_of (captures asked (F.running "A" "00041" "00001"))
      ≡ record { desk = record { bits = 1; count = 0 }; refusal = 0; counts = record { opened = 0; collected = 0; dynamic = 1; refused = 0 } }
  pub no_desk_case : captured_of (captures no_desk (asking "1" "P"))
      ≡ record { desk = record { bits = 5; count = 7 }; refusal = 9; counts = record { opened = 0; collected = 0; dynamic = 0; refused = 0 } }

-- ---- frames read

-- the record of a reply as in the cases of frames, with this address, bib, letter and timing, and no raw bytes
abbrev pub told_at : ℕ → ℕ → ℕ → TimingNumbers → ReplyRecord
told_at address bib letter timing =
    record { head = record { address = address; program = 83; mode = 79; status = 69; requester = 65; number = 12; bib = bib; group = 0; run = 1; physical = 15; channel = 255; information = letter }; timing = timing; raw_time = replicate 10 0; raw_date = replicate 8 0; spare = 32 ∷ 32 ∷ [] }

-- the same with a space as the address
abbrev pub told : ℕ → ℕ → TimingNumbers → ReplyRecord
told = told_at 32

-- the same with bib 41 and letter P, and with raw bytes
abbrev pub shown_raw : TimingNumbers → ReplyRecord
shown_raw timing =
    record { head = record { address = 32; program = 83; mode = 79; status = 69; requester = 65; number = 12; bib = 41; group = 0; run = 1; physical = 15; channel = 255; information = 80 }; timing = timing; raw_time = replicate 10 32; raw_date = replicate 8 33; spare = 32 ∷ 32 ∷ [] }

-- a clock timing with this net value beside it
abbrev pub clocked : ℕ → TimingNumbers
clocked net = record { kind = 1; ticks = 725400; day = 29; month = 2; year = 2024; net = pos net }

pub record FramesRead : Type 0 where
  pub request_read : request_answer (read request (F.asking "A" "1" "255" "250"))
      ≡ record { refusal = 0; offset = 0; spoiled = 0; request = record { address = 32; requester = 65; number = 12; bib = 41; information = 49; channel = 255; run = 250; group = 0; output = 83 } }
  pub request_refused : request_answer (read request (F.asking "A" "1" "255" "251"))
      ≡ record { refusal = 5; offset = 16; spoiled = 16; request = record { address = 0; requester = 0; number = 0; bib = 0; information = 0; channel = 0; run = 0; group = 0; output = 0 } }
  pub request_spoiled : (request_answer (read request (F.asking "A" "1" "255" "25x"))).spoiled ≡ 18
  pub reply_spoiled : (reply_answer (read reply (F.replying "00041" "255" "0" "2461000000" "29022024"))).spoiled ≡ 32
  pub dynamic_spoiled : (dynamic_answer (read dynamic (F.running "A" "00041" "0000x"))).spoiled ≡ 43
  pub request_address : request_answer (read request Q.good) ≡ record { refusal = 0; offset = 0; spoiled = 0; request = Q.asks 55 66 123 45678 81 231 156 89 65 }
  pub reply_read : reply_answer (read reply (F.replying "00041" "255" "0" "0001125400" "29022024"))
      ≡ record { refusal = 0; offset = 0; spoiled = 0; reply = told 41 48 (record { kind = 1; ticks = 725400; day = 29; month = 2; year = 2024; net = pos 0 }) }
  pub reply_refused_holds : reply_answer (read reply (F.replying "60000" "255" "0" "0001125400" "29022024"))
      ≡ record { refusal = 5; offset = 12; spoiled = 12; reply = record { head = record { address = 0; program = 0; mode = 0; status = 0; requester = 0; number = 0; bib = 0; group = 0; run = 0; physical = 0; channel = 0; information = 0 }; timing = record { kind = 0; ticks = 0; day = 0; month = 0; year = 0; net = pos 0 }; raw_time = 0 ∷ 0 ∷ 0 ∷ 0 ∷ 0 ∷ 0 ∷ 0 ∷ 0 ∷ 0 ∷ 0 ∷ []; raw_date = 0 ∷ 0 ∷ 0 ∷ 0 ∷ 0 ∷ 0 ∷ 0 ∷ 0 ∷ []; spare = 0 ∷ 0 ∷ [] } }
  pub reply_address : (reply_answer (read reply P.good)).reply.head.address ≡ 53
  pub dynamic_read : dynamic_answer (read dynamic (F.running "A" "00041" "00001"))
      ≡ record { refusal = 0; offset = 0; spoiled = 0; request = record { address = 32; requester = 49; order = 65; bib = 41; channel = 0; run = 1; stop_bib = 60000; stop_channel = 255; stop_run = 0; sign = 0; time = 0; days = 0; period = 1; output = 83 } }
  pub dynamic_address : dynamic_answer (read dynamic D.good) ≡ record { refusal = 0; offset = 0; spoiled = 0; request = D.orders 57 67 98 34567 178 209 45678 193 214 1 452967890 7 8642 66 }
  pub dynamic_refused : dynamic_answer (read dynamic (F.running "A" "00041" "00000"))
      ≡ record { refusal = 5; offset = 39; spoiled = 39; request = record { address = 0; requester = 0; order = 0; bib = 0; channel = 0; run = 0; stop_bib = 0; stop_channel = 0; stop_run = 0; sign = 0; time = 0; days = 0; period = 0; output = 0 } }

-- ---- frames written

-- a promise on an answer and an output allows no other answer than this one
abbrev pub Answers : (WrittenAnswer → List ℕ → Type 0) → WrittenAnswer → Type 0
Answers Promise a = (b : WrittenAnswer) (out' : List ℕ) → Promise b out' → b ≡ a

-- a promise on an answer and an output allows no other output than this one
abbrev pub Leaves : (WrittenAnswer → List ℕ → Type 0) → List ℕ → Type 0
Leaves Promise out = (b : WrittenAnswer) (out' : List ℕ) → Promise b out' → out' ≡ out

pub record FramesWritten : Type 0 where
  pub bytes : Leaves (WroteLent request (F.asked 250) (replicate 25 1)) (F.asking "A" "1" "255" "250" ++ (1 ∷ []))
  pub no_bytes : Leaves (WroteLent request (F.asked 251) (replicate 25 1)) (replicate 25 1)
  pub written : Answers (WroteLent request (F.asked 250) (replicate 24 0)) (record { refusal = 0; offset = 0; size = 24 })
  pub no_record : Answers (WroteLent request (F.asked 251) (replicate 24 0)) (record { refusal = 6; offset = 16; size = 0 })
  pub no_address : Answers (WroteLent request (Q.asks 45 66 123 45678 81 231 156 89 65) (replicate 24 0)) (record { refusal = 6; offset = 2; size = 0 })
  pub no_room : Answers (WroteLent request (F.asked 250) (replicate 23 0)) (record { refusal = 7; offset = 0; size = 0 })
  pub reply_written : Answers (WroteReplyLent (told 41 48 (clocked 0)) (replicate 51 0)) (record { refusal = 0; offset = 0; size = 51 })
  pub reply_no_address : Answers (WroteReplyLent (told_at 45 41 48 (clocked 0)) (replicate 51 0)) (record { refusal = 6; offset = 2; size = 0 })
  pub left_over_case : Answers (WroteReplyLent (told 41 48 (clocked 5)) (replicate 51 0)) (record { refusal = 6; offset = 50; size = 0 })
  pub reply_room : Answers (WroteReplyLent (told 41 48 (clocked 0)) (replicate 50 0)) (record { refusal = 7; offset = 0; size = 0 })

-- ---- a reply's timing in numbers

pub record TimingNumbered : Type 0 where
  pub raw : numbers_of Raw ≡ record { kind = 0; ticks = 0; day = 0; month = 0; year = 0; net = pos 0 }
  pub clock : numbers_of (Clock 2 3 4 5) ≡ record { kind = 1; ticks = 2; day = 3; month = 4; year = 5; net = pos 0 }
  pub net : numbers_of (Net (negsuc 6)) ≡ record { kind = 2; ticks = 0; day = 0; month = 0; year = 0; net = negsuc 6 }
  -- a number that the timing does not use is wrong at 50, after every other part of the record
  pub clock_net : wrong_in_c (told 41 48 (clocked 5)) ≡ 50
  pub clock_net_minus : wrong_in_c (told 41 48 (record { kind = 1; ticks = 0; day = 1; month = 1; year = 2024; net = negsuc 0 })) ≡ 50
  pub net_ticks : wrong_in_c (told 41 49 (record { kind = 2; ticks = 1; day = 0; month = 0; year = 0; net = pos 7 })) ≡ 50
  pub net_day : wrong_in_c (told 41 49 (record { kind = 2; ticks = 0; day = 3; month = 0; year = 0; net = pos 7 })) ≡ 50
  pub net_month : wrong_in_c (told 41 49 (record { kind = 2; ticks = 0; day = 0; month = 2; year = 0; net = pos 7 })) ≡ 50
  pub net_year : wrong_in_c (told 41 49 (record { kind = 2; ticks = 0; day = 0; month = 0; year = 9; net = pos 7 })) ≡ 50
  pub raw_day : wrong_in_c (shown_raw (record { kind = 0; ticks = 0; day = 3; month = 0; year = 0; net = pos 0 })) ≡ 50
  pub raw_net : wrong_in_c (shown_raw (record { kind = 0; ticks = 0; day = 0; month = 0; year = 0; net = pos 1 })) ≡ 50
  pub raw_alone : wrong_in_c (shown_raw (record { kind = 0; ticks = 0; day = 0; month = 0; year = 0; net = pos 0 })) ≡ 0
  pub address_first : wrong_in_c (told_at 45 41 48 (clocked 5)) ≡ 2
  pub bib_first : wrong_in_c (told 60000 48 (clocked 5)) ≡ 12
  pub time_first : wrong_in_c (told 41 48 (record { kind = 1; ticks = 864000000; day = 1; month = 1; year = 2024; net = pos 5 })) ≡ 30
  pub date_first : wrong_in_c (told 41 48 (record { kind = 1; ticks = 0; day = 30; month = 2; year = 2024; net = pos 5 })) ≡ 40
  pub other_kind : wrong_in_c (told 41 49 (clocked 5)) ≡ 30
  pub no_kind : wrong_in_c (told 41 48 (record { kind = 3; ticks = 0; day = 1; month = 1; year = 2024; net = pos 0 })) ≡ 30

-- ---- running times and lists

pub record OtherCalls : Type 0 where
  pub running : running_answer (running_time (record { bib = 1; tnow = 20; tev = 5; sign = 0; days = 0; time = 18 })) ≡ record { refusal = 0; ticks = negsuc 2 }
  pub not_running : running_answer (running_time (record { bib = 1; tnow = 20; tev = 5; sign = 2; days = 0; time = 18 })) ≡ record { refusal = 8; ticks = pos 0 }
  pub list : list_answer (listed [] [] [] (replicate 100 0)) ≡ record { refusal = 0; size = 79 }
  pub no_room : list_answer (listed [] [] [] []) ≡ record { refusal = 7; size = 0 }

-- ---- a refusal's name on an output: STRAY with a byte to spare, with exactly its room, and with one byte too few

pub record NamesWritten : Type 0 where
  pub spared : Leaves (NamedLent (name_of 13) (replicate 7 1)) (83 ∷ 84 ∷ 82 ∷ 65 ∷ 89 ∷ 0 ∷ 1 ∷ [])
  pub written : Answers (NamedLent (name_of 13) (replicate 6 1)) (record { refusal = 0; offset = 0; size = 5 })
  pub bytes : Leaves (NamedLent (name_of 13) (replicate 6 1)) (83 ∷ 84 ∷ 82 ∷ 65 ∷ 89 ∷ 0 ∷ [])
  pub no_room : Answers (NamedLent (name_of 13) (replicate 5 1)) (record { refusal = 7; offset = 0; size = 0 })
  pub no_bytes : Leaves (NamedLent (name_of 13) (replicate 5 1)) (1 ∷ 1 ∷ 1 ∷ 1 ∷ 1 ∷ [])

-- ---- a look at a tally whose first, middle and last number are known: letter 0 with R, letter P with E, letter X with Z

abbrev pub known : List (List ℕ)
known = (11 ∷ 0 ∷ 0 ∷ []) ∷ (replicate 11 (replicate 3 0) ++ (0 ∷ 22 ∷ 0 ∷ []) ∷ (replicate 19 (replicate 3 0) ++ (0 ∷ 0 ∷ 33 ∷ []) ∷ []))

pub record Looked : Type 0 where
  pub first : look_answer (looks known 48 82) ≡ record { refusal = 0; held = 11 }
  pub middle : look_answer (looks known 80 69) ≡ record { refusal = 0; held = 22 }
  pub last : look_answer (looks known 88 90) ≡ record { refusal = 0; held = 33 }
  -- L is a letter of requests only, and a status is a capital letter
  pub request_letter : look_answer (looks known 76 82) ≡ record { refusal = 17; held = 0 }
  pub lower_status : look_answer (looks known 80 114) ≡ record { refusal = 17; held = 0 }
  pub no_letter : look_answer (looks known 0 82) ≡ record { refusal = 17; held = 0 }

-- ---- what a host must lend

pub record Lends : Type 0 where
  pub limits_are : limits ≡ record { seats = 16; cells = 13056; marks = 256; cell_size = 51; letters = 33; statuses = 3; most_input = 32768; longest_list = 14687 }

pub record Worked : Type 0 where
  pub frames_found : FramesFound
  pub cells_held : CellsHeld
  pub desk_calls : DeskCalls
  pub captures_taken : CapturesTaken
  pub frames_read : FramesRead
  pub frames_written : FramesWritten
  pub timing_numbered : TimingNumbered
  pub other_calls : OtherCalls
  pub names_written : NamesWritten
  pub looked : Looked
  pub lends : Lends
