-- Worked cases of the static reply: one of each kind of time and date written out in full, each byte after the address damaged, both sides of each rule, and each part of its record out of range.
use Rattle.std.specs.Prelude.{ℕ, List, [], ◌∷◌, ◌++◌, ◌≡◌, pos, negsuc, replicate}
use Prim.Native.String.{String}
use Rattle.std.proofs.lemmas.List.Edits.{sets}
use Rattle.digits.specs.Text.{codes}
use Rattle.digits.specs.declared.refusal.Refusal.{Refusal}
use Rattle.digits.specs.Told.{gives, refuses}
use Rattle.frames.specs.declared.timing.Timing.{Timing}
use Rattle.frames.specs.declared.timing.Timing.TheVariants.{Clock, Net, Raw}
use Rattle.frames.specs.declared.reply.StaticReply.{StaticReply}
use Rattle.frames.specs.Kind.{read, wrong_in, frame_of}
use Rattle.frames.specs.Reply.{reply, or_zero, labelled}
use Rattle.frames.specs.Cases.{Good, FieldAt, damaged, fields_at}

-- a good net reply in which no two parts are alike; its time is 12:34:56.7890
abbrev pub good : List ℕ
good = 18 ∷ (codes "R5PmED1234523456078209345167" ++ (codes "2" ++ (codes "1234567890-0000003" ++ (codes "uv" ++ (13 ∷ [])))))

-- the same frame with this text at a place
abbrev pub but : ℕ → String → List ℕ
but at text = sets good at (codes text)

-- the same frame with letter, time and date of a clock reply, and of a raw one
abbrev pub good_clock : List ℕ
good_clock = but 29 "K123456789028112031"

abbrev pub good_raw : List ℕ
good_raw = but 29 "Qabcdefghijklmnopqr"

-- a record from its parts
abbrev pub tells : ℕ → ℕ → ℕ → ℕ → ℕ → ℕ → ℕ → ℕ → ℕ → ℕ → ℕ → ℕ → Timing → List ℕ → List ℕ → List ℕ → StaticReply
tells address program mode status requester number bib group run physical channel letter timing raw_time raw_date spare =
    record { head = record { address = address; program = program; mode = mode; status = status; requester = requester; number = number; bib = bib; group = group; run = run; physical = physical; channel = channel; information = letter }; timing = timing; raw_time = raw_time; raw_date = raw_date; spare = spare }

-- the net reply's record with these parts before time and date
abbrev pub heads : ℕ → ℕ → ℕ → ℕ → ℕ → ℕ → ℕ → ℕ → ℕ → ℕ → ℕ → ℕ → StaticReply
heads address program mode status requester number bib group run physical channel letter =
    tells address program mode status requester number bib group run physical channel letter (Net (negsuc 3044967889)) (replicate 10 0) (replicate 8 0) (117 ∷ 118 ∷ [])

-- the same record with these parts from the letter on
abbrev pub tails : ℕ → Timing → List ℕ → List ℕ → List ℕ → StaticReply
tails = tells 53 80 109 69 68 12345 23456 78 209 345 167

-- raw time and date: the letters a to j, and k to r
abbrev pub a_to_j : List ℕ
a_to_j = 97 ∷ 98 ∷ 99 ∷ 100 ∷ 101 ∷ 102 ∷ 103 ∷ 104 ∷ 105 ∷ 106 ∷ []

abbrev pub k_to_r : List ℕ
k_to_r = 107 ∷ 108 ∷ 109 ∷ 110 ∷ 111 ∷ 112 ∷ 113 ∷ 114 ∷ []

-- for each byte of the fields, the offset of its field: program, mode, status, requester, number, bib, group, run, both channels, letter, time, date, spare
abbrev pub places : List ℕ
places =
    3 ∷ 4 ∷ 5 ∷ 6 ∷ 7 ∷ 7 ∷ 7 ∷ 7 ∷ 7 ∷ 12 ∷ 12 ∷ 12 ∷ 12 ∷ 12 ∷ 17 ∷ 17 ∷ 17 ∷ 20 ∷ 20 ∷ 20 ∷ 23 ∷ 23 ∷ 23 ∷ 26 ∷ 26 ∷ 26 ∷ 29
    ∷ 30 ∷ 30 ∷ 30 ∷ 30 ∷ 30 ∷ 30 ∷ 30 ∷ 30 ∷ 30 ∷ 30 ∷ 40 ∷ 40 ∷ 40 ∷ 40 ∷ 40 ∷ 40 ∷ 40 ∷ 40 ∷ 48 ∷ 48 ∷ []

pub record ReplyWorked : Type 0 where
  -- the frames and their records: minus three days and a time; a time of day with its date; raw bytes
  pub net : read reply good ≡ gives (tails 50 (Net (negsuc 3044967889)) (replicate 10 0) (replicate 8 0) (117 ∷ 118 ∷ []))
  pub clock : read reply good_clock ≡ gives (tails 75 (Clock 452967890 28 11 2031) (replicate 10 0) (replicate 8 0) (117 ∷ 118 ∷ []))
  pub raw : read reply good_raw ≡ gives (tails 81 Raw a_to_j k_to_r (117 ∷ 118 ∷ []))
  pub net_written : frame_of reply (tails 50 (Net (negsuc 3044967889)) (replicate 10 0) (replicate 8 0) (117 ∷ 118 ∷ [])) ≡ good
  pub clock_written : frame_of reply (tails 75 (Clock 452967890 28 11 2031) (replicate 10 0) (replicate 8 0) (117 ∷ 118 ∷ [])) ≡ good_clock
  pub raw_written : frame_of reply (tails 81 Raw a_to_j k_to_r (117 ∷ 118 ∷ [])) ≡ good_raw
  -- what the check reports of the net reply: status, address, requester and number
  pub label : labelled (read reply good) ≡ gives (record { status = 69; address = 53; requester = 68; number = 12345 })
  pub label_refused : (f : Refusal) → labelled (refuses f) ≡ refuses f
  -- with a refusal comes a record of zeros
  pub zeros : or_zero (read reply []) ≡ tells 0 0 0 0 0 0 0 0 0 0 0 0 Raw (0 ∷ 0 ∷ 0 ∷ 0 ∷ 0 ∷ 0 ∷ 0 ∷ 0 ∷ 0 ∷ 0 ∷ []) (0 ∷ 0 ∷ 0 ∷ 0 ∷ 0 ∷ 0 ∷ 0 ∷ 0 ∷ []) (0 ∷ 0 ∷ [])
  -- each byte of the fields damaged in turn
  pub net_offsets : damaged reply good 3 47 ≡ fields_at 3 places
  pub clock_offsets : damaged reply good_clock 3 47 ≡ fields_at 3 places
  pub raw_offsets : damaged reply good_raw 3 47 ≡ fields_at 3 places
  -- both sides of the rules
  pub status_R : Good reply (but 5 "R")
  pub status_A : FieldAt reply (but 5 "A") 5
  pub requester_a : Good reply (but 6 "a")
  pub after_Z : FieldAt reply (but 6 "[") 6
  pub bib_59999 : Good reply (but 12 "59999")
  pub bib_60000 : FieldAt reply (but 12 "60000") 12
  pub group_199 : Good reply (but 17 "199")
  pub group_200 : FieldAt reply (but 17 "200") 17
  pub run_0 : FieldAt reply (but 20 "000") 20
  pub run_1 : Good reply (but 20 "001")
  pub run_250 : Good reply (but 20 "250")
  pub run_251 : FieldAt reply (but 20 "251") 20
  pub channel_240 : Good reply (but 26 "240")
  pub channel_241 : FieldAt reply (but 26 "241") 26
  pub channel_245 : Good reply (but 26 "245")
  pub channel_251 : FieldAt reply (but 26 "251") 26
  pub letter_3 : Good reply (but 29 "3")
  pub letter_q_case : FieldAt reply (but 29 "q") 29
  -- a minus and a plus with zero days, and the same with time zero
  pub minus_no_days : Good reply (but 40 "-0000000")
  pub plus_no_days : Good reply (but 40 "+0000000")
  pub minus_zero : FieldAt reply (but 30 "0000000000-0000000") 40
  pub minus_one_tick : Good reply (but 30 "0000000001-0000000")
  pub minus_one_day : Good reply (but 30 "0000000000-0000001")
  pub plus_zero : Good reply (but 30 "0000000000+0000000")
  -- a record with one part out of range
  pub wrong_address : wrong_in reply (heads 45 80 109 69 68 12345 23456 78 209 345 167 50) ≡ 2
  pub wrong_program : wrong_in reply (heads 53 31 109 69 68 12345 23456 78 209 345 167 50) ≡ 3
  pub wrong_mode : wrong_in reply (heads 53 80 127 69 68 12345 23456 78 209 345 167 50) ≡ 4
  pub wrong_status : wrong_in reply (heads 53 80 109 65 68 12345 23456 78 209 345 167 50) ≡ 5
  pub wrong_requester : wrong_in reply (heads 53 80 109 69 64 12345 23456 78 209 345 167 50) ≡ 6
  pub wrong_number : wrong_in reply (heads 53 80 109 69 68 100000 23456 78 209 345 167 50) ≡ 7
  pub wrong_bib : wrong_in reply (heads 53 80 109 69 68 12345 60000 78 209 345 167 50) ≡ 12
  pub wrong_group : wrong_in reply (heads 53 80 109 69 68 12345 23456 200 209 345 167 50) ≡ 17
  pub wrong_run : wrong_in reply (heads 53 80 109 69 68 12345 23456 78 0 345 167 50) ≡ 20
  pub wrong_physical : wrong_in reply (heads 53 80 109 69 68 12345 23456 78 209 1000 167 50) ≡ 23
  pub wrong_channel : wrong_in reply (heads 53 80 109 69 68 12345 23456 78 209 345 241 50) ≡ 26
  pub wrong_letter : wrong_in reply (heads 53 80 109 69 68 12345 23456 78 209 345 167 76) ≡ 29
  -- a timing of another kind than status and letter ask for
  pub net_for_clock : wrong_in reply (heads 53 80 109 69 68 12345 23456 78 209 345 167 48) ≡ 30
  pub net_for_raw : wrong_in reply (heads 53 80 109 69 68 12345 23456 78 209 345 167 80) ≡ 30
  pub raw_for_net : wrong_in reply (tails 50 Raw a_to_j k_to_r (117 ∷ 118 ∷ [])) ≡ 30
  -- a wrong time, date or spare, and raw arrays that are not used but not zero
  pub clock_time : wrong_in reply (tails 75 (Clock 864000000 28 11 2031) (replicate 10 0) (replicate 8 0) (117 ∷ 118 ∷ [])) ≡ 30
  pub clock_date : wrong_in reply (tails 75 (Clock 452967890 31 11 2031) (replicate 10 0) (replicate 8 0) (117 ∷ 118 ∷ [])) ≡ 40
  pub net_date : wrong_in reply (tails 50 (Net (pos 8640000000000000)) (replicate 10 0) (replicate 8 0) (117 ∷ 118 ∷ [])) ≡ 40
  pub raw_time_case : wrong_in reply (tails 81 Raw (sets a_to_j 9 (127 ∷ [])) k_to_r (117 ∷ 118 ∷ [])) ≡ 30
  pub raw_date_case : wrong_in reply (tails 81 Raw a_to_j (sets k_to_r 7 (127 ∷ [])) (117 ∷ 118 ∷ [])) ≡ 40
  pub net_spare : wrong_in reply (tails 50 (Net (negsuc 3044967889)) (replicate 10 0) (replicate 8 0) (117 ∷ 127 ∷ [])) ≡ 48
  pub raw_spare : wrong_in reply (tails 81 Raw a_to_j k_to_r (127 ∷ 118 ∷ [])) ≡ 48
  pub net_left_over : wrong_in reply (tails 50 (Net (negsuc 3044967889)) a_to_j (replicate 8 0) (117 ∷ 118 ∷ [])) ≡ 50
  pub clock_left_over : wrong_in reply (tails 75 (Clock 452967890 28 11 2031) (replicate 10 0) k_to_r (117 ∷ 118 ∷ [])) ≡ 50
