-- The twelve numbered cases, with the other side of a limit where there is one, and each refusal of reading, writing and running time by its number.
use Rattle.std.specs.Prelude.{ℕ, zero, suc, List, [], ◌∷◌, ◌++◌, Bool, true, false, ◌≡◌, pos, negsuc, set, Some}
use Prim.Native.String.{String}
use Rattle.digits.specs.Text.{codes}
use Rattle.digits.specs.Refusals.{plain, placed, spoiled_at}
use Rattle.digits.specs.Told.{Told, gives, refuses}
use Rattle.times.specs.Clock.{clock}
use Rattle.times.specs.Running.{running_time}
use Rattle.frames.specs.declared.timing.Timing.{Timing}
use Rattle.frames.specs.declared.timing.Timing.TheVariants.{Clock, Net}
use Rattle.frames.specs.declared.request.StaticRequest.{StaticRequest}
use Rattle.frames.specs.declared.reply.StaticReply.{StaticReply}
use Rattle.frames.specs.declared.refusals.ReadRefusal.TheVariants.{Kind as kind, Length, End, Address, Field}
use Rattle.frames.specs.declared.refusals.WriteRefusal.TheVariants.{Record, Room}
use Rattle.frames.specs.Refusals.{read_refused, write_refused}
use Rattle.frames.specs.Kind.{Kind, read, wrong_in, frame_of, write_tried}
use Rattle.frames.specs.Request.{request}
use Rattle.frames.specs.Reply.{reply}
use Rattle.frames.specs.Dynamic.{dynamic}

-- a frame is accepted
abbrev pub Good : {R : Type 0} → Kind R → List ℕ → Type 0
Good {R} k s = (r : R) × (read k s ≡ gives r)

-- whether an answer is a record
abbrev pub is_good : {R : Type 0} → Told R → Bool
is_good (gives r) = true
is_good (refuses f) = false

-- a frame is refused with FIELD, which is 5, at this offset, and the spoiled byte is there too
abbrev pub FieldAt : {R : Type 0} → Kind R → List ℕ → ℕ → Type 0
FieldAt k s at = read k s ≡ refuses (spoiled_at 5 at at)

-- the answers to n frames, each of which is s with one byte made 7Fh, which no field takes: the byte at `at`, then the next, and so on
abbrev pub damaged : {R : Type 0} → Kind R → List ℕ → ℕ → ℕ → List (Told R)
damaged k s at zero = []
damaged k s at (suc n) = read k (set s at 127) ∷ damaged k s (suc at) n

-- the answers FIELD with these offsets, the spoiled byte at `spoiled`, then at the next place, and so on
abbrev pub fields_at : {R : Type 0} → ℕ → List ℕ → List (Told R)
fields_at spoiled [] = []
fields_at spoiled (at ∷ more) = refuses (spoiled_at 5 at spoiled) ∷ fields_at (suc spoiled) more

-- a request with this requester, letter, channel and run
abbrev pub asking : String → String → String → String → List ℕ
asking requester letter channel run =
    17 ∷ (codes "R " ++ (codes requester ++ (codes "01200041" ++ (codes letter ++ (codes channel ++ (codes run ++ (codes "000S" ++ (13 ∷ []))))))))

-- the record of such a request from A with letter 1 and channel 255
abbrev pub asked : ℕ → StaticRequest
asked run = record { address = 32; requester = 65; number = 12; bib = 41; information = 49; channel = 255; run = run; group = 0; output = 83 }

-- a reply with this bib, channel, letter, time and date
abbrev pub replying : String → String → String → String → String → List ℕ
replying bib channel letter time date =
    18 ∷ (codes "R SOEA00012" ++ (codes bib ++ (codes "000001015" ++ (codes channel ++ (codes letter ++ (codes time ++ (codes date ++ (codes "  " ++ (13 ∷ [])))))))))

-- the record of such a reply with bib 41, channel 255 and no raw bytes
abbrev pub replied : ℕ → Timing → StaticReply
replied letter timing =
    record { head = record { address = 32; program = 83; mode = 79; status = 69; requester = 65; number = 12; bib = 41; group = 0; run = 1; physical = 15; channel = 255; information = letter }; timing = timing; raw_time = zeros10; raw_date = zeros8; spare = 32 ∷ 32 ∷ [] }
  where
    zeros8 : List ℕ
    zeros8 = 0 ∷ 0 ∷ 0 ∷ 0 ∷ 0 ∷ 0 ∷ 0 ∷ 0 ∷ []

    zeros10 : List ℕ
    zeros10 = 0 ∷ 0 ∷ 0 ∷ 0 ∷ 0 ∷ 0 ∷ 0 ∷ 0 ∷ 0 ∷ 0 ∷ []

-- a dynamic request with this order, bib and period
abbrev pub running : String → String → String → List ℕ
running order bib period =
    19 ∷ (codes "R 1" ++ (codes order ++ (codes bib ++ (codes "00000160000255000" ++ (codes "000000000000" ++ (codes period ++ (codes "S" ++ (13 ∷ []))))))))

pub record Worked : Type 0 where
  -- 1. 23:59:59.9999 is the last tick of a day; hour 24 is no time, neither in a clock reply nor in a net reply
  pub last_tick_case : clock.got (codes "2359599999") 0 ≡ Some 863999999
  pub last_second : read reply (replying "00041" "255" "0" "2359599999" "29022024") ≡ gives (replied 48 (Clock 863999999 29 2 2024))
  pub hour_24 : FieldAt reply (replying "00041" "255" "0" "2400000000" "29022024") 30
  pub net_hour_24 : FieldAt reply (replying "00041" "255" "1" "2400000000" "+0000000") 30
  -- 2. net: zero days, and a time
  pub net_plus : read reply (replying "00041" "255" "1" "0001125400" "+0000000") ≡ gives (replied 49 (Net (pos 725400)))
  -- 3. net: a minus covers days and time together; one second below zero is written without days
  pub net_minus : read reply (replying "00041" "255" "1" "2359590000" "-0000001") ≡ gives (replied 49 (Net (negsuc 1727989999)))
  pub net_second : frame_of reply (replied 49 (Net (negsuc 9999))) ≡ replying "00041" "255" "1" "0000010000" "-0000000"
  -- 4. 29 February
  pub leap_day : read reply (replying "00041" "255" "0" "0001125400" "29022024") ≡ gives (replied 48 (Clock 725400 29 2 2024))
  pub no_leap_day : FieldAt reply (replying "00041" "255" "0" "0001125400" "29022023") 40
  -- 5. the last run
  pub run_250 : Good request (asking "A" "1" "255" "250")
  pub run_251 : FieldAt request (asking "A" "1" "255" "251") 16
  -- 6. a channel that a reply can have and a request cannot
  pub asked_250 : FieldAt request (asking "A" "1" "250" "001") 13
  pub replied_250 : Good reply (replying "00041" "250" "1" "0001125400" "+0000000")
  -- 7. a letter that only requests have
  pub asked_L : Good request (asking "A" "L" "255" "001")
  pub replied_L : FieldAt reply (replying "00041" "255" "L" "0001125400" "+0000000") 29
  -- 8. a period of 0
  pub period_a : Good dynamic (running "a" "00041" "00000")
  pub period_A : FieldAt dynamic (running "A" "00041" "00000") 39
  pub period_B : FieldAt dynamic (running "B" "00041" "00000") 39
  -- 9. an empty frame, and a frame that is only a lead byte
  pub empty_request : read request [] ≡ refuses (plain 1)
  pub empty_reply : read reply [] ≡ refuses (plain 1)
  pub empty_dynamic : read dynamic [] ≡ refuses (plain 1)
  pub lead_alone : read request (17 ∷ []) ≡ refuses (plain 2)
  pub lead_to_reply : read reply (17 ∷ []) ≡ refuses (plain 1)
  pub lead_to_dynamic : read dynamic (17 ∷ []) ≡ refuses (plain 1)
  -- 10. a character between Z and a
  pub bracket : FieldAt request (asking "[" "1" "255" "001") 3
  -- 11. the lowest running time
  pub lowest : running_time (record { bib = 1; tnow = 0; tev = 863999999; sign = 0; days = 9; time = 863999999 }) ≡ gives (negsuc 9503999997)
  -- 12. the largest bib
  pub bib_59999 : Good reply (replying "59999" "255" "1" "0001125400" "+0000000")
  pub bib_60000 : FieldAt reply (replying "60000" "255" "1" "0001125400" "+0000000") 12
  pub running_60000 : Good dynamic (running "A" "60000" "00001")
  -- the refusals that no numbered case has: END, ADDRESS, RECORD with its offset, ROOM, TIME
  pub line_feed : read request (17 ∷ (codes "R A012000411255001000S" ++ (10 ∷ []))) ≡ refuses (plain 3)
  pub address_minus : read request (17 ∷ (codes "R-A012000411255001000S" ++ (13 ∷ []))) ≡ refuses (plain 4)
  pub address_S : read reply (18 ∷ (codes "S SOEA000120004100000101525510001125400+0000000  " ++ (13 ∷ []))) ≡ refuses (plain 4)
  pub record_251 : write_tried (wrong_in request (asked 251)) 24 24 ≡ refuses (placed 6 16)
  pub room_23 : write_tried (wrong_in request (asked 250)) 24 23 ≡ refuses (plain 7)
  pub room_24 : write_tried (wrong_in request (asked 250)) 24 24 ≡ gives tt
  pub time_of_none : running_time (record { bib = 0; tnow = 0; tev = 1; sign = 0; days = 0; time = 0 }) ≡ refuses (plain 8)
  -- the numbers of what the readers and the writers answer
  pub read_numbers : read_refused kind ∷ read_refused Length ∷ read_refused End ∷ read_refused Address ∷ read_refused (Field (record { field = 30; spoiled = 32 })) ∷ []
      ≡ plain 1 ∷ plain 2 ∷ plain 3 ∷ plain 4 ∷ spoiled_at 5 30 32 ∷ []
  pub write_numbers : write_refused (Record 30) ∷ write_refused Room ∷ [] ≡ placed 6 30 ∷ plain 7 ∷ []
  -- of two faults, the one that is tested first is reported (the frames of case 9 show KIND before LENGTH, and LENGTH before END)
  pub end_before_address : read request (17 ∷ (codes "S A012000411255001000S" ++ (10 ∷ []))) ≡ refuses (plain 3)
  pub end_before_byte_2 : read request (17 ∷ (codes "R-A012000411255001000S" ++ (10 ∷ []))) ≡ refuses (plain 3)
  pub address_before_field : read request (17 ∷ (codes "S [012000411255001000S" ++ (13 ∷ []))) ≡ refuses (plain 4)
  pub first_field : read request (17 ∷ (codes "R [012000411255251000x" ++ (13 ∷ []))) ≡ refuses (spoiled_at 5 3 3)
  pub record_before_room : write_tried (wrong_in request (asked 251)) 24 0 ≡ refuses (placed 6 16)
