-- Worked cases of the spoiled byte: fields of each width with other texts in place of their own.
use Rattle.std.specs.Prelude.{ℕ, List, [], ◌∷◌, cond, ◌&&◌, ◌≡◌, eqb, set}
use Prim.Native.String.{String}
use Rattle.std.proofs.lemmas.List.Edits.{sets}
use Rattle.digits.specs.Text.{codes}
use Rattle.digits.specs.Refusals.{spoiled_at}
use Rattle.digits.specs.Told.{Told, gives, refuses}
use Rattle.frames.specs.Kind.{Kind, read}
use Rattle.frames.specs.Request.{request}
use Rattle.frames.specs.Reply.{reply}
use Rattle.frames.specs.Dynamic.{dynamic}
use Rattle.frames.specs.RequestCases as Q
use Rattle.frames.specs.ReplyCases as P
use Rattle.frames.specs.DynamicCases as D

-- where the byte is that spoils the field at this offset; 0 if the frame is accepted, and 1 for any other refusal
abbrev pub spoiled_of : {R : Type 0} → ℕ → Told R → ℕ
spoiled_of at (gives r) = 0
spoiled_of at (refuses f) = cond (eqb f.number 5 && eqb f.offset at) f.spoiled 1

-- the same for the frame s with each of these texts at this offset
abbrev pub spoiled_by : {R : Type 0} → Kind R → List ℕ → ℕ → List String → List ℕ
spoiled_by k s at [] = []
spoiled_by k s at (text ∷ more) = spoiled_of at (read k (sets s at (codes text))) ∷ spoiled_by k s at more

-- the net reply with status Z, whose time and date are raw; and the dynamic request with order A
abbrev pub good_z : List ℕ
good_z = P.but 5 "Z"

abbrev pub good_a : List ℕ
good_a = D.but 4 "A"

pub record SpoiledWorked : Type 0 where
  -- each byte can be there, but not together; two wrong bytes, of which the first counts
  pub request_run : spoiled_by request Q.good 16 ("250" ∷ "251" ∷ "299" ∷ "300" ∷ "999" ∷ "1-3" ∷ "99-" ∷ "25:" ∷ "2/:" ∷ []) ≡ 0 ∷ 16 ∷ 16 ∷ 16 ∷ 16 ∷ 17 ∷ 16 ∷ 18 ∷ 17 ∷ []
  -- the bytes on both sides of the digits, and the highest digit that can come first
  pub request_number : spoiled_by request Q.good 4 ("999" ∷ "/00" ∷ ":00" ∷ "0/0" ∷ "0:0" ∷ "00/" ∷ "00:" ∷ []) ≡ 0 ∷ 4 ∷ 4 ∷ 5 ∷ 5 ∷ 6 ∷ 6 ∷ []
  pub request_bib : spoiled_by request Q.good 7 ("59999" ∷ "60000" ∷ "5999:" ∷ "6999:" ∷ "5/9:9" ∷ []) ≡ 0 ∷ 7 ∷ 11 ∷ 7 ∷ 8 ∷ []
  pub request_channel : spoiled_by request Q.good 13 ("255" ∷ "241" ∷ "299" ∷ "300" ∷ "2A9" ∷ "25 " ∷ []) ≡ 0 ∷ 13 ∷ 13 ∷ 13 ∷ 14 ∷ 15 ∷ []
  pub request_group : spoiled_by request Q.good 19 ("199" ∷ "200" ∷ "19x" ∷ "2x9" ∷ []) ≡ 0 ∷ 19 ∷ 21 ∷ 19 ∷ []
  -- a byte of 80h or more
  pub high_request : read request (set Q.good 3 200) ≡ refuses (spoiled_at 5 3 3)
  pub high_reply : read reply (set P.good 10 255) ≡ refuses (spoiled_at 5 7 10)
  pub high_dynamic : read dynamic (set D.good 44 128) ≡ refuses (spoiled_at 5 44 44)
  -- two fields are wrong: the byte is in the first of them
  pub two_fields : read request (sets (Q.but 4 "0x0") 16 (codes "x51")) ≡ refuses (spoiled_at 5 4 5)
  pub together_first : read request (sets (Q.but 13 "241") 16 (codes "1x1")) ≡ refuses (spoiled_at 5 13 13)
  -- hours 24 to 29, and minutes and seconds of 60 and more: only the fields before are fixed, not the bytes before
  pub clock_time : spoiled_by reply P.good_clock 30
      ("2359599999" ∷ "2400000000" ∷ "2900000000" ∷ "3000000000" ∷ "2461000000" ∷ "2360000000" ∷ "2459600000" ∷ "2459590x00" ∷ "245:590x00" ∷ "235959999/" ∷ [])
      ≡ 0 ∷ 30 ∷ 30 ∷ 30 ∷ 32 ∷ 32 ∷ 34 ∷ 37 ∷ 33 ∷ 39 ∷ []
  pub net_time : spoiled_by reply P.good 30 ("2359599999" ∷ "2400000000" ∷ "2461000000" ∷ []) ≡ 0 ∷ 30 ∷ 32 ∷ []
  pub raw_time_case : spoiled_by reply P.good_raw 30 ("2461000000" ∷ "~~~~~~~~~~" ∷ []) ≡ 0 ∷ 0 ∷ []
  pub z_time : spoiled_by reply good_z 30 ("2461000000" ∷ []) ≡ 0 ∷ []
  pub dynamic_time : spoiled_by dynamic D.good 28 ("2359599999" ∷ "2400000000" ∷ "2461000000" ∷ "23595x9999" ∷ []) ≡ 0 ∷ 28 ∷ 30 ∷ 33 ∷ []
  -- days that no month has, months and years that no date has
  pub clock_date : spoiled_by reply P.good_clock 40
      ("29022024" ∷ "29022023" ∷ "31042024" ∷ "00012024" ∷ "32012024" ∷ "39012024" ∷ "40012024" ∷ "01002024" ∷ "01132024" ∷ "01192024" ∷ "01202024" ∷ "3x1x2024" ∷ [])
      ≡ 0 ∷ 40 ∷ 40 ∷ 40 ∷ 40 ∷ 40 ∷ 40 ∷ 40 ∷ 40 ∷ 40 ∷ 42 ∷ 41 ∷ []
  pub clock_year : spoiled_by reply P.good_clock 40 ("01012099" ∷ "01012100" ∷ "01011999" ∷ "00000000" ∷ "310420x4" ∷ "3104202:" ∷ []) ≡ 0 ∷ 45 ∷ 44 ∷ 44 ∷ 46 ∷ 47 ∷ []
  -- a sign and days; with time zero a minus needs a day
  pub net_date : spoiled_by reply P.good 40 ("+0000000" ∷ "-0000000" ∷ "-0000001" ∷ ",0000001" ∷ "*0000001" ∷ ".0000001" ∷ "-00000x0" ∷ "0000000x" ∷ []) ≡ 0 ∷ 0 ∷ 0 ∷ 40 ∷ 40 ∷ 40 ∷ 46 ∷ 40 ∷ []
  pub net_date_at_zero : spoiled_by reply (P.but 30 "0000000000") 40 ("+0000000" ∷ "-0000000" ∷ "-0000001" ∷ ",0000000" ∷ "-000000x" ∷ "-00x000x" ∷ []) ≡ 0 ∷ 40 ∷ 0 ∷ 40 ∷ 47 ∷ 43 ∷ []
  -- the last two bytes are one field
  pub spare : read reply (set P.good 49 127) ≡ refuses (spoiled_at 5 48 49)
  pub both_spare : read reply (set (set P.good_raw 49 31) 48 127) ≡ refuses (spoiled_at 5 48 48)
  pub raw_date_case : read reply (set P.good_raw 47 31) ≡ refuses (spoiled_at 5 40 47)
  -- a run of 0 is good only with status Z, and a period of 0 only with an order other than A and B
  pub reply_run : spoiled_by reply P.good 20 ("001" ∷ "000" ∷ "00x" ∷ []) ≡ 0 ∷ 20 ∷ 22 ∷ []
  pub z_run : spoiled_by reply good_z 20 ("000" ∷ "251" ∷ "351" ∷ []) ≡ 0 ∷ 20 ∷ 20 ∷ []
  pub period_A : spoiled_by dynamic good_a 39 ("00001" ∷ "00000" ∷ "0000:" ∷ []) ≡ 0 ∷ 39 ∷ 43 ∷ []
  pub period_b : spoiled_by dynamic D.good 39 ("00000" ∷ "0x000" ∷ []) ≡ 0 ∷ 40 ∷ []
  -- bibs of a dynamic request go up to 60000, and the stop bib is not 0
  pub dynamic_bib : spoiled_by dynamic D.good 5 ("60000" ∷ "60001" ∷ "69999" ∷ "70000" ∷ "6000x" ∷ []) ≡ 0 ∷ 5 ∷ 5 ∷ 5 ∷ 9 ∷ []
  pub stop_bib : spoiled_by dynamic D.good 16 ("00001" ∷ "00000" ∷ "60001" ∷ "70000" ∷ "0000x" ∷ []) ≡ 0 ∷ 16 ∷ 16 ∷ 16 ∷ 20 ∷ []
  -- numbers that may have any digits
  pub reply_number : spoiled_by reply P.good 7 ("99999" ∷ "9999x" ∷ "x999x" ∷ []) ≡ 0 ∷ 11 ∷ 7 ∷ []
  pub physical : spoiled_by reply P.good 23 ("999" ∷ "9 9" ∷ []) ≡ 0 ∷ 24 ∷ []
