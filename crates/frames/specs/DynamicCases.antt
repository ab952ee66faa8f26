-- Worked cases of the dynamic request: one written out in full, each byte after the address damaged, both sides of each rule, and each part of its record out of range.
use Rattle.std.specs.Prelude.{ℕ, List, [], ◌∷◌, ◌++◌, map, true, false, ◌≡◌, replicate}
use Prim.Native.String.{String}
use Rattle.std.proofs.lemmas.List.Edits.{sets}
use Rattle.digits.specs.Text.{codes}
use Rattle.digits.specs.Told.{gives}
use Rattle.frames.specs.declared.dynamic.DynamicRequest.{DynamicRequest}
use Rattle.frames.specs.Kind.{read, wrong_in, frame_of}
use Rattle.frames.specs.Dynamic.{dynamic}
use Rattle.frames.specs.Cases.{is_good, Good, FieldAt, damaged, fields_at}

-- a good dynamic request in which no two parts are alike; its time is 12:34:56.7890
abbrev pub good : List ℕ
good = 19 ∷ (codes "R9Cb34567178209456781932141" ++ (codes "1234567890" ++ (codes "708642B" ++ (13 ∷ []))))

-- the same frame with this text at a place
abbrev pub but : ℕ → String → List ℕ
but at text = sets good at (codes text)

-- a record from its parts: address, requester, order, start, stop, Taux, period, output
abbrev pub orders : ℕ → ℕ → ℕ → ℕ → ℕ → ℕ → ℕ → ℕ → ℕ → ℕ → ℕ → ℕ → ℕ → ℕ → DynamicRequest
orders address requester order bib channel run stop_bib stop_channel stop_run sign time days period output =
    record { address = address; requester = requester; order = order; bib = bib; channel = channel; run = run; stop_bib = stop_bib; stop_channel = stop_channel; stop_run = stop_run; sign = sign; time = time; days = days; period = period; output = output }

pub record DynamicWorked : Type 0 where
  -- the frame and its record
  pub spelled : read dynamic good ≡ gives (orders 57 67 98 34567 178 209 45678 193 214 1 452967890 7 8642 66)
  pub written : frame_of dynamic (orders 57 67 98 34567 178 209 45678 193 214 1 452967890 7 8642 66) ≡ good
  -- the minus of a Taux of zero is kept when read and when written
  pub minus_zero : read dynamic (but 27 "100000000000") ≡ gives (orders 57 67 98 34567 178 209 45678 193 214 1 0 0 8642 66)
  pub minus_zero_written : frame_of dynamic (orders 57 67 98 34567 178 209 45678 193 214 1 0 0 8642 66) ≡ but 27 "100000000000"
  -- minus zero with each order, with the shortest period and with none
  pub minus_zero_orders : map (λ order. is_good (read dynamic (sets (but 27 "10000000000000001") 4 (codes order)))) ("A" ∷ "B" ∷ "a" ∷ "b" ∷ "T" ∷ "t" ∷ []) ≡ replicate 6 true
  pub minus_zero_no_period : map (λ order. is_good (read dynamic (sets (but 27 "10000000000000000") 4 (codes order)))) ("A" ∷ "B" ∷ "a" ∷ "b" ∷ "T" ∷ "t" ∷ []) ≡ false ∷ false ∷ true ∷ true ∷ true ∷ true ∷ []
  -- each byte of the fields damaged in turn: requester, order, bib, channel, run; stop bib, channel and run; sign, time, days; period, output
  pub offsets : damaged dynamic good 3 42 ≡ fields_at 3 (3 ∷ 4 ∷ 5 ∷ 5 ∷ 5 ∷ 5 ∷ 5 ∷ 10 ∷ 10 ∷ 10 ∷ 13 ∷ 13 ∷ 13
      ∷ 16 ∷ 16 ∷ 16 ∷ 16 ∷ 16 ∷ 21 ∷ 21 ∷ 21 ∷ 24 ∷ 24 ∷ 24 ∷ 27 ∷ 28 ∷ 28 ∷ 28 ∷ 28 ∷ 28 ∷ 28 ∷ 28 ∷ 28 ∷ 28 ∷ 28 ∷ 38 ∷ 39 ∷ 39 ∷ 39 ∷ 39 ∷ 39 ∷ 44 ∷ [])
  -- both sides of the rules
  pub requester_a : Good dynamic (but 3 "a")
  pub after_Z : FieldAt dynamic (but 3 "[") 3
  pub order_t : Good dynamic (but 4 "t")
  pub order_c : FieldAt dynamic (but 4 "c") 4
  pub bib_60000 : Good dynamic (but 5 "60000")
  pub bib_60001 : FieldAt dynamic (but 5 "60001") 5
  pub channel_250 : Good dynamic (but 10 "250")
  pub channel_251 : FieldAt dynamic (but 10 "251") 10
  pub run_250 : Good dynamic (but 13 "250")
  pub run_251 : FieldAt dynamic (but 13 "251") 13
  pub stop_bib_0 : FieldAt dynamic (but 16 "00000") 16
  pub stop_bib_1 : Good dynamic (but 16 "00001")
  pub stop_bib_60000 : Good dynamic (but 16 "60000")
  pub stop_bib_60001 : FieldAt dynamic (but 16 "60001") 16
  pub stop_channel_240 : Good dynamic (but 21 "240")
  pub stop_channel_241 : FieldAt dynamic (but 21 "241") 21
  pub stop_run_250 : Good dynamic (but 24 "250")
  pub stop_run_251 : FieldAt dynamic (but 24 "251") 24
  pub sign_0 : Good dynamic (but 27 "0")
  pub sign_2 : FieldAt dynamic (but 27 "2") 27
  pub hour_23 : Good dynamic (but 28 "2359599999")
  pub hour_24 : FieldAt dynamic (but 28 "2400000000") 28
  pub output_S : Good dynamic (but 44 "S")
  pub output_C : FieldAt dynamic (but 44 "C") 44
  -- a record with one part out of range
  pub wrong_address : wrong_in dynamic (orders 45 67 98 34567 178 209 45678 193 214 1 452967890 7 8642 66) ≡ 2
  pub wrong_requester : wrong_in dynamic (orders 57 64 98 34567 178 209 45678 193 214 1 452967890 7 8642 66) ≡ 3
  pub wrong_order : wrong_in dynamic (orders 57 67 99 34567 178 209 45678 193 214 1 452967890 7 8642 66) ≡ 4
  pub wrong_bib : wrong_in dynamic (orders 57 67 98 60001 178 209 45678 193 214 1 452967890 7 8642 66) ≡ 5
  pub wrong_channel : wrong_in dynamic (orders 57 67 98 34567 241 209 45678 193 214 1 452967890 7 8642 66) ≡ 10
  pub wrong_run : wrong_in dynamic (orders 57 67 98 34567 178 251 45678 193 214 1 452967890 7 8642 66) ≡ 13
  pub wrong_stop_bib : wrong_in dynamic (orders 57 67 98 34567 178 209 0 193 214 1 452967890 7 8642 66) ≡ 16
  pub wrong_stop_channel : wrong_in dynamic (orders 57 67 98 34567 178 209 45678 251 214 1 452967890 7 8642 66) ≡ 21
  pub wrong_stop_run : wrong_in dynamic (orders 57 67 98 34567 178 209 45678 193 251 1 452967890 7 8642 66) ≡ 24
  pub wrong_sign : wrong_in dynamic (orders 57 67 98 34567 178 209 45678 193 214 2 452967890 7 8642 66) ≡ 27
  pub wrong_time : wrong_in dynamic (orders 57 67 98 34567 178 209 45678 193 214 1 864000000 7 8642 66) ≡ 28
  pub wrong_days : wrong_in dynamic (orders 57 67 98 34567 178 209 45678 193 214 1 452967890 10 8642 66) ≡ 38
  pub wrong_period : wrong_in dynamic (orders 57 67 98 34567 178 209 45678 193 214 1 452967890 7 100000 66) ≡ 39
  pub no_period : wrong_in dynamic (orders 57 67 65 34567 178 209 45678 193 214 1 452967890 7 0 66) ≡ 39
  pub wrong_output : wrong_in dynamic (orders 57 67 98 34567 178 209 45678 193 214 1 452967890 7 8642 67) ≡ 44
