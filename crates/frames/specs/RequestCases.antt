-- Worked cases of the static request: one spelled out in full, each byte after the address damaged, both sides of each rule, each part of its record out of range.
use Rattle.std.specs.Prelude.{ℕ, List, [], ◌∷◌, ◌++◌, ◌≡◌}
use Prim.Native.String.{String}
use Rattle.std.proofs.lemmas.List.Edits.{sets}
use Rattle.digits.specs.Text.{codes}
use Rattle.digits.specs.Told.{gives}
use Rattle.frames.specs.declared.request.StaticRequest.{StaticRequest}
use Rattle.frames.specs.Kind.{read, wrong_in, frame_of}
use Rattle.frames.specs.Request.{request}
use Rattle.frames.specs.Cases.{Good, FieldAt, damaged, fields_at}

-- a good request in which no two parts are alike
abbrev pub good : List ℕ
good = 17 ∷ (codes "R7B12345678Q231156089A" ++ (13 ∷ []))

-- the same frame with this text at a place
abbrev pub but : ℕ → String → List ℕ
but at text = sets good at (codes text)

-- a record from its parts
abbrev pub asks : ℕ → ℕ → ℕ → ℕ → ℕ → ℕ → ℕ → ℕ → ℕ → StaticRequest
asks address requester number bib information channel run group output =
    record { address = address; requester = requester; number = number; bib = bib; information = information; channel = channel; run = run; group = group; output = output }

pub record RequestWorked : Type 0 where
  -- the frame and its record
  pub spelled : read request good ≡ gives (asks 55 66 123 45678 81 231 156 89 65)
  pub written : frame_of request (asks 55 66 123 45678 81 231 156 89 65) ≡ good
  -- each byte of the fields damaged in turn: requester, number, bib, information, channel, run, group, output
  pub offsets : damaged request good 3 20 ≡ fields_at 3 (3 ∷ 4 ∷ 4 ∷ 4 ∷ 7 ∷ 7 ∷ 7 ∷ 7 ∷ 7 ∷ 12 ∷ 13 ∷ 13 ∷ 13 ∷ 16 ∷ 16 ∷ 16 ∷ 19 ∷ 19 ∷ 19 ∷ 22 ∷ [])
  -- requesters, and the characters just outside their three ranges
  pub requester_0 : Good request (but 3 "0")
  pub requester_9 : Good request (but 3 "9")
  pub requester_A : Good request (but 3 "A")
  pub requester_Z : Good request (but 3 "Z")
  pub requester_a : Good request (but 3 "a")
  pub requester_z : Good request (but 3 "z")
  pub before_0 : FieldAt request (but 3 "/") 3
  pub after_9 : FieldAt request (but 3 ":") 3
  pub before_A : FieldAt request (but 3 "@") 3
  pub after_Z : FieldAt request (but 3 "[") 3
  pub before_a : FieldAt request (but 3 "`") 3
  pub after_z : FieldAt request (but 3 "{") 3
  -- both sides of the other rules
  pub bib_59999 : Good request (but 7 "59999")
  pub bib_60000 : FieldAt request (but 7 "60000") 7
  pub letter_q_case : Good request (but 12 "q")
  pub letter_e : FieldAt request (but 12 "e") 12
  pub channel_240 : Good request (but 13 "240")
  pub channel_241 : FieldAt request (but 13 "241") 13
  pub channel_251 : Good request (but 13 "251")
  pub run_250 : Good request (but 16 "250")
  pub run_251 : FieldAt request (but 16 "251") 16
  pub group_199 : Good request (but 19 "199")
  pub group_200 : FieldAt request (but 19 "200") 19
  pub output_T : Good request (but 22 "T")
  pub output_C : FieldAt request (but 22 "C") 22
  -- a record with one part out of range
  pub wrong_address : wrong_in request (asks 45 66 123 45678 81 231 156 89 65) ≡ 2
  pub wrong_requester : wrong_in request (asks 55 64 123 45678 81 231 156 89 65) ≡ 3
  pub wrong_number : wrong_in request (asks 55 66 1000 45678 81 231 156 89 65) ≡ 4
  pub wrong_bib : wrong_in request (asks 55 66 123 60000 81 231 156 89 65) ≡ 7
  pub wrong_information : wrong_in request (asks 55 66 123 45678 101 231 156 89 65) ≡ 12
  pub wrong_channel : wrong_in request (asks 55 66 123 45678 81 241 156 89 65) ≡ 13
  pub wrong_run : wrong_in request (asks 55 66 123 45678 81 231 251 89 65) ≡ 16
  pub wrong_group : wrong_in request (asks 55 66 123 45678 81 231 156 200 65) ≡ 19
  pub wrong_output : wrong_in request (asks 55 66 123 45678 81 231 156 89 67) ≡ 22
