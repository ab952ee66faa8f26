-- All values that each rule for letters and channels takes, lowest first.
use Rattle.std.specs.Prelude.{ℕ, zero, suc, List, [], ◌∷◌, ◌++◌, map, Bool, true, false, cond, ◌≡◌, drop, eqb, Some, is_some}
use Rattle.digits.specs.Text.{codes}
use Rattle.frames.specs.declared.timing.TimingKind.{TimingKind}
use Rattle.frames.specs.declared.timing.TimingKind.TheVariants.{Clock as clock_kind, Net as net_kind, Raw as raw_kind}
use Rattle.frames.specs.Rules.{is_address, is_requester, is_output, is_raw}
use Rattle.frames.specs.Status.{is_status, status_place, status_found}
use Rattle.frames.specs.Request as Q
use Rattle.frames.specs.Timing.{timing_kind, is_sign}
use Rattle.frames.specs.Reply as P
use Rattle.frames.specs.Dynamic as D

-- the numbers below n that a rule takes
abbrev pub taken : (ℕ → Bool) → ℕ → List ℕ
taken rule zero = []
taken rule (suc n) = taken rule n ++ cond (rule n) (n ∷ []) []

-- all numbers below n
abbrev pub below : ℕ → List ℕ
below = taken (λ _. true)

abbrev pub is_clock : TimingKind → Bool
is_clock clock_kind = true
is_clock net_kind = false
is_clock raw_kind = false

abbrev pub is_net_time : TimingKind → Bool
is_net_time clock_kind = false
is_net_time net_kind = true
is_net_time raw_kind = false

pub record RulesWorked : Type 0 where
  pub addresses : taken is_address 256 ≡ codes " 0123456789"
  pub requesters : taken is_requester 256 ≡ codes "0123456789ABCDEFGHIJKLMNOPQRSTUVWXYZabcdefghijklmnopqrstuvwxyz"
  pub outputs : taken is_output 256 ≡ codes "ABST"
  pub raw_bytes_case : taken is_raw 256 ≡ drop 32 (below 127)
  -- 41 letters of a request; 33 of a reply, which are those without * L b c d l q t
  pub information : taken Q.is_information 256 ≡ codes "*0123456789AGHIJKLPQRSTWXabcdghijklpqstuw"
  pub letters : taken P.is_letter 256 ≡ codes "0123456789AGHIJKPQRSTWXaghijkpsuw"
  -- the places of letters and statuses in the tally; 33 and 3 are no places
  pub letter_places : map P.letter_place (codes "0123456789AQPaSsTKRGHhIiJjpkugWwX")
      ≡ 0 ∷ 1 ∷ 2 ∷ 3 ∷ 4 ∷ 5 ∷ 6 ∷ 7 ∷ 8 ∷ 9 ∷ 10 ∷ 11 ∷ 12 ∷ 13 ∷ 14 ∷ 15 ∷ 16 ∷ 17 ∷ 18 ∷ 19 ∷ 20 ∷ 21 ∷ 22 ∷ 23 ∷ 24 ∷ 25 ∷ 26 ∷ 27 ∷ 28 ∷ 29 ∷ 30 ∷ 31 ∷ 32 ∷ []
  pub no_letter_place : map P.letter_place (codes "L*tq") ≡ 33 ∷ 33 ∷ 33 ∷ 33 ∷ []
  pub status_places : map status_place (codes "REZr") ≡ 0 ∷ 1 ∷ 2 ∷ 3 ∷ []
  -- what a search for a place finds: that place, and nothing for any other byte
  pub letters_found : map P.letter_found (codes "0123456789AQPaSsTKRGHhIiJjpkugWwX") ≡ map Some (below 33)
  pub letters_alone : taken (λ b. is_some (P.letter_found b)) 256 ≡ codes "0123456789AGHIJKPQRSTWXaghijkpsuw"
  pub statuses_found : map status_found (codes "REZ") ≡ map Some (below 3)
  pub statuses_alone : taken (λ b. is_some (status_found b)) 256 ≡ codes "ERZ"
  pub statuses : taken is_status 256 ≡ codes "ERZ"
  pub orders : taken D.is_order 256 ≡ codes "ABTabt"
  pub signs : taken is_sign 256 ≡ codes "+-"
  -- of the numbers of three digits, the channels
  pub request_channels : taken Q.is_request_channel 1000 ≡ below 241 ++ (248 ∷ 249 ∷ 251 ∷ 255 ∷ [])
  pub reply_channels : taken P.is_reply_channel 1000 ≡ below 241 ++ (245 ∷ 248 ∷ 249 ∷ 250 ∷ 255 ∷ [])
  pub dynamic_channels : taken D.is_dynamic_channel 1000 ≡ below 241 ++ (250 ∷ 255 ∷ [])
  -- the letters of clock and of net replies with status R; with status Z there are none
  pub clock_letters : taken (λ b. is_clock (timing_kind 82 b)) 256 ≡ codes "0KSas"
  pub net_letters : taken (λ b. is_net_time (timing_kind 82 b)) 256 ≡ codes "123"
  pub clock_letters_of_Z : taken (λ b. is_clock (timing_kind 90 b)) 256 ≡ []
  pub net_letters_of_Z : taken (λ b. is_net_time (timing_kind 90 b)) 256 ≡ []
  -- the orders that need a period of at least 1
  pub periods : taken (λ b. eqb (D.least_period b) 1) 256 ≡ codes "AB"
