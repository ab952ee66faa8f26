-- Worked cases of net times: values on both sides of zero, of a day and at both ends, read and written; minus zero; values that no reply shows.
use Rattle.std.specs.Prelude.{ℕ, List, [], ◌∷◌, map, Bool, true, cond, ◌≡◌, ℤ, pos, negsuc, set, replicate}
use Prim.Native.String.{String}
use Rattle.std.proofs.lemmas.List.Edits.{sets}
use Rattle.digits.specs.Text.{codes}
use Rattle.digits.specs.Refusals.{placed, spoiled_at}
use Rattle.digits.specs.Told.{gives, refuses}
use Rattle.frames.specs.declared.timing.Timing.TheVariants.{Net, Raw}
use Rattle.frames.specs.declared.reply.StaticReply.{StaticReply}
use Rattle.frames.specs.Kind.{read, wrong_in, frame_of, write_tried}
use Rattle.frames.specs.Reply.{reply}
use Rattle.frames.specs.Cases.{is_good, FieldAt}
use Rattle.frames.specs.ReplyCases.{but, tells, tails}

-- time and date of net replies, and their values; `negsuc n` is -1 - n
abbrev pub texts : List String
texts =
    "0000000000+0000000" ∷ "0000000001+0000000" ∷ "0000000001-0000000" ∷ "0000010000+0000000" ∷ "0000010000-0000000"
    ∷ "2359599999+0000000" ∷ "2359599999-0000000" ∷ "0000000000+0000001" ∷ "0000000000-0000001" ∷ "0000000001+0000001" ∷ "0000000001-0000001"
    ∷ "2359590000-0000001" ∷ "0000000000-9999999" ∷ "2359599999+9999999" ∷ "2359599999-9999999" ∷ []

abbrev pub values : List ℤ
values =
    pos 0 ∷ pos 1 ∷ negsuc 0 ∷ pos 10000 ∷ negsuc 9999
    ∷ pos 863999999 ∷ negsuc 863999998 ∷ pos 864000000 ∷ negsuc 863999999 ∷ pos 864000001 ∷ negsuc 864000000
    ∷ negsuc 1727989999 ∷ negsuc 8639999135999999 ∷ pos 8639999999999999 ∷ negsuc 8639999999999998 ∷ []

-- one past each end, and both ends of 64 bits
abbrev pub too_far : List ℤ
too_far = pos 8640000000000000 ∷ negsuc 8639999999999999 ∷ pos 9223372036854775807 ∷ negsuc 9223372036854775807 ∷ []

-- the record of the good net reply, with this value
abbrev pub valued : ℤ → StaticReply
valued v = tails 50 (Net v) (replicate 10 0) (replicate 8 0) (117 ∷ 118 ∷ [])

-- the good net reply with this status, letter, time and date
abbrev pub shown : String → String → String → List ℕ
shown status letter text = sets (sets (but 5 status) 29 (codes letter)) 30 (codes text)

-- the same with each status and letter of a net reply
abbrev pub each_net : String → List (List ℕ)
each_net text = shown "R" "1" text ∷ shown "R" "2" text ∷ shown "R" "3" text ∷ shown "E" "1" text ∷ shown "E" "2" text ∷ shown "E" "3" text ∷ []

-- the numbers of a list that a rule takes
abbrev pub among : (ℕ → Bool) → List ℕ → List ℕ
among rule [] = []
among rule (b ∷ l) = cond (rule b) (b ∷ among rule l) (among rule l)

-- those of these letters with which the good net reply is accepted if it has this status, time and date
abbrev pub letters_with : String → String → String → List ℕ
letters_with letters text status = among (λ b. is_good (read reply (set (shown status "1" text) 29 b))) (codes letters)

pub record NetWorked : Type 0 where
  pub read_as : map (λ t. read reply (but 30 t)) texts ≡ map (λ v. gives (valued v)) values
  pub written_as : map (λ v. frame_of reply (valued v)) values ≡ map (λ t. but 30 t) texts
  pub well_formed : map (λ v. write_tried (wrong_in reply (valued v)) 51 51) values ≡ replicate 15 (gives tt)
  pub too_far_case : map (λ v. write_tried (wrong_in reply (valued v)) 51 51) too_far ≡ replicate 4 (refuses (placed 6 40))
  -- minus zero, and one tick below zero
  pub minus_zero : map (read reply) (each_net "0000000000-0000000") ≡ replicate 6 (refuses (spoiled_at 5 40 40))
  pub minus_tick : map (λ s. is_good (read reply s)) (each_net "0000000001-0000000") ≡ replicate 6 true
  -- in a raw date minus zero is text; a date of the clock has no sign
  pub zero_Z : read reply (shown "Z" "2" "0000000000-0000000") ≡ gives (tells 53 80 109 90 68 12345 23456 78 209 345 167 50 Raw (codes "0000000000") (codes "-0000000") (117 ∷ 118 ∷ []))
  pub zero_raw : read reply (shown "E" "Q" "0000000000-0000000") ≡ gives (tails 81 Raw (codes "0000000000") (codes "-0000000") (117 ∷ 118 ∷ []))
  pub zero_clock : FieldAt reply (shown "E" "K" "0000000000-0000000") 40
  -- of the 41 letters of a request, those that go with minus zero, for each status; of the letters of clock and net, those that go with one second below zero, and with a date
  pub letters_zero : map (letters_with "*0123456789AGHIJKLPQRSTWXabcdghijklpqstuw" "0000000000-0000000") ("R" ∷ "E" ∷ "Z" ∷ [])
      ≡ codes "456789AGHIJPQRTWXghijkpuw" ∷ codes "456789AGHIJPQRTWXghijkpuw" ∷ codes "0123456789AGHIJKPQRSTWXaghijkpsuw" ∷ []
  pub letters_below : map (letters_with "0123KSas" "0000010000-0000000") ("R" ∷ "E" ∷ "Z" ∷ []) ≡ codes "123" ∷ codes "123" ∷ codes "0123KSas" ∷ []
  pub letters_dated : map (letters_with "0123KSas" "000001000029022024") ("R" ∷ "E" ∷ "Z" ∷ []) ≡ codes "0KSas" ∷ codes "0KSas" ∷ codes "0123KSas" ∷ []
