-- The static request: its layout is sound, so what is demanded of reading and writing holds. Assumes nothing.
use Prim.Native.Nat.{ℕ, ◌≤◌}
use mathlib.Core.List.{List, [], ◌∷◌, append_assoc}
use mathlib.Core.Bool.{true}
use mathlib.Core.Path.{◌≡◌, refl, sym}
use native.Mathlib.Omega.{arith}
use lib.Dec.{eqb}
use lib.ListN.{length, set}
use lib.Seq.{sets}
use Rattle.digits.specs.Text.{one_of}
use Rattle.digits.specs.Digits.{digits}
use Rattle.digits.specs.Refusals.{FIELD}
use Rattle.digits.specs.Told.{gives, tried}
use Rattle.digits.proofs.Writing.{sets_append, length_digits}
use Rattle.frames.specs.declared.request.StaticRequest.{StaticRequest}
use Rattle.frames.specs.Rules.{between, up_to, is_address, is_requester, is_output}
use Rattle.frames.specs.Classes.{digit_from}
use Rattle.frames.specs.Layout.{record_wrong, write}
use Rattle.frames.specs.Kind.{letter_r, CR, head_told, read, wrong_in, frame_of}
use Rattle.frames.specs.Faithful.{Faithful}
use Rattle.frames.specs.Request.{is_information, is_request_channel, request_fields, request}
use Rattle.frames.specs.inside.Held.{request_at}
use Rattle.frames.specs.inside.Spoiled.{in_class, looked_in, request_byte}
use Rattle.frames.proofs.RuleLaws.{up_to_law, or_one, to_240}
use Rattle.frames.proofs.LayoutLaws.{unless_none, Sound, end_sound, letter_sound, number_sound, Sees, sees_end}
use Rattle.frames.proofs.ShownLaws.{number_shows, to_shows, least}
use Rattle.frames.proofs.SeesLaws.{sees_letter, sees_number}
use Rattle.frames.proofs.KindLaws.{SoundKind, faithful, frame_again, length_frame, read_fields}

channel_bound : (v : ℕ) → is_request_channel v ≡ true → v ≤ 255
unfolding is_request_channel
channel_bound v = or_one v _ 255 tt (or_one v _ 255 tt (or_one v _ 255 tt (or_one v _ 255 tt (to_240 v))))

sound : Sound (λ _. Unit {0}) request_fields (λ _. Unit {0}) (Unit {0}) 21
unfolding request_fields is_address is_requester is_information is_request_channel is_output one_of between up_to digit_from digits
sound =
    letter_sound 32 refl tt λ _ _.
    letter_sound 65 refl tt λ _ _.
    number_sound 3 999 tt (up_to_law _) (to_shows 2 9 999 refl) λ _ _.
    number_sound 5 59999 tt (up_to_law _) (to_shows 4 5 59999 refl) λ _ _.
    letter_sound 80 refl tt λ _ _.
    number_sound 3 255 tt channel_bound (number_shows 2 2 255 is_request_channel (least 2) channel_bound (λ v q. q) refl) λ _ _.
    number_sound 3 250 tt (up_to_law _) (to_shows 2 2 250 refl) λ _ _.
    number_sound 3 199 tt (up_to_law _) (to_shows 2 1 199 refl) λ _ _.
    letter_sound 83 refl tt λ _ _.
    end_sound (((((((((tt, refl), refl), refl), refl), refl), refl), refl), refl), refl)
    (λ _. tt)
    (λ r _ h i. record {
      address = sym h.0.0.0.0.0.0.0.0.1 i;
      requester = sym h.0.0.0.0.0.0.0.1 i;
      number = sym h.0.0.0.0.0.0.1 i;
      bib = sym h.0.0.0.0.0.1 i;
      information = sym h.0.0.0.0.1 i;
      channel = sym h.0.0.0.1 i;
      run = sym h.0.0.1 i;
      group = sym h.0.1 i;
      output = sym h.1 i;
    })

pub request_sound : SoundKind request (λ _. Unit {0})
unfolding request_fields frame_of write wrong_in record_wrong
request_sound = record { bytes = 21; sound = sound; size = refl; some = omega arith; address = λ r e. (unless_none _ 2 _ (omega arith) e).0 }

-- what is demanded of reading and writing holds of the static request
pub request_faithful : Faithful request (λ _. Unit {0})
request_faithful = faithful request_sound

-- a record that was read is well formed
pub request_fine : (s : List ℕ) (r : StaticRequest) → read request s ≡ gives r → wrong_in request r ≡ 0
request_fine s r e = (frame_again request_sound s r e).fine

pub length_request : (r : StaticRequest) → wrong_in request r ≡ 0 → length (frame_of request r) ≡ 24
length_request r = length_frame request_sound r

-- the code's values and its first wrong offset are those of the layout
pub sees_request : (s : List ℕ) → Sees request_fields 2 s (request_byte s) (wrong_in request (request_at s)) (request_at s)
unfolding request_fields wrong_in record_wrong up_to is_request_channel looked_in in_class digit_from
sees_request s =
    sees_letter tt refl λ _.
    sees_letter tt refl λ _.
    sees_number 3 tt refl refl λ _.
    sees_number 5 tt refl refl λ _.
    sees_letter tt refl λ _.
    sees_number 3 tt refl refl λ _.
    sees_number 3 tt refl refl λ _.
    sees_number 3 tt refl refl λ _.
    sees_letter tt refl λ _.
    sees_end refl

-- the stores of a record, one after the other, are a single run
pub stores_frame : (r : StaticRequest) (l : List ℕ) →
    set (set (sets (sets (sets (set (sets (sets (set (sets l 0 (17 ∷ letter_r ∷ r.address ∷ [])) 3 r.requester) 4 (digits 3 r.number)) 7 (digits 5 r.bib)) 12 r.information) 13 (digits 3 r.channel))
    16 (digits 3 r.run)) 19 (digits 3 r.group)) 22 r.output) 23 CR
    ≡ sets l 0 (frame_of request r)
unfolding request_fields write frame_of
stores_frame r l = simp (append_assoc, sets_append, length_digits)

-- a frame that passed the tests of the head is read as its fields say
pub request_reads : (s : List ℕ) → gives tt ≡ head_told 17 24 s
    → tried (eqb (wrong_in request (request_at s)) 0) (FIELD (wrong_in request (request_at s)) (request_byte s (wrong_in request (request_at s)))) (gives (request_at s)) ≡ read request s
request_reads s good = read_fields request s (request_byte s) (wrong_in request (request_at s)) (request_at s) (λ _. sees_request s) good
