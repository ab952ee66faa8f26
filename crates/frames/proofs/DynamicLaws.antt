-- The dynamic request: its layout is sound, so what is demanded of reading and writing holds. Assumes nothing.
use Prim.Native.Nat.{ℕ, ◌≤◌}
use mathlib.Core.List.{List, [], ◌∷◌, append_assoc}
use mathlib.Core.Bool.{Bool, true, false, cond}
use mathlib.Core.Path.{◌≡◌, refl, sym}
use native.Mathlib.Omega.{arith}
use lib.Dec.{eqb}
use lib.ListN.{length, get_or, set}
use lib.Seq.{sets}
use Rattle.digits.specs.Refusals.{FIELD}
use Rattle.digits.specs.Told.{gives, tried}
use Rattle.digits.specs.Text.{codes, one_of}
use Rattle.digits.specs.Digits.{digits}
use Rattle.digits.proofs.Writing.{sets_append, length_digits}
use Rattle.times.specs.Clock.{clock}
use Rattle.frames.specs.declared.dynamic.DynamicRequest.{DynamicRequest}
use Rattle.frames.specs.Rules.{between, up_to, is_address, is_requester, is_output}
use Rattle.frames.specs.Classes.{digit_from}
use Rattle.frames.specs.Field.{number_by}
use Rattle.frames.specs.Layout.{record_wrong, write}
use Rattle.frames.specs.Kind.{letter_r, CR, head_told, read, wrong_in, frame_of}
use Rattle.frames.specs.Faithful.{Faithful}
use Rattle.frames.specs.Dynamic.{is_order, is_dynamic_channel, least_period, dynamic_fields, dynamic}
use Rattle.frames.specs.inside.Held.{dynamic_at}
use Rattle.frames.specs.inside.Spoiled.{in_class, looked_in, dynamic_byte}
use Rattle.frames.proofs.RuleLaws.{up_to_law, in_range_law, none_in_range, or_one, to_240}
use Rattle.frames.proofs.LayoutLaws.{unless_none, Sound, end_sound, letter_sound, number_sound, time_sound, Sees, sees_end}
use Rattle.frames.proofs.ShownLaws.{Shows, number_shows, to_shows, from_one, least, least_positive}
use Rattle.frames.proofs.SeesLaws.{sees_letter, sees_number, sees_digit, sees_time}
use Rattle.frames.proofs.KindLaws.{SoundKind, faithful, length_frame, read_fields}

channel_bound : (v : ℕ) → is_dynamic_channel v ≡ true → v ≤ 255
unfolding is_dynamic_channel
channel_bound v = or_one v _ 255 tt (or_one v _ 255 tt (to_240 v))

channel_shows : Shows (number_by 3 2 is_dynamic_channel) (λ _. Unit {0})
unfolding is_dynamic_channel digit_from between digits
channel_shows = number_shows 2 2 255 is_dynamic_channel (least 2) channel_bound (λ v q. q) refl

-- a period from 1 on is good with each order
least_one : (order : ℕ) → least_period order ≤ 1
unfolding least_period
least_one order = go (one_of (codes "AB") order)
  where
    go : (t : Bool) → cond t 1 0 ≤ 1
    go true = omega arith
    go false = omega arith

sound : Sound (λ _. Unit {0}) dynamic_fields (λ _. Unit {0}) (Unit {0}) 43
unfolding dynamic_fields is_address is_requester is_order is_dynamic_channel is_output one_of between up_to digit_from digits
sound =
    letter_sound 32 refl tt λ _ _.
    letter_sound 65 refl tt λ _ _.
    letter_sound 65 refl tt λ order _.
    number_sound 5 60000 tt (up_to_law _) (to_shows 4 6 60000 refl) λ _ _.
    number_sound 3 255 tt channel_bound channel_shows λ _ _.
    number_sound 3 250 tt (up_to_law _) (to_shows 2 2 250 refl) λ _ _.
    number_sound 5 60000 tt (in_range_law 1 60000) (number_shows 4 6 60000 (between 1 60000) (least_positive 4) (in_range_law 1 60000) (λ v q. q) refl) λ _ _.
    number_sound 3 255 tt channel_bound channel_shows λ _ _.
    number_sound 3 250 tt (up_to_law _) (to_shows 2 2 250 refl) λ _ _.
    number_sound 1 1 tt (up_to_law _) (to_shows 0 1 1 refl) λ _ _.
    time_sound tt λ _ _.
    number_sound 1 9 tt (up_to_law _) (to_shows 0 9 9 refl) λ _ _.
    number_sound 5 99999 tt (in_range_law (least_period order) 99999)
    (number_shows 4 9 99999 (between 1 99999) (least_positive 4) (in_range_law (least_period order) 99999) (from_one (least_period order) 99999 (least_one order)) refl) λ _ _.
    letter_sound 83 refl tt λ _ _.
    end_sound ((((((((((((((tt, refl), refl), refl), refl), refl), refl), refl), refl), refl), refl), refl), refl), refl), refl)
    (λ _. tt)
    (λ r _ h i. record {
      address = sym h.0.0.0.0.0.0.0.0.0.0.0.0.0.1 i;
      requester = sym h.0.0.0.0.0.0.0.0.0.0.0.0.1 i;
      order = sym h.0.0.0.0.0.0.0.0.0.0.0.1 i;
      bib = sym h.0.0.0.0.0.0.0.0.0.0.1 i;
      channel = sym h.0.0.0.0.0.0.0.0.0.1 i;
      run = sym h.0.0.0.0.0.0.0.0.1 i;
      stop_bib = sym h.0.0.0.0.0.0.0.1 i;
      stop_channel = sym h.0.0.0.0.0.0.1 i;
      stop_run = sym h.0.0.0.0.0.1 i;
      sign = sym h.0.0.0.0.1 i;
      time = sym h.0.0.0.1 i;
      days = sym h.0.0.1 i;
      period = sym h.0.1 i;
      output = sym h.1 i;
    })

pub dynamic_sound : SoundKind dynamic (λ _. Unit {0})
unfolding dynamic_fields frame_of write wrong_in record_wrong
dynamic_sound = record { bytes = 43; sound = sound; size = refl; some = omega arith; address = λ r e. (unless_none _ 2 _ (omega arith) e).0 }

-- what is demanded of reading and writing holds of the dynamic request
pub dynamic_faithful : Faithful dynamic (λ _. Unit {0})
dynamic_faithful = faithful dynamic_sound

pub length_dynamic : (r : DynamicRequest) → wrong_in dynamic r ≡ 0 → length (frame_of dynamic r) ≡ 46
length_dynamic r = length_frame dynamic_sound r

-- the code's values and its first wrong offset are those of the layout
pub sees_dynamic : (s : List ℕ) → Sees dynamic_fields 2 s (dynamic_byte s) (wrong_in dynamic (dynamic_at s)) (dynamic_at s)
unfolding dynamic_fields wrong_in record_wrong up_to between is_dynamic_channel looked_in in_class digit_from
sees_dynamic s =
    sees_letter tt refl λ _.
    sees_letter tt refl λ _.
    sees_letter tt refl λ _.
    sees_number 5 tt refl refl λ _.
    sees_number 3 tt refl refl λ _.
    sees_number 3 tt refl refl λ _.
    sees_number 5 tt refl refl λ _.
    sees_number 3 tt refl refl λ _.
    sees_number 3 tt refl refl λ _.
    sees_digit tt refl refl λ _.
    sees_time tt refl λ _.
    sees_digit tt refl refl λ _.
    sees_number 5 tt (none_in_range (least_period (get_or s 4 0)) 99999 (omega arith)) refl λ _.
    sees_letter tt refl λ _.
    sees_end refl

-- the stores of a record, one after the other, are a single run
pub stores_frame : (r : DynamicRequest) (l : List ℕ) →
    set (set (sets (sets (sets (sets (sets (sets (sets (sets (sets (sets (set (set (sets l 0 (19 ∷ letter_r ∷ r.address ∷ [])) 3 r.requester) 4 r.order) 5 (digits 5 r.bib)) 10 (digits 3 r.channel)) 13 (digits 3 r.run))
    16 (digits 5 r.stop_bib)) 21 (digits 3 r.stop_channel)) 24 (digits 3 r.stop_run)) 27 (digits 1 r.sign)) 28 (clock.put r.time)) 38 (digits 1 r.days)) 39 (digits 5 r.period)) 44 r.output) 45 CR
    ≡ sets l 0 (frame_of dynamic r)
unfolding dynamic_fields write frame_of
stores_frame r l = simp (append_assoc, sets_append, length_digits)

-- a frame that passed the tests of the head is read as its fields say
pub dynamic_reads : (s : List ℕ) → gives tt ≡ head_told 19 46 s
    → tried (eqb (wrong_in dynamic (dynamic_at s)) 0) (FIELD (wrong_in dynamic (dynamic_at s)) (dynamic_byte s (wrong_in dynamic (dynamic_at s)))) (gives (dynamic_at s)) ≡ read dynamic s
dynamic_reads s good = read_fields dynamic s (dynamic_byte s) (wrong_in dynamic (dynamic_at s)) (dynamic_at s) (λ _. sees_dynamic s) good
