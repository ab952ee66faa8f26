-- The desk's calls refuse only with refusals of the table. Assumes nothing.
use Prim.Native.Nat.{ℕ}
use mathlib.Core.List.{List}
use mathlib.Core.Bool.{Bool, true, false, cond, not}
use mathlib.Core.Path.{refl}
use lib.Dec.{eqb, ltb, leb}
use Rattle.digits.specs.Refusals.{DESK, NO_ANSWER_DUE, IN_USE, NO_SEAT, STRAY, ENDED, OUT_OF_PLACE, FULL}
use Rattle.digits.specs.Told.{Told, gives, refuses, Sure}
use Rattle.digits.proofs.Sure.{sure_refuses, sure_gives, sure_tried}
use Rattle.frames.specs.Request.{request}
use Rattle.frames.specs.Reply.{reply, label_of, labelled}
use Rattle.frames.specs.Kind.{read}
use Rattle.frames.specs.declared.request.StaticRequest.{StaticRequest}
use Rattle.frames.specs.declared.reply.StaticReply.{StaticReply}
use Rattle.frames.specs.declared.reply.ReplyLabel.{ReplyLabel}
use Rattle.frames.proofs.Places.{sure_request as sure-request-read, sure_reply as sure-reply-read}
use Rattle.desk.specs.declared.state.Seat.{Seat}
use Rattle.desk.specs.declared.key.Key.{Key}
use Rattle.desk.specs.declared.reply.Taking.{Taking}
use Rattle.desk.specs.declared.step.Progress.{Progress}
use Rattle.desk.specs.Limits.{seat_count}
use Rattle.desk.specs.Key.{request_key, key_in}
use Rattle.desk.specs.Seats.{seat_with, lowest_clear}
use Rattle.desk.specs.Hearing.{heard, in_place}
use Rattle.desk.specs.Step.{progress_of, advanced, step}
use Rattle.desk.specs.Memory.{Memory, capacity}
use Rattle.desk.specs.Desk.{is_desk, all_seats}
use Rattle.desk.specs.Calls.{Outcome, outcome, what_is_given, letter_q, key_tried, request_tried, open_tried, opens, opened, seat_tried, label_tried, reply_tried, replies, taken, emptied, resets}

module _ {A B : Type 0} where
  sure_given : (t : Told A) (further : A → Told B) → Sure t → ((a : A) → Sure (further a)) → Sure (what_is_given t further)
  sure_given (gives a) further s f = f a
  sure_given (refuses why) further s f = sure_refuses why (s why refl)

sure_labelled : (t : Told StaticReply) → Sure t → Sure (labelled t)
sure_labelled (gives r) s = sure_gives (label_of r)
sure_labelled (refuses why) s = sure_refuses why (s why refl)

sure_outcome : {A : Type 0} (m : Memory) (seat : A → ℕ) (after : A → Memory) (t : Told A) → Sure t → Sure (outcome m seat after t).answer
sure_outcome m seat after (gives a) s = sure_gives (seat a)
sure_outcome m seat after (refuses why) s = sure_refuses why (s why refl)

sure_key : (row : List Seat) (bits : ℕ) (k : Key) → Sure (key_tried row bits k)
unfolding key_tried
sure_key row bits k =
    sure_tried (leb seat_count (seat_with row bits k)) IN_USE _ (λ _. refl)
    (sure_tried (ltb (lowest_clear bits) seat_count) NO_SEAT _ (λ _. refl)
    (sure_gives (record { seat = lowest_clear bits; key = k })))

sure_request : (row : List Seat) (bits : ℕ) (r : StaticRequest) → Sure (request_tried row bits r)
unfolding request_tried
sure_request row bits r = sure_tried (not (eqb r.information letter_q)) NO_ANSWER_DUE _ (λ _. refl) (sure_key row bits (request_key r))

sure_step : (p : Progress) (free : Bool) (status : ℕ) → Sure (step p free status)
unfolding step
sure_step p free status =
    sure_tried (eqb p.ended 0) ENDED _ (λ _. refl)
    (sure_tried (in_place p.held status) OUT_OF_PLACE _ (λ _. refl)
    (sure_tried free FULL _ (λ _. refl)
    (sure_gives (advanced p status))))

sure_seat : (s : Seat) (free : Bool) (t : Taking) → Sure (seat_tried s free t)
unfolding seat_tried
sure_seat s free t = sure_given (step (progress_of s) free t.status) _ (sure_step (progress_of s) free t.status) (λ p. sure_gives t)

sure_label : (row : List Seat) (bits : ℕ) (free : Bool) (c : ReplyLabel) → Sure (label_tried row bits free c)
unfolding label_tried
sure_label row bits free c = sure_tried (ltb (seat_with row bits (key_in c)) seat_count) STRAY _ (λ _. refl) (sure_seat _ free _)

pub sure_opens : (m : Memory) (f : List ℕ) → Sure (opens m f).answer
unfolding opens open_tried
sure_opens m f =
    sure_outcome m _ (opened m) (open_tried m f)
    (sure_tried (is_desk m) DESK _ (λ _. refl) (sure_given (read request f) (request_tried m.row m.bits) (sure-request-read f) (sure_request m.row m.bits)))

pub sure_replies : (m : Memory) (f : List ℕ) → Sure (replies m f).answer
unfolding replies reply_tried heard
sure_replies m f =
    let free = ltb m.count (capacity m) in
    sure_outcome m _ (taken m f) (reply_tried m f)
    (sure_tried (is_desk m) DESK _ (λ _. refl) (sure_given (heard f) (label_tried m.row m.bits free) (sure_labelled (read reply f) (sure-reply-read f)) (sure_label m.row m.bits free)))

sure_reset : (b : Bool) (m : Memory) → Sure (cond {A = Outcome} b (record { answer = gives 0; after = emptied m }) (record { answer = refuses DESK; after = m })).answer
sure_reset true m = sure_gives 0
sure_reset false m = sure_refuses DESK refl

pub sure_resets : (m : Memory) → Sure (resets m).answer
unfolding resets
sure_resets m = sure_reset (all_seats m) m
