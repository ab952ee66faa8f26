-- Only one outcome meets the promise of an opening, of a reply or of a capture. Assumes nothing.
use Prim.Native.Nat.{ℕ}
use Rattle.std.specs.Prelude.{Result, Ok, Err}
use mathlib.Core.List.{List}
use mathlib.Core.Bool.{Bool, cond}
use mathlib.Core.Path.{◌≡◌, refl, sym, ap, ◌∙◌}
use lib.Dec.{eqb}
use Rattle.digits.specs.declared.refusal.Refusal.{Refusal}
use Rattle.digits.specs.Refusals.{DESK, NO_ANSWER_DUE, IN_USE, NO_SEAT, STRAY, ENDED, OUT_OF_PLACE, FULL}
use Rattle.digits.specs.Told.{Told, gives, refuses}
use Rattle.frames.specs.declared.refusals.ReadRefusal.TheVariants.{Kind, Length, End, Address, Field}
use Rattle.frames.proofs.RefusalLaws.{read_back}
use Rattle.std.proofs.Common.{Result, Ok, Err}
use Rattle.desk.specs.declared.tally.LookRefusal.{LookRefusal}
use Rattle.desk.specs.declared.tally.LookRefusal.TheVariants.{NoSuch}
use Rattle.desk.specs.Tally.{Table, look_told, LookAs}
use Rattle.desk.specs.declared.state.Emptied.{Emptied}
use Rattle.desk.specs.declared.done.Done.{Done}
use Rattle.desk.specs.declared.done.Step.{Step}
use Rattle.desk.specs.declared.opening.OpenRefusal.TheVariants.{Desk as open-no-desk, Frame as open-frame, NoAnswerDue, InUse, NoSeat}
use Rattle.desk.specs.declared.opening.OpenRefusal.{OpenRefusal}
use Rattle.desk.specs.declared.reply.ReplyRefusal.TheVariants.{Desk as no_desk_case, Frame, Stray, Ended, OutOfPlace, Full}
use Rattle.desk.specs.declared.reply.ReplyRefusal.{ReplyRefusal}
use Rattle.desk.specs.declared.capture.Counts.{Counts}
use Rattle.desk.specs.declared.capture.CaptureRefusal.{CaptureRefusal}
use Rattle.desk.specs.declared.capture.CaptureRefusal.TheVariants.{Desk as capture-no-desk}
use Rattle.desk.specs.Memory.{Memory, memory}
use Rattle.desk.specs.Capture.{capture_told, TookCapture}
use Rattle.desk.specs.Calls.{ResetDid, open_told, reply_told, OpenDid, ReplyDid, OpenStepDid, ReplyStepDid}
use Rattle.desk.specs.Unique.{OneOutcome}

-- ---- an answer can be recovered from what it means: no two refusals have the same number and offset

abbrev same_number_law : Refusal → Refusal → Bool
same_number_law f g = eqb f.number g.number

abbrev open_back : Told ℕ → Result ℕ OpenRefusal
open_back (gives s) = Ok s
open_back (refuses f) =
    Err (cond (same_number_law f DESK) open-no-desk (cond (same_number_law f NO_ANSWER_DUE) NoAnswerDue (cond (same_number_law f IN_USE) InUse
    (cond (same_number_law f NO_SEAT) NoSeat (open-frame (read_back f))))))

open_back_law : (a : Result ℕ OpenRefusal) → open_back (open_told a) ≡ a
open_back_law (Ok s) = refl
open_back_law (Err open-no-desk) = refl
open_back_law (Err (open-frame Kind)) = refl
open_back_law (Err (open-frame Length)) = refl
open_back_law (Err (open-frame End)) = refl
open_back_law (Err (open-frame Address)) = refl
open_back_law (Err (open-frame (Field p))) = refl
open_back_law (Err NoAnswerDue) = refl
open_back_law (Err InUse) = refl
open_back_law (Err NoSeat) = refl

abbrev reply_back : Told ℕ → Result ℕ ReplyRefusal
reply_back (gives s) = Ok s
reply_back (refuses f) =
    Err (cond (same_number_law f DESK) no_desk_case (cond (same_number_law f STRAY) Stray (cond (same_number_law f ENDED) Ended
    (cond (same_number_law f OUT_OF_PLACE) OutOfPlace (cond (same_number_law f FULL) Full (Frame (read_back f)))))))

reply_back_law : (a : Result ℕ ReplyRefusal) → reply_back (reply_told a) ≡ a
reply_back_law (Ok s) = refl
reply_back_law (Err no_desk_case) = refl
reply_back_law (Err (Frame Kind)) = refl
reply_back_law (Err (Frame Length)) = refl
reply_back_law (Err (Frame End)) = refl
reply_back_law (Err (Frame Address)) = refl
reply_back_law (Err (Frame (Field p))) = refl
reply_back_law (Err Stray) = refl
reply_back_law (Err Ended) = refl
reply_back_law (Err OutOfPlace) = refl
reply_back_law (Err Full) = refl

abbrev capture_back : Told Counts → Result Counts CaptureRefusal
capture_back (gives c) = Ok c
capture_back (refuses f) = Err capture-no-desk

capture_back_law : (a : Result Counts CaptureRefusal) → capture_back (capture_told a) ≡ a
capture_back_law (Ok c) = refl
capture_back_law (Err capture-no-desk) = refl

-- ---- the outcomes

abbrev look_back : Told ℕ → Result ℕ LookRefusal
look_back (gives n) = Ok n
look_back (refuses f) = Err NoSuch

look_back_law : (a : Result ℕ LookRefusal) → look_back (look_told a) ≡ a
look_back_law (Ok n) = refl
look_back_law (Err NoSuch) = refl

one_look : (t : Table) (letter status : ℕ) (a b : Result ℕ LookRefusal) → LookAs t letter status a → LookAs t letter status b → a ≡ b
one_look t letter status a b d e = sym (look_back_law a) ∙ ap look_back (d ∙ sym e) ∙ look_back_law b

one_reset : (o p : Emptied × List (List ℕ)) → ResetDid o.0 o.1 → ResetDid p.0 p.1 → o ≡ p
one_reset o p d e = let a = d.empty ∙ sym e.empty in let b = d.zero ∙ sym e.zero in λ i. (a i, b i)

module _ (m : Memory) (f : List ℕ) where
  one_opening : (r q : Done (Result ℕ OpenRefusal)) → OpenDid m f r → OpenDid m f q → r ≡ q
  one_opening r q d e =
      let a = sym (open_back_law r.answer) ∙ ap open_back (d.answer ∙ sym e.answer) ∙ open_back_law q.answer in
      let n = d.memory ∙ sym e.memory in
      λ i. record { answer = a i; desk = record { bits = (n i).bits; count = (n i).count }; row = (n i).row }

  one_reply : (o p : Done (Result ℕ ReplyRefusal) × (List ℕ × (List ℕ × List (List ℕ)))) → ReplyDid m f o.0 o.1.0 o.1.1.0 o.1.1.1 → ReplyDid m f p.0 p.1.0 p.1.1.0 p.1.1.1 → o ≡ p
  one_reply o p d e =
      let a = sym (reply_back_law o.0.answer) ∙ ap reply_back (d.answer ∙ sym e.answer) ∙ reply_back_law p.0.answer in
      let n = d.memory ∙ sym e.memory in
      λ i. (record { answer = a i; desk = record { bits = (n i).bits; count = (n i).count }; row = (n i).row }, ((n i).cells, ((n i).marks, (n i).tally)))

  one_capture : (o p : Done (Result Counts CaptureRefusal) × (List ℕ × (List ℕ × List (List ℕ))))
      → TookCapture m f o.0.answer (memory o.0.desk o.0.row o.1.0 o.1.1.0 o.1.1.1) → TookCapture m f p.0.answer (memory p.0.desk p.0.row p.1.0 p.1.1.0 p.1.1.1) → o ≡ p
  one_capture o p d e =
      let a = sym (capture_back_law o.0.answer) ∙ ap capture_back (d.told ∙ sym e.told) ∙ capture_back_law p.0.answer in
      let n = d.memory ∙ sym e.memory in
      λ i. (record { answer = a i; desk = record { bits = (n i).bits; count = (n i).count }; row = (n i).row }, ((n i).cells, ((n i).marks, (n i).tally)))

module _ (m : Memory) (f : List ℕ) where
  one_open_step : (r q : Step (Result ℕ OpenRefusal)) → OpenStepDid m f r → OpenStepDid m f q → r ≡ q
  one_open_step r q d e =
      let a = sym (open_back_law r.answer) ∙ ap open_back (d.1.answer ∙ sym e.1.answer) ∙ open_back_law q.answer in
      let n = d.1.memory ∙ sym e.1.memory in
      let s = d.0.is ∙ sym e.0.is in
      λ i. record { answer = a i; desk = record { bits = (n i).bits; count = (n i).count }; changed = s i }

  one_reply_step : (o p : Step (Result ℕ ReplyRefusal) × (List ℕ × (List ℕ × List (List ℕ)))) → ReplyStepDid m f o.0 o.1.0 o.1.1.0 o.1.1.1 → ReplyStepDid m f p.0 p.1.0 p.1.1.0 p.1.1.1 → o ≡ p
  one_reply_step o p d e =
      let a = sym (reply_back_law o.0.answer) ∙ ap reply_back (d.1.answer ∙ sym e.1.answer) ∙ reply_back_law p.0.answer in
      let n = d.1.memory ∙ sym e.1.memory in
      let s = d.0.is ∙ sym e.0.is in
      λ i. (record { answer = a i; desk = record { bits = (n i).bits; count = (n i).count }; changed = s i }, ((n i).cells, ((n i).marks, (n i).tally)))

pub one_outcome : OneOutcome
one_outcome = record { look = one_look; reset = one_reset; «open» = one_opening; reply = one_reply; open_step = one_open_step; reply_step = one_reply_step; take_capture = one_capture }
