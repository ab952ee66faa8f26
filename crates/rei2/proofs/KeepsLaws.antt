-- A refused call changes nothing. Assumes nothing.
use Prim.Native.Nat.{ℕ, suc}
use mathlib.Core.List.{List, [], ◌∷◌, ◌++◌}
use mathlib.Core.Path.{◌≡◌, refl, ap, ◌∙◌}
use lib.ListN.{length}
use Rattle.digits.specs.declared.refusal.Refusal.{Refusal}
use Rattle.digits.specs.Told.{Told, gives, refuses}
use Rattle.digits.proofs.Tests.{by-test}
use Rattle.frames.specs.Kind.{wrong_in, frame_of, write_tried, output_after}
use Rattle.frames.specs.Reply.{reply}
use Rattle.desk.specs.declared.state.Seat.{Seat}
use Rattle.desk.specs.Memory.{Memory, memory}
use Rattle.desk.specs.Calls.{Outcome, resets, opens, replies}
use Rattle.desk.specs.Capture.{captures}
use Rattle.desk.proofs.KeepsLaws as D
use Rattle.listing.specs.Listing.{fits, listed, out_after, cells_after, marks_after}
use Rattle.rei2.specs.declared.lent.DeskAnswer.{DeskAnswer}
use Rattle.rei2.specs.declared.lent.CapturedAnswer.{CapturedAnswer}
use Rattle.rei2.specs.declared.request.WrittenAnswer.{WrittenAnswer}
use Rattle.rei2.specs.declared.listed.ListedAnswer.{ListedAnswer}
use Rattle.rei2.specs.Numbers.{number_in}
use Rattle.rei2.specs.Lent.{state_in, Lent, LentCall}
use Rattle.rei2.specs.Reply.{record_of, tried_in_c}
use Rattle.rei2.specs.Names.{name_tried}
use Rattle.rei2.specs.Keeps.{Refusing, RefusedKeeps}

-- an answer with a refusal's number is a refusal
is_refusal_law : {A B : Type 0} (t : Told A) → Refusing (number_in t) → ((f : Refusal) → t ≡ refuses f → B) → B
is_refusal_law (gives a) n k = absurd (n refl)
is_refusal_law (refuses f) n k = k f refl

-- ---- the desk's calls

module _ (m : Memory) where
  reset_kept : Refusing (number_in (resets m).answer) → (resets m).after ≡ m
  reset_kept n = is_refusal_law (resets m).answer n ((D.refused_keeps).reset m)

  opening_kept : (f : List ℕ) → Refusing (number_in (opens m f).answer) → (opens m f).after ≡ m
  opening_kept f n = is_refusal_law (opens m f).answer n ((D.refused_keeps).opening m f)

  reply_kept : (f : List ℕ) → Refusing (number_in (replies m f).answer) → (replies m f).after ≡ m
  reply_kept f n = is_refusal_law (replies m f).answer n ((D.refused_keeps).reply m f)

  capture_kept : (s : List ℕ) → Refusing (number_in (captures m s).answer) → (captures m s).after ≡ m
  capture_kept s n = is_refusal_law (captures m s).answer n ((D.refused_keeps).capture m s)

-- if the memory is as it was, so is all that is lent
lent_kept : {A : Type 0} {says r : A} {after : Memory} {seats : List Seat} {cells marks : List ℕ} {tally : List (List ℕ)} (m : Memory) → Lent says after r seats cells marks tally → after ≡ m
    → (seats ≡ m.row) × ((cells ≡ m.cells) × ((marks ≡ m.marks) × (tally ≡ m.tally)))
lent_kept m h e =
    (h.seats ∙ ap (λ (x : Memory). x.row) e, (h.cells ∙ ap (λ (x : Memory). x.cells) e, (h.marks ∙ ap (λ (x : Memory). x.marks) e, h.tally ∙ ap (λ (x : Memory). x.tally) e)))

call_kept : (o : Outcome) (m : Memory) → (Refusing (number_in o.answer) → o.after ≡ m)
    → (r : DeskAnswer) (seats : List Seat) (cells marks : List ℕ) (tally : List (List ℕ)) → LentCall o r seats cells marks tally → Refusing r.refusal
    → (r.desk ≡ state_in m) × ((seats ≡ m.row) × ((cells ≡ m.cells) × ((marks ≡ m.marks) × (tally ≡ m.tally))))
call_kept o m keeps r seats cells marks tally h n =
    let e : o.after ≡ m = keeps (λ z. n (ap (λ (x : DeskAnswer). x.refusal) h.answer ∙ z)) in
    (ap (λ (x : DeskAnswer). x.desk) h.answer ∙ ap state_in e, lent_kept m h e)

-- ---- outputs

output_kept : (t : Told (Unit {0})) (frame : List ℕ) (size : ℕ) (out : List ℕ) → Refusing (number_in t) → output_after t frame size out ≡ out
output_kept (gives a) frame size out n = absurd (n refl)
output_kept (refuses f) frame size out n = refl

module _ (cells marks s out : List ℕ) where
  list_kept : Refusing (number_in (listed cells marks s out)) → (cells_after cells marks s out ≡ cells) × ((marks_after cells marks s out ≡ marks) × (out_after cells marks s out ≡ out))
  list_kept n = by-test (fits cells marks s out) (λ b. absurd (n (rw b))) (λ b. rw b (refl, (refl, refl)))

pub refused_keeps : RefusedKeeps
refused_keeps = record {
  reset = λ seats desk tally r seats' tally' h n.
      let m = memory desk seats [] [] tally in
      let k = call_kept (resets m) m (reset_kept m) r seats' [] [] tally' (h [] []) n in (k.0, (k.1.0, k.1.1.1.1));
  opening = λ seats desk cells marks tally frame r seats' h n.
      let m = memory desk seats cells marks tally in
      let k = call_kept (opens m frame) m (opening_kept m frame) r seats' cells marks tally h n in (k.0, k.1.0);
  reply = λ seats desk cells marks tally frame.
      let m = memory desk seats cells marks tally in
      call_kept (replies m frame) m (reply_kept m frame);
  capture = λ seats desk cells marks tally capture r seats' cells' marks' tally' h n.
      let m = memory desk seats cells marks tally in
      let e : (captures m capture).after ≡ m = capture_kept m capture (λ z. n (ap (λ (x : CapturedAnswer). x.refusal) h.answer ∙ z)) in
      (ap (λ (x : CapturedAnswer). x.desk) h.answer ∙ ap state_in e, lent_kept m h e);
  writing = λ k r out answer out' h n.
      h.bytes ∙ output_kept (write_tried (wrong_in k r) k.size (length out)) (frame_of k r) k.size out (λ z. n (ap (λ (x : WrittenAnswer). x.refusal) h.told ∙ z));
  writing_reply = λ c out answer out' h n.
      h.bytes ∙ output_kept (tried_in_c c out) (frame_of reply (record_of c)) 51 out (λ z. n (ap (λ (x : WrittenAnswer). x.refusal) h.told ∙ z));
  naming = λ name out answer out' h n.
      h.bytes ∙ output_kept (name_tried name out) (name ++ (0 ∷ [])) (suc (length name)) out (λ z. n (ap (λ (x : WrittenAnswer). x.refusal) h.told ∙ z));
  listing = λ cells marks capture out answer cells' marks' out' h n.
      let k = list_kept cells marks capture out (λ z. n (ap (λ (x : ListedAnswer). x.refusal) h.told ∙ z)) in
      (h.cells ∙ k.0, (h.marks ∙ k.1.0, h.bytes ∙ k.1.1));
}
