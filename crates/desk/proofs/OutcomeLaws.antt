-- How the steps of a call make up its outcome. Assumes nothing.
use Prim.Native.Nat.{ℕ, ◌<◌}
use mathlib.Core.List.{List}
use mathlib.Core.Bool.{true, false}
use mathlib.Core.Path.{◌≡◌, refl, sym, ap, subst, ◌∙◌}
use Rattle.std.specs.Prelude.{Some, None, Result, Ok, Err, IsErrAnd}
use lib.ListN.{length, set}
use lib.Seq.{get_or-set_same}
use lib.Dec.{ltb}
use Rattle.digits.specs.declared.refusal.Refusal.{Refusal}
use Rattle.digits.specs.Refusals.{DESK}
use Rattle.digits.specs.Told.{Told, gives, refuses}
use Rattle.frames.specs.Kind.{read}
use Rattle.frames.specs.Request.{request}
use Rattle.desk.specs.declared.state.Seat.{Seat}
use Rattle.desk.specs.declared.opening.Opening.{Opening}
use Rattle.desk.specs.declared.reply.Taking.{Taking}
use Rattle.desk.specs.declared.step.StepRefusal.{StepRefusal}
use Rattle.desk.specs.declared.step.StepRefusal.TheVariants.{Ended, OutOfPlace, Full}
use Rattle.desk.specs.Hearing.{heard}
use Rattle.desk.specs.Limits.{seat_count}
use Rattle.desk.specs.Seats.{zero_seat, seat_at}
use Rattle.desk.specs.Memory.{Memory, capacity}
use Rattle.desk.specs.Desk.{is_desk}
use Rattle.desk.specs.Calls.{Outcome, what_is_given, request_tried, open_tried, label_tried, reply_tried, opens, opened, replies, taken, result_told, reply_refused, of_step, change_in, Did, Changed}
use Rattle.desk.specs.inside.Judging.{step_refused}

-- ---- further tests of an answer that is known

module _ {A B : Type 0} where
  pub given_on : (further : A → Told B) {t u : Told A} → t ≡ u → what_is_given t further ≡ what_is_given u further
  given_on further e = ap (λ (y : Told A). what_is_given y further) e

-- ---- a refusal that `?` hands on

module _ {A R : Type 0} where
  pub handed_on : (refused : R → Refusal) (P : R → Type 0) (why : Refusal) → ((g : R) → P g → refused g ≡ why) → (r : Result A R) → IsErrAnd r P → result_told refused r ≡ refuses why
  handed_on refused P why e (Ok a) is = absurd is
  handed_on refused P why e (Err g) is = ap (λ (f : Refusal). refuses f) (e g is)

-- a refusal of the step has the same number as the reply's
pub of_step_told : (f : StepRefusal) → reply_refused (of_step f) ≡ step_refused f
of_step_told Ended = refl
of_step_told OutOfPlace = refl
of_step_told Full = refl

-- ---- DESK is tested first

module _ (m : Memory) (f : List ℕ) where
  pub open_on : is_desk m ≡ true → what_is_given (read request f) (request_tried m.row m.bits) ≡ open_tried m f
  unfolding open_tried
  open_on d = rw d

  pub open_off : is_desk m ≡ false → refuses DESK ≡ open_tried m f
  unfolding open_tried
  open_off d = rw d

  pub reply_on : is_desk m ≡ true → what_is_given (heard f) (label_tried m.row m.bits (ltb m.count (capacity m))) ≡ reply_tried m f
  unfolding reply_tried
  reply_on d = rw d

  pub reply_off : is_desk m ≡ false → refuses DESK ≡ reply_tried m f
  unfolding reply_tried
  reply_off d = rw d

-- ---- the outcome of an opening

module _ (m : Memory) (f : List ℕ) where
  pub opening_done : (o : Opening) (after : Memory) → gives o ≡ open_tried m f → after ≡ opened m o → Did (gives o.seat) after (opens m f)
  unfolding opens
  opening_done o after e q = rw (← e) (record { answer = refl; memory = q })

  pub not_opened_law : (why : Refusal) → refuses why ≡ open_tried m f → Did (refuses why) m (opens m f)
  unfolding opens
  not_opened_law why e = rw (← e) (record { answer = refl; memory = refl })

-- ---- the outcome of a reply

module _ (m : Memory) (f : List ℕ) where
  pub reply_done : (t : Taking) (after : Memory) → gives t ≡ reply_tried m f → after ≡ taken m f t → Did (gives t.seat) after (replies m f)
  unfolding replies
  reply_done t after e q = rw (← e) (record { answer = refl; memory = q })

  pub not_taken_law : (why : Refusal) → refuses why ≡ reply_tried m f → Did (refuses why) m (replies m f)
  unfolding replies
  not_taken_law why e = rw (← e) (record { answer = refl; memory = refl })

-- ---- the seat that a step returns, and its place

module _ (m after : Memory) (o : Outcome) (full : length m.row ≡ seat_count) where
  -- a step that changed a seat
  pub one_changed : (i : ℕ) (s : Seat) → i < seat_count → after.row ≡ set m.row i s → Did (gives i) after o → Changed o (Some (record { at = i; seat = s }))
  one_changed i s l e d =
      let r : set m.row i s ≡ o.after.row = sym e ∙ (λ j. (d.memory j).row) in
      let q : s ≡ seat_at o.after.row i = sym (get_or-set_same m.row i s zero_seat (subst (λ (n : ℕ). i < n) (sym full) l)) ∙ ap (λ (x : List Seat). seat_at x i) r in
      record { is = (λ j. Some (record { at = i; seat = q j })) ∙ ap (λ (t : Told ℕ). change_in t o.after.row) d.answer }

-- a step that changed none
pub none_changed : (m : Memory) (o : Outcome) (why : Refusal) → Did (refuses why) m o → Changed o None
none_changed m o why d = record { is = ap (λ (t : Told ℕ). change_in t o.after.row) d.answer }
