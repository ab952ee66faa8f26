-- 0 exactly if the call was done, and no two answers have the same numbers. Assumes nothing.
use Prim.Native.Nat.{ℕ}
use mathlib.Core.Bool.{not, ◌&&◌}
use mathlib.Core.Path.{◌≡◌, refl, ap, ◌∙◌}
use native.Mathlib.Omega.{arith}
use lib.ListN.{length}
use lib.Dec.{eqb, leb, ltb}
use lib.IntN.{pos, ◌-ℤ◌}
use Rattle.digits.specs.Refusals.{RECORD, ROOM, TIME, DESK, NO_SUCH}
use Rattle.digits.specs.Told.{Told, gives, refuses, Sure}
use Rattle.digits.proofs.Sure.{never_0, sure_gives, sure_tried}
use Rattle.times.specs.declared.running.RunningOf.{RunningOf}
use Rattle.times.specs.Running.{in_range, taux, running_time}
use Rattle.finder.specs.Pieces.{pieces}
use Rattle.desk.specs.Desk.{is_desk}
use Rattle.desk.specs.Capture.{fates, counts_of}
use Rattle.listing.specs.Listing.{fits, list_of}
use Rattle.frames.specs.Kind.{write_tried}
use Rattle.frames.proofs.Places.{sure_request, sure_reply, sure_dynamic}
use Rattle.desk.proofs.SureLaws.{sure_resets, sure_opens, sure_replies}
use Rattle.rei2.specs.Numbers.{number_in, offset_in, spoiled_in, value_in}
use Rattle.desk.specs.Memory.{memory}
use Rattle.desk.specs.Tally.{Table, entry_of, looks}
use Rattle.frames.specs.Reply.{is_letter}
use Rattle.frames.specs.Status.{is_status}
use Rattle.desk.proofs.HandedOn.{refusals_are_handed_on}
use Rattle.rei2.specs.Lent.{answer_of}
use Rattle.rei2.specs.Tells.{NumbersTell}

sure_writing : (wrong size room : ℕ) → Sure (write_tried wrong size room)
unfolding write_tried
sure_writing wrong size room = sure_tried (eqb wrong 0) (RECORD wrong) _ (λ e. ap not e) (sure_tried (leb size room) ROOM _ (λ _. refl) (sure_gives tt))

sure_running : (of : RunningOf) → Sure (running_time of)
unfolding running_time
sure_running of = sure_tried (in_range of) TIME _ (λ _. refl) (sure_gives ((pos of.tnow -ℤ pos of.tev) -ℤ taux of))

told_by_law : {A : Type 0} (zero : A) (t t' : Told A) → Sure t → Sure t' → number_in t ≡ number_in t' → offset_in t ≡ offset_in t' → spoiled_in t ≡ spoiled_in t' → value_in zero t ≡ value_in zero t' → t ≡ t'
told_by_law zero (gives a) (gives b) s s' n o p v = λ i. gives (v i)
told_by_law zero (gives a) (refuses f) s s' n o p v = absurd (let l = never_0 f (s' f refl) in omega (arith, l, n))
told_by_law zero (refuses f) (gives b) s s' n o p v = absurd (let l = never_0 f (s f refl) in omega (arith, l, n))
told_by_law zero (refuses f) (refuses g) s s' n o p v = λ i. refuses (record { number = n i; offset = o i; spoiled = p i })

sure_looks : (t : Table) (letter status : ℕ) → Sure (looks t letter status)
unfolding looks
sure_looks t letter status = sure_tried (is_letter letter && is_status status) NO_SUCH _ (λ _. refl) (sure_gives (entry_of t letter status))

pub numbers_tell : NumbersTell
numbers_tell = record {
  reading_request = sure_request;
  reading_reply = sure_reply;
  reading_dynamic = sure_dynamic;
  writing = sure_writing;
  running = sure_running;
  reset = sure_resets;
  opening = sure_opens;
  replying = sure_replies;
  capture = λ m s. sure_tried (is_desk m) DESK _ (λ _. refl) (sure_gives (counts_of (fates m (pieces s))));
  look = λ t letter status. sure_looks t letter status;
  naming = λ name out. sure_tried (ltb (length name) (length out)) ROOM _ (λ _. refl) (sure_gives tt);
  listing = λ cells marks s out. sure_tried (fits cells marks s out) ROOM _ (λ _. refl) (sure_gives (length (list_of cells marks s)));
  request_refused = λ f. refl;
  reply_refused_holds = λ f. refl;
  dynamic_refused = λ f. refl;
  opening_refused = λ seats seats' d cells marks frame tally r f e g h. h.answer ∙ ap answer_of (refusals_are_handed_on.by_opening (memory d seats cells marks tally) frame f e g);
  replying_refused = λ seats seats' d cells cells' marks marks' frame tally tally' r f e g h. h.answer ∙ ap answer_of (refusals_are_handed_on.by_reply (memory d seats cells marks tally) frame f e g);
  told = told_by_law;
}
