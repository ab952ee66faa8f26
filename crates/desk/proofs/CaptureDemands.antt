-- A capture is a run of calls, and each of its counts follows a rule of its own. Assumes nothing.
use Prim.Native.Nat.{ℕ}
use mathlib.Core.List.{List, [], ◌∷◌, ◌++◌}
use mathlib.Core.Bool.{true, false, cond}
use mathlib.Core.Path.{◌≡◌, refl, sym, ap, ◌∙◌}
use native.Mathlib.Omega.{arith}
use lib.ListN.{get_or}
use lib.Dec.{eqb}
use borrow.Author.Tests.{eqb-true}
use Rattle.digits.specs.Told.{Told, gives, refuses}
use Rattle.digits.proofs.Tests.{by-test}
use Rattle.frames.specs.Kind.{read}
use Rattle.frames.specs.Dynamic.{dynamic}
use Rattle.frames.specs.declared.dynamic.DynamicRequest.{DynamicRequest}
use Rattle.frames.proofs.HeadLaws.{tried_gives, head_kind}
use Rattle.finder.specs.Pieces.{Piece, whole, cut, pieces}
use Rattle.desk.specs.declared.capture.Fate.TheVariants.{Opened, Collected}
use Rattle.desk.specs.Memory.{Memory, held_by}
use Rattle.desk.specs.Desk.{is_desk}
use Rattle.desk.specs.Calls.{opens, replies, emptied}
use Rattle.desk.specs.Events.{Event, to_open, to_reply, run, openings}
use Rattle.desk.specs.Capture.{fate_by, dynamic_fate, open_lead, reply_lead, meets, fates, after_all, is_dynamic, how_many, counts_of, captures}
use Rattle.desk.specs.CaptureDemands.{events, CaptureIsRun, CaptureSorts, is_given, dynamic_in, CountsAreRight}
use Rattle.desk.proofs.DeskLaws.{stays_desk}
use Rattle.desk.proofs.MixLaws.{sorts_opened_requests}
use Rattle.desk.proofs.CaptureLaws.{counts_add_up}
use Rattle.desk.proofs.CellLaws.{all_cells, all_seats_case}

-- ---- a run of calls

-- by the two tests of the lead byte
module _ (m : Memory) (f : List ℕ) (es : List Event) where
  one_call : run (meets m f).after es ≡ run m (cond (eqb (get_or f 0 0) 17) (to_open f ∷ es) (cond (eqb (get_or f 0 0) 18) (to_reply f ∷ es) es))
  unfolding run meets
  one_call =
      by-test (eqb (get_or f 0 0) 17)
      (λ e. rw e)
      (λ e. by-test (eqb (get_or f 0 0) 18) (λ g. rw (e, g)) (λ g. rw (e, g)))

all_calls : (m : Memory) (ps : List Piece) → after_all m ps ≡ run m (events ps)
unfolding after_all run events
all_calls m [] = refl
all_calls m (whole start f ∷ ps) = all_calls (meets m f).after ps ∙ one_call m f (events ps)
all_calls m (cut start f ∷ ps) = all_calls m ps

pub capture_is_run : CaptureIsRun
capture_is_run m s d = rw d (all_calls m (pieces s))

run_on : (m : Memory) (a b : List Event) → run m (a ++ b) ≡ run (run m a) b
unfolding run
run_on m [] b = refl
run_on m (to_open f ∷ a) b = run_on (opens m f).after a b
run_on m (to_reply f ∷ a) b = run_on (replies m f).after a b

pub capture_sorts : CaptureSorts
capture_sorts m s before after f r es seat e q h st room =
    let sorted = sorts_opened_requests m before after f r es seat q h st room in
    let x : (captures (emptied m) s).after ≡ run (run (emptied m) (openings (before ++ f ∷ after))) es = capture_is_run (emptied m) s (stays_desk.reset m) ∙ ap (run (emptied m)) e ∙ run_on (emptied m) (openings (before ++ f ∷ after)) es in
    ap (λ (y : Memory). held_by y seat) x ∙ sorted.held

-- ---- dynamic requests, without a desk

-- a frame with another lead byte is no dynamic request
not_dynamic : (f : List ℕ) → (get_or f 0 0 ≡ 19 → ⊥) → is_given (read dynamic f) ≡ false
unfolding read
not_dynamic f n = rw (← head_kind 19 46 f (omega arith) n)

given_fate : (t : Told DynamicRequest) → is_dynamic (dynamic_fate t) ≡ is_given t
given_fate (gives r) = refl
given_fate (refuses why) = refl

no_opening : (t : Told ℕ) → is_dynamic (fate_by Opened t) ≡ false
no_opening (gives s) = refl
no_opening (refuses why) = refl

no_reply : (t : Told ℕ) → is_dynamic (fate_by Collected t) ≡ false
no_reply (gives s) = refl
no_reply (refuses why) = refl

other_lead : (f : List ℕ) (lead : ℕ) → eqb (get_or f 0 0) lead ≡ true → (lead ≡ 19 → ⊥) → get_or f 0 0 ≡ 19 → ⊥
other_lead f lead e n h = n (sym (eqb-true (get_or f 0 0) lead e) ∙ h)

meets_dynamic : (m : Memory) (f : List ℕ) → is_dynamic (meets m f).fate ≡ is_given (read dynamic f)
unfolding meets
meets_dynamic m f =
    by-test (eqb (get_or f 0 0) open_lead)
    (λ e. rw e (no_opening (opens m f).answer ∙ sym (not_dynamic f (other_lead f open_lead e (λ h. omega (arith, h))))))
    (λ e. by-test (eqb (get_or f 0 0) reply_lead)
    (λ g. rw (e, g) (no_reply (replies m f).answer ∙ sym (not_dynamic f (other_lead f reply_lead g (λ h. omega (arith, h))))))
    (λ g. rw (e, g) (given_fate (read dynamic f))))

all_dynamic : (m : Memory) (ps : List Piece) → how_many is_dynamic (fates m ps) ≡ dynamic_in ps
unfolding fates how_many dynamic_in
all_dynamic m [] = refl
all_dynamic m (whole start f ∷ ps) = rw (meets_dynamic m f, all_dynamic (meets m f).after ps)
all_dynamic m (cut start f ∷ ps) = all_dynamic m ps

-- ---- the counts

pub counts_are_right : CountsAreRight
counts_are_right m s c h =
    let t = tried_gives (is_desk m) _ _ c h in
    let g = t.1 in
    let is : counts_of (fates m (pieces s)) ≡ c = cc in
    rw (t.0, ← is)
    (record { opened = all_seats_case m (pieces s); collected = all_cells m (pieces s); dynamic = all_dynamic m (pieces s); all = counts_add_up m s })
