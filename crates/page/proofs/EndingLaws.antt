-- A used seat that has not ended takes the E that ends it; and `ended` is 0 or 1. Assumes nothing.
use Rattle.std.proofs.Common.{◌≡◌, ℕ, ◌<◌, ◌≤◌, true, ◌&&◌, leb, List, [], ◌∷◌, refl, ap, ◌∙◌, arith, eq-eqb, le-leb, leb-true}
use Rattle.digits.specs.Text.{one_of}
use Rattle.digits.specs.Told.{gives}
use Rattle.digits.proofs.Tests.{by-test, and_true, and_l, and_r}
use Rattle.frames.specs.Rules.{between, up_to, is_address, is_raw, is_requester}
use Rattle.frames.specs.Status.{status_e, is_status}
use Rattle.frames.specs.Shape.{all_from}
use Rattle.frames.specs.Layout.{record_wrong}
use Rattle.frames.specs.Kind.{wrong_in}
use Rattle.frames.specs.Timing.{timing_kind, timed}
use Rattle.frames.specs.Reply.{reply, reply_fields, from_bib, is_letter, is_reply_channel, least_run}
use Rattle.frames.proofs.KindLaws.{frame_back}
use Rattle.frames.proofs.ReplyLaws.{reply_sound}
use Rattle.desk.specs.declared.key.Key.{Key}
use Rattle.desk.specs.declared.step.Progress.{Progress}
use Rattle.desk.specs.Limits.{seat_count}
use Rattle.desk.specs.Key.{seat_key, is_key}
use Rattle.desk.specs.Hearing.{heard, ends, in_place, status_in}
use Rattle.desk.specs.Step.{progress_of, advanced, none, replay}
use Rattle.desk.specs.Seats.{seat_at, used_bit}
use Rattle.desk.specs.Memory.{Memory, capacity, held_by}
use Rattle.desk.proofs.ReplayLaws.{goes_step, keyed_at_law, Facts}
use Rattle.desk.proofs.StepLaws.{Took}
use Rattle.desk.proofs.ViewLaws.{one_seat}
use Rattle.page.specs.inside.Ending.{ending, ending_frame}

-- ---- the E of a key

well_formed : (k : Key) → is_key k ≡ true → wrong_in reply (ending k) ≡ 0
unfolding wrong_in reply_fields from_bib record_wrong is_key is_raw is_status is_letter is_reply_channel least_run timing_kind timed all_from up_to between one_of
well_formed k h =
    let both = is_address k.address && is_requester k.requester in
    let two = and_l both _ h in
    let short = leb-true k.number 999 (and_r both _ h) in
    let fits : leb k.number 99999 ≡ true = le-leb k.number 99999 (omega (arith, short)) in
    rw (and_l (is_address k.address) _ two, and_r (is_address k.address) _ two, fits)

-- it is heard with that key
pub ending_heard : (k : Key) → is_key k ≡ true → heard (ending_frame k) ≡ gives (record { status = status_e; address = k.address; requester = k.requester; number = k.number })
unfolding heard ending_frame
ending_heard k h = rw (frame_back reply_sound (ending k) (record { time = refl; date = refl; spare = refl }) (well_formed k h))

-- ---- at a seat

-- records end a request or do not
replay_ended : (p : Progress) (fs : List (List ℕ)) → p.ended ≤ 1 → (replay p fs).ended ≤ 1
unfolding replay
replay_ended p [] l = l
replay_ended p (f ∷ fs) l =
    replay_ended (advanced p (status_in (heard f))) fs
    (by-test (ends (status_in (heard f))) (λ e. rw e (omega arith)) (λ e. rw e (omega arith)))

module _ (m : Memory) (s : ℕ) (d : Facts m) (below : s < seat_count) (used : used_bit m.bits s ≡ true) where
  pub ended_most : (seat_at m.row s).ended ≤ 1
  ended_most =
      let e = ap (λ (p : Progress). p.ended) (d.agree s below used) in
      let l = replay_ended none (held_by m s) (omega arith) in
      omega (arith, e, l)

  pub takes_ending : (seat_at m.row s).ended ≡ 0 → m.count < capacity m
      → Took m (ending_frame (seat_key (seat_at m.row s))) (record { seat = s; status = status_e })
  unfolding in_place
  takes_ending going room =
      let seat = seat_at m.row s in
      record {
        facts = d;
        label = record { status = status_e; address = seat.address; requester = seat.requester; number = seat.number };
        hears = ending_heard (seat_key seat) (d.keys s below used);
        status = refl;
        found = one_seat m (seat_key seat) s d below (keyed_at_law m.row m.bits s (seat_key seat) used refl);
        below = below;
        steps = goes_step (progress_of seat) status_e ∙ and_true (eq-eqb seat.ended 0 going) refl;
        room = room;
      }
