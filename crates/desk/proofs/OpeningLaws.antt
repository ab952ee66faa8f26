-- When an opening is done and when it is refused. Assumes nothing.
use Prim.Native.Nat.{ℕ, ◌≤◌, ◌<◌}
use mathlib.Core.Bool.{true, false, not}
use mathlib.Core.Path.{◌≡◌, ap, ◌∙◌}
use native.Mathlib.Omega.{arith}
use borrow.Author.Tests.{eq-eqb, ne_eqb, lt-ltb, le-ltb, lt-leb}
use Rattle.digits.specs.Refusals.{NO_ANSWER_DUE, IN_USE, NO_SEAT}
use Rattle.digits.specs.Told.{gives, refuses}
use Rattle.digits.proofs.Tests.{by_less}
use Rattle.frames.specs.declared.request.StaticRequest.{StaticRequest}
use Rattle.desk.specs.Limits.{seat_count}
use Rattle.desk.specs.Below.{first}
use Rattle.desk.specs.Key.{request_key}
use Rattle.desk.specs.Rule.{Frame}
use Rattle.desk.specs.Seats.{keyed_at, seat_with, clear_at, lowest_clear}
use Rattle.desk.specs.Memory.{Memory}
use Rattle.desk.specs.Calls.{Outcome, key_tried, request_tried, open_tried, opens}
use Rattle.desk.specs.Views.{view_at}
use Rattle.desk.specs.Openings.{HasKeyOf, Asks, OpeningsAreRight}
use Rattle.desk.proofs.Below.{never, false_or, first_none, first_at, first_sound}
use Rattle.desk.proofs.ReplayLaws.{keyed_at_law, desk_facts}
use Rattle.desk.proofs.StepLaws.{keyed_used, keyed_key, after_opened, after_not_opened}
use Rattle.desk.proofs.ViewLaws.{one_seat, is_local}

module _ (m : Memory) (f : Frame) (r : StaticRequest) (k : Asks m f r) where
  tried_q : r.information ≡ 113 → open_tried m f ≡ refuses NO_ANSWER_DUE
  unfolding open_tried request_tried
  tried_q q = rw (k.desk, k.reads, eq-eqb r.information 113 q)

  module _ (n : r.information ≡ 113 → ⊥) where
    tried_key : open_tried m f ≡ key_tried m.row m.bits (request_key r)
    unfolding open_tried request_tried
    tried_key = rw (k.desk, k.reads, ne_eqb r.information 113 n)

    tried_used : (s : ℕ) → s < seat_count → HasKeyOf m s r → open_tried m f ≡ refuses IN_USE
    unfolding key_tried
    tried_used s l h =
        let e = one_seat m (request_key r) s (desk_facts m k.desk) l (keyed_at_law m.row m.bits s (request_key r) h.0 h.1) in
        tried_key ∙ rw (e, lt-leb seat_count s l)

    module _ (free : (i : ℕ) → i < seat_count → HasKeyOf m i r → ⊥) where
      no_such : seat_with m.row m.bits (request_key r) ≡ seat_count
      unfolding seat_with
      no_such = first_none seat_count (keyed_at m.row m.bits (request_key r)) (λ i l. false_or _ (λ h. free i l (keyed_used m.row m.bits (request_key r) i h, keyed_key m.row m.bits (request_key r) i h)))

      tried_full : ((i : ℕ) → i < seat_count → (view_at m i).used ≡ true) → open_tried m f ≡ refuses NO_SEAT
      unfolding key_tried lowest_clear
      tried_full u =
          let high : seat_count ≤ first 64 (clear_at m.bits) = by_less (first 64 (clear_at m.bits)) seat_count
          (λ l. never (clear_at m.bits (first 64 (clear_at m.bits))) (first_sound 64 (clear_at m.bits) (omega arith)) (ap not (u _ l)))
          (λ l. l) in
          tried_key ∙ rw (no_such, le-ltb (first 64 (clear_at m.bits)) seat_count high)

      tried_done : (s : ℕ) → s < seat_count → (view_at m s).used ≡ false → ((i : ℕ) → i < s → (view_at m i).used ≡ true) → open_tried m f ≡ gives (record { seat = s; key = request_key r })
      unfolding key_tried lowest_clear
      tried_done s l c u =
          let low : first 64 (clear_at m.bits) ≡ s = first_at 64 s (clear_at m.bits) (omega arith) (λ j i. ap not (u j i)) (ap not c) in
          tried_key ∙ rw (no_such, low, lt-ltb s seat_count l)

pub openings_are_right : OpeningsAreRight
openings_are_right = record {
  no_answer_due = λ m f r k q. after_not_opened m f NO_ANSWER_DUE (tried_q m f r k q);
  in_use = λ m f r s k n l h. after_not_opened m f IN_USE (tried_used m f r k n s l h);
  no_seat = λ m f r k n free u. after_not_opened m f NO_SEAT (tried_full m f r k n free u);
  done = λ m f r s k n free l c u.
      let a : (opens m f).answer ≡ gives s = ap (λ (o : Outcome). o.answer) (after_opened m f _ (tried_done m f r k n free s l c u)) in
      (a, (is_local.opening m f s a).1);
}
