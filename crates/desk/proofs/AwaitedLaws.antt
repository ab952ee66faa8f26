-- The replies that are counted in a stretch are the frames addressed to the open requests. Assumes nothing.
use Prim.Native.Nat.{ℕ, zero, suc, ◌+◌}
use mathlib.Core.Bool.{Bool, cond, ◌&&◌}
use mathlib.Core.Path.{◌≡◌, refl, sym, ◌∙◌}
use mathlib.Core.List.{List, [], ◌∷◌}
use native.Mathlib.Omega.{arith}
use lib.Dec.{ltb}
use borrow.Author.Tests.{ltb-true, ltb-false}
use Rattle.digits.specs.Told.{Told, gives, refuses}
use Rattle.frames.specs.declared.reply.ReplyLabel.{ReplyLabel}
use Rattle.desk.specs.Limits.{seat_count}
use Rattle.desk.specs.Below.{count_below}
use Rattle.desk.specs.Key.{key_in, seat_key}
use Rattle.desk.specs.Hearing.{heard, has_key}
use Rattle.desk.specs.Seats.{seat_at, used_bit, keyed, keyed_at, seat_with}
use Rattle.desk.specs.Memory.{Memory}
use Rattle.desk.specs.Events.{Event, to_open, to_reply, addressed, frames_to}
use Rattle.desk.specs.Mix.{seated, expected, replies_to, awaited, RepliesAreAwaited}
use Rattle.digits.proofs.Tests.{by-test}
use Rattle.desk.proofs.Below.{and_false_r, count_ext, count_none, count_one}
use Rattle.desk.proofs.ReplayLaws.{Facts, desk_facts}
use Rattle.desk.proofs.StepLaws.{found_keyed, fresh_below}
use Rattle.desk.proofs.HearingLaws.{addressed_heard}
use Rattle.desk.proofs.ViewLaws.{one_seat}

module _ (m : Memory) where
  -- the open requests that an event is addressed to
  abbrev own : Event → ℕ → Bool
  own e i = used_bit m.bits i && addressed (seat_key (seat_at m.row i)) e

  abbrev own_label : Told ReplyLabel → ℕ → Bool
  own_label got i = used_bit m.bits i && has_key (seat_key (seat_at m.row i)) got

  one_more_case : (e : Event) (es : List Event) (n : ℕ) → awaited m (e ∷ es) n ≡ count_below n (own e) + awaited m es n
  unfolding awaited count_below frames_to
  one_more_case e es zero = refl
  one_more_case e es (suc n) =
      let h = one_more_case e es n in
      by-test (used_bit m.bits n)
      (λ u. by-test (addressed (seat_key (seat_at m.row n)) e) (λ a. rw (u, a) (omega (arith, h))) (λ a. rw (u, a) (omega (arith, h))))
      (λ u. rw u (omega (arith, h)))

  none_awaited : (n : ℕ) → awaited m [] n ≡ 0
  unfolding awaited frames_to
  none_awaited zero = refl
  none_awaited (suc n) = let h = none_awaited n in by-test (used_bit m.bits n) (λ u. rw u (omega (arith, h))) (λ u. rw u (omega (arith, h)))

  -- on a desk a reply is addressed to at most one open request
  one_label : Facts m → (got : Told ReplyLabel) → count_below seat_count (own_label got) ≡ cond (seated m got) 1 0
  unfolding keyed
  one_label d (gives c) =
      by-test (ltb (seat_with m.row m.bits (key_in c)) seat_count)
      (λ y.
      let l = ltb-true _ seat_count y in
      rw y (count_one seat_count (seat_with m.row m.bits (key_in c)) (keyed_at m.row m.bits (key_in c)) l
      (found_keyed m.row m.bits (key_in c) l)
      (λ k j q. sym (one_seat m (key_in c) k d j q))))
      (λ n.
      let l = ltb-false _ seat_count n in
      rw n (count_none seat_count (keyed_at m.row m.bits (key_in c)) (fresh_below m.row m.bits (key_in c) l)))
  one_label d (refuses why) = count_none seat_count _ (λ k l. and_false_r (used_bit m.bits k) refl)

  one_own : Facts m → (e : Event) → count_below seat_count (own e) ≡ cond (expected m e) 1 0
  unfolding addressed
  one_own d (to_open f) = count_none seat_count _ (λ k l. and_false_r (used_bit m.bits k) refl)
  one_own d (to_reply f) = count_ext seat_count (own (to_reply f)) (own_label (heard f)) (λ i l. rw (addressed_heard (seat_key (seat_at m.row i)) f)) ∙ one_label d (heard f)

  all_awaited : Facts m → (es : List Event) → replies_to m es ≡ awaited m es seat_count
  unfolding replies_to
  all_awaited d [] = sym (none_awaited seat_count)
  all_awaited d (e ∷ es) =
      let a = one_more_case e es seat_count in
      let b = one_own d e in
      let h = all_awaited d es in
      omega (arith, a, b, h)

pub replies_are_awaited : RepliesAreAwaited
replies_are_awaited m es d = all_awaited m (desk_facts m d) es
