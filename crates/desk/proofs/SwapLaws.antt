-- Neighbouring events with different keys can be swapped. Assumes nothing.
use Prim.Native.Nat.{ℕ, ◌+◌, ◌<◌, ◌≤◌}
use mathlib.Core.Bool.{Bool, true, false, ◌&&◌}
use mathlib.Core.Path.{◌≡◌, refl, sym, ap, ◌∙◌}
use mathlib.Core.List.{[], ◌∷◌}
use native.Mathlib.Omega.{arith}
use borrow.Author.Tests.{lt-ltb}
use Rattle.digits.specs.Told.{Told, gives, refuses}
use Rattle.digits.proofs.Sure.{not_refused}
use Rattle.frames.specs.Kind.{read}
use Rattle.frames.specs.Request.{request}
use Rattle.frames.specs.declared.reply.ReplyLabel.{ReplyLabel}
use Rattle.desk.specs.declared.key.Key.{Key}
use Rattle.desk.specs.declared.opening.Opening.{Opening}
use Rattle.desk.specs.declared.reply.Taking.{Taking}
use Rattle.desk.specs.Limits.{seat_count}
use Rattle.desk.specs.Key.{key_in, seat_key, same_key}
use Rattle.desk.specs.Hearing.{heard}
use Rattle.desk.specs.Rule.{Frame}
use Rattle.desk.specs.Seats.{seat_at, used_bit}
use Rattle.desk.specs.Memory.{Memory, capacity}
use Rattle.desk.specs.Calls.{Outcome, what_is_given, open_tried, opens, opened, reply_tried, replies, taken}
use Rattle.desk.specs.Events.{Event, to_open, to_reply, happens, run}
use Rattle.desk.specs.Views.{View, view_at, Same}
use Rattle.desk.specs.Mix.{replies_to}
use Rattle.desk.specs.Orders.{key_of, Apart, Swaps, NeighboursSwap}
use Rattle.desk.proofs.Below.{never, eq-case, false_or}
use Rattle.desk.proofs.KeyLaws.{same_key_case}
use Rattle.desk.proofs.HearingLaws.{key_heard}
use Rattle.desk.proofs.ReplayLaws.{Facts, desk_facts}
use Rattle.desk.proofs.StepLaws.{found_keyed, keyed_used, keyed_key, Took, took_used, took_key, OpensAt, by_reply, by_opening}
use Rattle.desk.proofs.DeskLaws.{taken_capacity, taken_desk, used_other, opened_desk}
use Rattle.desk.proofs.ViewLaws.{seat_of, seat_same, Moves, taken_moves, taken_seat, opened_moves}
use Rattle.desk.proofs.SameLaws.{Deed, open_deed, reply_deed, deed_of, done, not_done, Looks, reply_same, open_same}

-- ---- events that do the same in both orders

same_refl : (m : Memory) → Same m m
same_refl m = record { size = refl; view = λ s l. refl }

-- two seats that move, in both orders
crossed : (m a b p q : Memory) (x y : Deed) → (x.seat ≡ y.seat → ⊥)
    → Moves m a x.seat (x.turn (view_at m x.seat)) → Moves a p y.seat (y.turn (view_at a y.seat))
    → Moves m b y.seat (y.turn (view_at m y.seat)) → Moves b q x.seat (x.turn (view_at b x.seat))
    → (i : ℕ) → view_at p i ≡ view_at q i
crossed m a b p q x y n ma ay mb bx i =
    let r : y.seat ≡ x.seat → ⊥ = λ e. n (sym e) in
    eq-case i x.seat
    (λ e. rw e (ay.others x.seat n ∙ ma.own ∙ sym (ap x.turn (mb.others x.seat n)) ∙ sym bx.own))
    (λ j.
    eq-case i y.seat
    (λ e. rw e (ay.own ∙ ap y.turn (ma.others y.seat r) ∙ sym mb.own ∙ sym (bx.others y.seat r)))
    (λ l. ay.others i l ∙ ma.others i j ∙ sym (mb.others i l) ∙ sym (bx.others i j)))

module _ (m : Memory) (e d : Event) where
  swaps_of : (happens (happens m d).after e).answer ≡ (happens m e).answer → (happens (happens m e).after d).answer ≡ (happens m d).answer
      → Same (happens (happens m d).after e).after (happens (happens m e).after d).after → Swaps m e d
  unfolding run
  swaps_of a b c = record { first = a; second = b; after = c }

  swap_by : (a : Told Deed) → deed_of m e ≡ a → deed_of (happens m d).after e ≡ a → (b : Told Deed) → deed_of m d ≡ b → deed_of (happens m e).after d ≡ b
      → ((s : ℕ) → (happens m e).answer ≡ gives s → (happens m d).answer ≡ gives s → ⊥) → Swaps m e d
  swap_by (refuses why) p p' b q q' n =
      let x = not_done m e why p in
      let y = not_done (happens m d).after e why p' in
      swaps_of (rw (x, y)) (rw x) (rw (x, y) (same_refl (happens m d).after))
  swap_by (gives a) p p' (refuses why) q q' n =
      let x = not_done m d why q in
      let y = not_done (happens m e).after d why q' in
      swaps_of (rw x) (rw (x, y)) (rw (x, y) (same_refl (happens m e).after))
  swap_by (gives a) p p' (gives b) q q' n =
      let j = done m e a p in
      let j' = done (happens m d).after e a p' in
      let k = done m d b q in
      let k' = done (happens m e).after d b q' in
      let apart : a.seat ≡ b.seat → ⊥ = λ z. n a.seat j.answer (k.answer ∙ ap gives (sym z)) in
      swaps_of (j'.answer ∙ sym j.answer) (k'.answer ∙ sym k.answer)
      (record { size = k'.size ∙ j.size ∙ sym k.size ∙ sym j'.size; view = λ i l. crossed m _ _ _ _ a b apart j.moves k'.moves k.moves j'.moves i })

-- ---- a taken reply leaves what is tried of the events with other keys

module _ (m : Memory) (f : Frame) (t : Taking) (k : Took m f t) where
  -- the seat with another key is another one
  taken_else : (key : Key) → (key_in k.label ≡ key → ⊥) → seat_of m key < seat_count → seat_of m key ≡ t.seat → ⊥
  taken_else key n l e =
      n (sym (took_key m f t k) ∙ ap (λ (i : ℕ). seat_key (seat_at m.row i)) (sym e) ∙ keyed_key m.row m.bits key (seat_of m key) (found_keyed m.row m.bits key l))

  taken_looks : (key : Key) → (key_in k.label ≡ key → ⊥) → (seat_of m key < seat_count → m.count + 2 ≤ capacity m) → Looks m (taken m f t) key
  taken_looks key n r = record {
    seat = taken_seat m f t k key;
    view = λ l. (taken_moves m f t k).others (seat_of m key) (taken_else key n l);
    free = λ l.
        let h = r l in
        lt-ltb (m.count + 1) (capacity (taken m f t)) (rw (taken_capacity m f t k) (omega arith))
        ∙ sym (lt-ltb m.count (capacity m) (omega arith));
  }

-- ---- and so does an opening

module _ (m : Memory) (o : Opening) (k : OpensAt m o) where
  abbrev keyed_by : Key → View → Bool
  keyed_by key v = v.used && same_key v.key key

  opened_keyed : (key : Key) → (o.key ≡ key → ⊥) → (i : ℕ) → keyed_by key (view_at (opened m o) i) ≡ keyed_by key (view_at m i)
  opened_keyed key n i =
      eq-case i o.seat
      (λ e.
      let new : keyed_by key (view_at (opened m o) o.seat) ≡ false = ap (keyed_by key) (opened_moves m o k).own ∙ false_or (same_key o.key key) (λ h. n (same_key_case o.key key h)) in
      let old : keyed_by key (view_at m o.seat) ≡ false = rw k.clear in
      rw e (new ∙ sym old))
      (λ j. ap (keyed_by key) ((opened_moves m o k).others i j))

  opened_looks : (key : Key) → (o.key ≡ key → ⊥) → Looks m (opened m o) key
  opened_looks key n = record {
    seat = seat_same m (opened m o) key (λ i l. opened_keyed key n i);
    view = λ l. (opened_moves m o k).others (seat_of m key) (used_other m o k (seat_of m key) (keyed_used m.row m.bits key (seat_of m key) (found_keyed m.row m.bits key l)));
    free = λ l. refl;
  }

-- ---- an opening and a reply

module _ (m : Memory) (f g : Frame) (d : Facts m) where
  asked_after : open_tried (replies m g).after f ≡ open_tried m f
  asked_after =
      by_reply m g (λ (o : Outcome). open_tried o.after f ≡ open_tried m f)
      (λ t k. open_same m (taken m g t) f d (taken_desk m g t k) (read request f) refl refl (taken_seat m g t k))
      (λ why. refl)

  heard_after : Apart (to_open f) (to_reply g) → reply_tried (opens m f).after g ≡ reply_tried m g
  heard_after n =
      by_opening m f (λ (o : Outcome). reply_tried o.after g ≡ reply_tried m g)
      (λ o k. reply_same m (opened m o) g d (opened_desk m o k.at) (heard g) refl
      (λ c e. opened_looks m o k.at (key_in c) (λ q. n (key_in c) (rw k.reads (ap gives (k.key ∙ q))) (key_heard g c e))))
      (λ why. refl)

  -- the opening takes a clear seat, the reply a used one
  clear_used : (s : ℕ) → (opens m f).answer ≡ gives s → (replies m g).answer ≡ gives s → ⊥
  clear_used s h j = never (used_bit m.bits s)
      (by_reply m g (λ (o : Outcome). o.answer ≡ gives s → used_bit m.bits s ≡ true) (λ t k e. let q : t.seat ≡ s = cc in rw q at (took_used m g t k)) (λ why e. absurd (not_refused s why (sym e))) j)
      (by_opening m f (λ (o : Outcome). o.answer ≡ gives s → used_bit m.bits s ≡ false) (λ o k e. let q : o.seat ≡ s = cc in rw q at k.at.clear) (λ why e. absurd (not_refused s why (sym e))) h)

  opening_swaps : Apart (to_open f) (to_reply g) → Swaps m (to_open f) (to_reply g)
  opening_swaps n =
      swap_by m (to_open f) (to_reply g) (deed_of m (to_open f)) refl (ap (λ (t : Told Opening). what_is_given t open_deed) asked_after)
      (deed_of m (to_reply g)) refl (ap (λ (t : Told Taking). what_is_given t (reply_deed g)) (heard_after n)) clear_used

-- ---- two replies

-- the seat that takes a reply has its key
answer_key : (m : Memory) (f : Frame) (s : ℕ) → (replies m f).answer ≡ gives s → key_of (to_reply f) ≡ gives (view_at m s).key
answer_key m f s =
    by_reply m f (λ (o : Outcome). o.answer ≡ gives s → key_of (to_reply f) ≡ gives (view_at m s).key)
    (λ t k e. let q : t.seat ≡ s = cc in key_heard f k.label k.hears ∙ ap gives (sym (took_key m f t k) ∙ ap (λ (i : ℕ). (view_at m i).key) q))
    (λ why e. absurd (not_refused s why (sym e)))

-- two replies to open requests are both counted
both_counted : (m : Memory) (f g : Frame) (t : Taking) → Took m f t → (c : ReplyLabel) → heard g ≡ gives c → seat_of m (key_in c) < seat_count
    → m.count + replies_to m (to_reply f ∷ to_reply g ∷ []) ≤ capacity m → m.count + 2 ≤ capacity m
unfolding replies_to
both_counted m f g t k c e l r =
    let h : m.count + (1 + (1 + 0)) ≤ capacity m = rw (k.hears, e, k.found, lt-ltb t.seat seat_count k.below, lt-ltb (seat_of m (key_in c)) seat_count l) at r in
    omega arith

later : (m : Memory) (f g : Frame) → Facts m → Apart (to_reply f) (to_reply g) → m.count + replies_to m (to_reply f ∷ to_reply g ∷ []) ≤ capacity m → reply_tried (replies m f).after g ≡ reply_tried m g
later m f g d n r =
    by_reply m f (λ (o : Outcome). reply_tried o.after g ≡ reply_tried m g)
    (λ t k. reply_same m (taken m f t) g d (taken_desk m f t k) (heard g) refl
    (λ c e. taken_looks m f t k (key_in c) (λ q. n (key_in c) (key_heard f k.label k.hears ∙ ap gives q) (key_heard g c e)) (λ l. both_counted m f g t k c e l r)))
    (λ why. refl)

replies_swap : (m : Memory) (f g : Frame) → Facts m → Apart (to_reply f) (to_reply g) → m.count + replies_to m (to_reply f ∷ to_reply g ∷ []) ≤ capacity m → Swaps m (to_reply f) (to_reply g)
unfolding replies_to
replies_swap m f g d n r =
    let q : m.count + replies_to m (to_reply g ∷ to_reply f ∷ []) ≤ capacity m = omega (arith, r) in
    swap_by m (to_reply f) (to_reply g) (deed_of m (to_reply f)) refl (ap (λ (t : Told Taking). what_is_given t (reply_deed f)) (later m g f d (λ k a b. n k b a) q))
    (deed_of m (to_reply g)) refl (ap (λ (t : Told Taking). what_is_given t (reply_deed g)) (later m f g d n r))
    (λ s a b. n (view_at m s).key (answer_key m f s a) (answer_key m g s b))

pub neighbours_swap : NeighboursSwap
neighbours_swap = record {
  replies = λ m f g d n r. replies_swap m f g (desk_facts m d) n r;
  opening = λ m f g d n. opening_swaps m f g (desk_facts m d) n;
}
