-- An event moves the view of the seat that it is addressed to, and no other. Assumes nothing.
use Prim.Native.Nat.{ℕ, ◌<◌}
use mathlib.Core.Bool.{Bool, true, false, ◌&&◌}
use mathlib.Core.Path.{◌≡◌, refl, sym, ap, ◌∙◌}
use mathlib.Core.List.{[], ◌∷◌, ◌++◌}
use native.Mathlib.Omega.{arith}
use lib.ListN.{length-append}
use lib.Dec.{eqb, ltb}
use borrow.Author.Tests.{lt-ltb, ltb-true}
use Rattle.digits.specs.declared.refusal.Refusal.{Refusal}
use Rattle.digits.specs.Refusals.{STRAY}
use Rattle.digits.specs.Told.{Told, gives, refuses}
use Rattle.digits.proofs.Tests.{and_r, by-test}
use Rattle.digits.proofs.Sure.{not_refused}
use Rattle.frames.specs.Kind.{read}
use Rattle.frames.specs.Reply.{reply, labelled}
use Rattle.frames.specs.declared.reply.StaticReply.{StaticReply}
use Rattle.frames.specs.declared.reply.ReplyLabel.{ReplyLabel}
use Rattle.frames.proofs.HeadLaws.{tried_gives}
use Rattle.desk.specs.declared.key.Key.{Key}
use Rattle.desk.specs.declared.opening.Opening.{Opening}
use Rattle.desk.specs.declared.reply.Taking.{Taking}
use Rattle.desk.specs.declared.step.Progress.{Progress}
use Rattle.desk.specs.Limits.{seat_count}
use Rattle.desk.specs.Key.{key_in, seat_key, same_key}
use Rattle.desk.specs.Hearing.{heard, has_key, status_in, in_place, ended_in}
use Rattle.desk.specs.Step.{progress_of, advanced, step}
use Rattle.desk.specs.Rule.{Frame}
use Rattle.desk.specs.Seats.{seat_at, used_bit, keyed, keyed_at, seat_with, lowest_clear}
use Rattle.desk.specs.Memory.{Memory}
use Rattle.desk.specs.Calls.{what_is_given, open_tried, opens, opened, seat_tried, label_tried, reply_tried, replies, taken}
use Rattle.desk.specs.Events.{Event, to_open, to_reply, happens}
use Rattle.desk.specs.Views.{View, view_at, progress_in, new_view, cell_free, StepTellsView, Steps, stray_answer, Local}
use Rattle.desk.proofs.Below.{never, false_or, first_at, first_ext}
use Rattle.desk.proofs.KeyLaws.{same_key_case}
use Rattle.desk.proofs.HearingLaws.{addressed_heard}
use Rattle.desk.proofs.ReplayLaws.{keyed_at_law, Facts, desk_facts, facts_desk}
use Rattle.desk.proofs.StepLaws.{held_records, found_keyed, keyed_used, Took, took, OpensAt, opens_taken, after_taken, after_refused, after_opened, after_not_opened, reply_refused_holds, opening_refused}
use Rattle.desk.proofs.DeskLaws.{taken_own, taken_other, taken_key, records_own, records_other, opened_own, opened_other, opened_bit, other_bit, opened_holds}

-- ---- only one seat has a key

pub one_seat : (m : Memory) (k : Key) (s : ℕ) → Facts m → s < seat_count → keyed_at m.row m.bits k s ≡ true → seat_with m.row m.bits k ≡ s
unfolding seat_with
one_seat m k s d l h =
    first_at seat_count s (keyed_at m.row m.bits k) l
    (λ j i. false_or (keyed_at m.row m.bits k j) (λ hj. let e = d.one k j s (omega arith) l hj h in absurd (omega (arith, e, i))))
    h

abbrev pub seat_of : Memory → Key → ℕ
seat_of m k = seat_with m.row m.bits k

-- the seat with a key, by use and key of the views
pub seat_same : (m x : Memory) (k : Key) → ((i : ℕ) → i < seat_count → (view_at x i).used && same_key (view_at x i).key k ≡ (view_at m i).used && same_key (view_at m i).key k) → seat_of x k ≡ seat_of m k
unfolding seat_with keyed
seat_same m x k h = first_ext seat_count (keyed_at x.row x.bits k) (keyed_at m.row m.bits k) h

-- ---- what a taken call moves

pub record Moves (m x : Memory) (s : ℕ) (v : View) : Type 0 where
  pub own : view_at x s ≡ v
  pub others : (i : ℕ) → (i ≡ s → ⊥) → view_at x i ≡ view_at m i

view_is : {a b : View} → a.used ≡ b.used → a.key ≡ b.key → a.records ≡ b.records → a.ended ≡ b.ended → a ≡ b
view_is u k r e = λ i. record { used = u i; key = k i; records = r i; ended = e i }

abbrev pub with_record : View → Frame → View
with_record v f = record { used = v.used; key = v.key; records = v.records ++ (f ∷ []); ended = ended_in (heard f) }

pub taken_moves : (m : Memory) (f : Frame) (t : Taking) → Took m f t → Moves m (taken m f t) t.seat (with_record (view_at m t.seat) f)
taken_moves m f t k = record {
  own = view_is refl (taken_key m f t k t.seat) (records_own m f t k) (rw (taken_own m f t k, k.hears, k.status));
  others = λ i n. view_is refl (taken_key m f t k i) (records_other m f t k i n) (rw (taken_other m f t k i n));
}

pub taken_seat : (m : Memory) (f : Frame) (t : Taking) → Took m f t → (k : Key) → seat_of (taken m f t) k ≡ seat_of m k
taken_seat m f t k key = seat_same m (taken m f t) key (λ i l. ap (λ (own : Key). used_bit m.bits i && same_key own key) (taken_key m f t k i))

pub opened_moves : (m : Memory) (o : Opening) → OpensAt m o → Moves m (opened m o) o.seat (new_view o.key)
opened_moves m o k = record {
  own = view_is (opened_bit m o k) (ap seat_key (opened_own m o k)) (opened_holds m o k) (rw (opened_own m o k));
  others = λ i n. view_is (other_bit m o k i n) (ap seat_key (opened_other m o k i n)) refl (rw (opened_other m o k i n));
}

-- ---- what is tried of a reply goes by the view of the seat that it finds

abbrev pub try_of : View → Bool → Taking → Told Taking
try_of v free t = what_is_given (step (progress_in v) free t.status) (λ p. gives t)

module _ (m : Memory) (f : Frame) (d : Facts m) where
  pub damaged_tried : (why : Refusal) → heard f ≡ refuses why → reply_tried m f ≡ refuses why
  unfolding reply_tried
  damaged_tried why e = rw (facts_desk m d, e)

  pub stray_tried : (c : ReplyLabel) → heard f ≡ gives c → ltb (seat_of m (key_in c)) seat_count ≡ false → reply_tried m f ≡ refuses STRAY
  unfolding reply_tried label_tried
  stray_tried c e h = rw (facts_desk m d, e, h)

  -- a used seat has come as far as its view shows
  seen : (s : ℕ) → s < seat_count → used_bit m.bits s ≡ true → progress_of (seat_at m.row s) ≡ progress_in (view_at m s)
  seen s l u = λ i. record { held = held_records m s d l u i; ended = (seat_at m.row s).ended }

  pub heard_tried : (c : ReplyLabel) → heard f ≡ gives c → seat_of m (key_in c) < seat_count
      → reply_tried m f ≡ try_of (view_at m (seat_of m (key_in c))) (cell_free m) (record { seat = seat_of m (key_in c); status = c.status })
  unfolding reply_tried label_tried seat_tried
  heard_tried c e l =
      let s = seat_of m (key_in c) in
      let u = keyed_used m.row m.bits (key_in c) s (found_keyed m.row m.bits (key_in c) l) in
      rw (facts_desk m d, e, lt-ltb s seat_count l) (ap (λ (p : Progress). what_is_given (step p (cell_free m) c.status) (λ q. gives (record { seat = s; status = c.status }))) (seen s l u))

-- ---- locality

step_gives : (p q : Progress) (free : Bool) (status : ℕ) → step p free status ≡ gives q → advanced p status ≡ q
unfolding step
step_gives p q free status e =
    let a = tried_gives (eqb p.ended 0) _ _ _ e in
    let b = tried_gives (in_place p.held status) _ _ _ a.1 in
    let c = tried_gives free _ _ _ b.1 in
    let g = c.1 in cc

pub step_tells_view : StepTellsView
step_tells_view s free v f p e =
    let q = step_gives (progress_in v) p free (status_in (heard f)) e in
    let n = length-append v.records (f ∷ []) in
    rw e (λ i. record { held = (n ∙ ap (λ (y : Progress). y.held) q) i; ended = p.ended })

module _ (m : Memory) (f : Frame) (s : ℕ) (c : ReplyLabel) (e : heard f ≡ gives c) where
  steps_by : (a : Told Progress) → step (progress_in (view_at m s)) (cell_free m) c.status ≡ a
      → reply_tried m f ≡ what_is_given a (λ p. gives (record { seat = s; status = c.status })) → Steps m (to_reply f) s
  steps_by (gives p) w q =
      let t : Taking = record { seat = s; status = c.status } in
      let mv = taken_moves m f t (took m f t q) in
      let x : step (progress_in (view_at m s)) (cell_free m) (status_in (heard f)) ≡ gives p = rw e w in
      let z : ended_in (heard f) ≡ p.ended = rw e (ap (λ (y : Progress). y.ended) (step_gives _ p (cell_free m) c.status w)) in
      let a = after_taken m f t q in
      record { step = record { answer = rw (a, x); own = rw (a, x) (mv.own ∙ view_is refl refl refl z) }; others = λ i n. rw a (mv.others i n) }
  steps_by (refuses why) w q =
      let x : step (progress_in (view_at m s)) (cell_free m) (status_in (heard f)) ≡ refuses why = rw e w in
      let a = after_refused m f why q in
      record { step = record { answer = rw (a, x); own = rw (a, x) }; others = λ i n. rw a }

reply_local : (m : Memory) (f : Frame) (s : ℕ) → Facts m → s < seat_count → used_bit m.bits s ≡ true → (got : Told ReplyLabel) → heard f ≡ got → has_key (view_at m s).key got ≡ true → Steps m (to_reply f) s
reply_local m f s d l u (gives c) e h =
    let q = one_seat m (key_in c) s d l (keyed_at_law m.row m.bits s (key_in c) u (same_key_case (view_at m s).key (key_in c) h)) in
    steps_by m f s c e (step (progress_in (view_at m s)) (cell_free m) c.status) refl (rw q at (heard_tried m f d c e (rw q l)))
reply_local m f s d l u (refuses why) e h = never true refl (sym h)

stray_local : (m : Memory) (f : Frame) → Facts m → (got : Told StaticReply) → read reply f ≡ got → ((s : ℕ) → s < seat_count → used_bit m.bits s ≡ true → has_key (view_at m s).key (labelled got) ≡ false)
    → replies m f ≡ record { answer = stray_answer got; after = m }
unfolding heard keyed
stray_local m f d (gives r) e h =
    let g = ap labelled e in
    after_refused m f STRAY (by-test (ltb (seat_of m _) seat_count)
    (λ y.
    let l = ltb-true _ seat_count y in
    let k = found_keyed m.row m.bits _ l in
    let u = keyed_used m.row m.bits _ _ k in
    never _ (and_r (used_bit m.bits (seat_of m _)) _ k) (h _ l u))
    (λ n. stray_tried m f d _ g n))
stray_local m f d (refuses why) e h = after_refused m f why (damaged_tried m f d why (ap labelled e))

opening_local : (m : Memory) (f : Frame) (s : ℕ) → (opens m f).answer ≡ gives s → (a : Told Opening) → open_tried m f ≡ a → (s ≡ lowest_clear m.bits) × Steps m (to_open f) s
opening_local m f s h (gives o) e =
    let k = opens_taken m f o e in
    let mv = opened_moves m o k.at in
    let g : gives o.seat ≡ gives s = rw (after_opened m f o e) at h in
    let q : o.seat ≡ s = cc in
    let a = after_opened m f o e in
    (sym q ∙ k.lowest, record { step = record { answer = rw (a, k.reads, q); own = rw (a, k.reads, ← q) (mv.own ∙ ap new_view (sym k.key)) }; others = λ i n. rw a (mv.others i (λ y. n (y ∙ q))) })
opening_local m f s h (refuses why) e = absurd (not_refused s why (sym (rw (after_not_opened m f why e) at h)))

pub is_local : Local
unfolding heard
is_local = record {
  to_seat = λ m f s d l u h. reply_local m f s (desk_facts m d) l u (heard f) refl (rw (addressed_heard (view_at m s).key f) at h);
  to_none = λ m f d h. stray_local m f (desk_facts m d) (read reply f) refl (λ s l u. sym (addressed_heard (view_at m s).key f) ∙ h s l u);
  opening = λ m f s h. opening_local m f s h (open_tried m f) refl;
  refused = refused;
}
  where
    refused : (m : Memory) (e : Event) (why : Refusal) → (happens m e).answer ≡ refuses why → (happens m e).after ≡ m
    refused m (to_open f) = opening_refused m f
    refused m (to_reply f) = reply_refused_holds m f
