-- Mixed replies: each request holds what the rule says of the frames addressed to it, and they were answered as it says. Assumes nothing.
use Prim.Native.Nat.{ℕ, ◌+◌, ◌<◌, ◌≤◌}
use mathlib.Core.Bool.{Bool, true, false, cond, not}
use mathlib.Core.Path.{◌≡◌, refl, sym, ap, subst, ◌∙◌}
use mathlib.Core.List.{List, [], ◌∷◌, ◌++◌}
use native.Mathlib.Omega.{arith}
use lib.Dec.{eqb, ltb}
use lib.ListN.{length}
use borrow.Author.Tests.{lt-ltb}
use Rattle.digits.specs.Told.{Told, gives, refuses}
use Rattle.digits.proofs.Tests.{by-test}
use Rattle.digits.proofs.Sure.{not_refused}
use Rattle.frames.specs.Kind.{read}
use Rattle.frames.specs.Request.{request}
use Rattle.frames.specs.declared.request.StaticRequest.{StaticRequest}
use Rattle.frames.specs.declared.reply.ReplyLabel.{ReplyLabel}
use Rattle.desk.specs.declared.key.Key.{Key}
use Rattle.desk.specs.declared.reply.Taking.{Taking}
use Rattle.desk.specs.declared.step.Progress.{Progress}
use Rattle.desk.specs.Limits.{seat_count}
use Rattle.desk.specs.Key.{request_key, key_in}
use Rattle.desk.specs.Hearing.{heard, has_key, status_in}
use Rattle.desk.specs.Step.{step}
use Rattle.desk.specs.Seats.{used_bit}
use Rattle.desk.specs.Memory.{Memory, capacity}
use Rattle.desk.specs.Desk.{is_desk}
use Rattle.desk.specs.Calls.{Outcome, opens, replies, emptied}
use Rattle.desk.specs.Rule.{Frame}
use Rattle.desk.specs.Events.{Event, to_open, to_reply, happens, run, openings, heard_all, Stands, addressed, events_to, frames_to, answers_to}
use Rattle.desk.specs.Views.{View, view_at, progress_in, new_view, Seen, reply_seen, seat_step, cell_free, IsStep}
use Rattle.desk.specs.Folds.{MayStand, CallsMayStand, CellsFor, view_after, says_to, FoldsWhatMayStand}
use Rattle.desk.specs.Mix.{Stretch, seated, expected, replies_to, Sorted, SortsFromAnyDesk, SortsOpenedRequests}
use Rattle.desk.proofs.Below.{never}
use Rattle.desk.proofs.KeyLaws.{same_key_case, own_key}
use Rattle.desk.proofs.HearingLaws.{addressed_heard}
use Rattle.desk.proofs.RuleLaws.{fold_is_rule}
use Rattle.desk.proofs.ReplayLaws.{keyed_at_law, Facts, desk_facts, facts_desk}
use Rattle.desk.proofs.StepLaws.{held_records, Took, took_key, by_reply, by_opening}
use Rattle.desk.proofs.DeskLaws.{taken_capacity, used_other, emptied_desk, opening_facts, stays_desk}
use Rattle.desk.proofs.ViewLaws.{one_seat, taken_moves, taken_seat, opened_moves, seat_of, is_local}

-- ---- openings and replies may stand in a stretch

hears_own : (m : Memory) (f : Frame) (t : Taking) → Took m f t → addressed (view_at m t.seat).key (to_reply f) ≡ true
hears_own m f t k = rw (addressed_heard (view_at m t.seat).key f, k.hears, took_key m f t k) (own_key (key_in k.label))

reply_other : (m : Memory) (f : Frame) (s : ℕ) → addressed (view_at m s).key (to_reply f) ≡ false → view_at (replies m f).after s ≡ view_at m s
reply_other m f s h =
    by_reply m f (λ (o : Outcome). view_at o.after s ≡ view_at m s)
    (λ t k. (taken_moves m f t k).others s (λ q. never _ (hears_own m f t k) (rw q at h)))
    (λ why. refl)

opening_other : (m : Memory) (f : Frame) (s : ℕ) → (view_at m s).used ≡ true → view_at (opens m f).after s ≡ view_at m s
opening_other m f s u = by_opening m f (λ (o : Outcome). view_at o.after s ≡ view_at m s) (λ o k. (opened_moves m o k.at).others s (used_other m o k.at s u)) (λ why. refl)

pub calls_may_stand : CallsMayStand
unfolding addressed
calls_may_stand = record { desk = desk; own = own; other = other }
  where
    desk : (m : Memory) (e : Event) → true ≡ true → is_desk m ≡ true → is_desk (happens m e).after ≡ true
    desk m (to_open f) y d = stays_desk.opening m f d
    desk m (to_reply f) y d = stays_desk.reply m f d

    own : (m : Memory) (e : Event) (s : ℕ) → true ≡ true → is_desk m ≡ true → s < seat_count → (view_at m s).used ≡ true → addressed (view_at m s).key e ≡ true → IsStep m e s
    own m (to_open f) s y d l u h = never true refl (sym h)
    own m (to_reply f) s y d l u h = (is_local.to_seat m f s d l u h).step

    other : (m : Memory) (e : Event) (s : ℕ) → true ≡ true → is_desk m ≡ true → s < seat_count → (view_at m s).used ≡ true → addressed (view_at m s).key e ≡ false → view_at (happens m e).after s ≡ view_at m s
    other m (to_open f) s y d l u h = opening_other m f s u
    other m (to_reply f) s y d l u h = reply_other m f s h

-- ---- a request goes by its own frames alone

-- a step leaves use and key
seen_keeps : (s : ℕ) (v : View) (f : Frame) (t : Told Progress) → ((reply_seen s v f t).view.used ≡ v.used) × ((reply_seen s v f t).view.key ≡ v.key)
seen_keeps s v f (gives p) = (refl, refl)
seen_keeps s v f (refuses why) = (refl, refl)

step_keeps : (s : ℕ) (v : View) (k : Key) (e : Event) → addressed k e ≡ true → ((seat_step s true v e).view.used ≡ v.used) × ((seat_step s true v e).view.key ≡ v.key)
unfolding addressed
step_keeps s v k (to_open f) h = never true refl (sym h)
step_keeps s v k (to_reply f) h = seen_keeps s v f (step (progress_in v) true (status_in (heard f)))

module _ (may : Event → Bool) (stand : MayStand may) where
  fold : (es : List Event) (m : Memory) (s : ℕ) (k : Key) → is_desk m ≡ true → Stands may es → s < seat_count → (view_at m s).used ≡ true → (view_at m s).key ≡ k → CellsFor k m es
      → (view_at (run m es) s ≡ view_after s (view_at m s) (events_to k es)) × (answers_to k m es ≡ says_to s (view_at m s) (events_to k es))
  unfolding run events_to answers_to view_after says_to
  fold [] m s k d st l u q c = (refl, refl)
  fold (e ∷ es) m s k d st l u q c =
      let x = (happens m e).after in
      let v = view_at m s in
      let d' = stand.desk m e st.0 d in
      by-test (addressed k e)
      (λ h.
      let w = stand.own m e s st.0 d l u (rw q h) in
      let g : seat_step s (cell_free m) v e ≡ seat_step s true v e = ap (λ (b : Bool). seat_step s b v e) (c.0 h) in
      let own = w.own ∙ ap (λ (y : Seen). y.view) g in
      let kept = step_keeps s v k e h in
      let ih = fold es x s k d' st.1 l (ap (λ (y : View). y.used) own ∙ kept.0 ∙ u) (ap (λ (y : View). y.key) own ∙ kept.1 ∙ q) c.1 in
      rw h (
        ih.0 ∙ ap (λ (y : View). view_after s y (events_to k es)) own,
        λ i. (w.answer ∙ ap (λ (y : Seen). y.answer) g) i ∷ (ih.1 ∙ ap (λ (y : View). says_to s y (events_to k es)) own) i,
      ))
      (λ h.
      let own = stand.other m e s st.0 d l u (rw q h) in
      let ih = fold es x s k d' st.1 l (ap (λ (y : View). y.used) own ∙ u) (ap (λ (y : View). y.key) own ∙ q) c.1 in
      rw h (ih.0 ∙ ap (λ (y : View). view_after s y (events_to k es)) own, ih.1 ∙ ap (λ (y : View). says_to s y (events_to k es)) own))

pub folds_what_may_stand : FoldsWhatMayStand
folds_what_may_stand may stand m es s d st l u c = fold may stand es m s (view_at m s).key d st l u refl c

-- ---- a stretch with cells enough has a free cell for each of its replies

-- a reply leaves each key at its seat, and the size of the store
record Next (m x : Memory) : Type 0 where
  seat : (k : Key) → seat_of x k ≡ seat_of m k
  size : capacity x ≡ capacity m

next : (m : Memory) (f : Frame) → Next m (replies m f).after
next m f =
    by_reply m f (λ (o : Outcome). Next m o.after)
    (λ t k. record { seat = taken_seat m f t k; size = taken_capacity m f t k })
    (λ why. record { seat = λ k. refl; size = refl })

seated_same : (m x : Memory) (got : Told ReplyLabel) → Next m x → seated x got ≡ seated m got
seated_same m x (gives c) n = ap (λ (s : ℕ). ltb s seat_count) (n.seat (key_in c))
seated_same m x (refuses why) n = refl

replies_same : (m x : Memory) (es : List Event) → Next m x → replies_to x es ≡ replies_to m es
unfolding replies_to
replies_same m x [] n = refl
replies_same m x (to_open f ∷ es) n = rw (replies_same m x es n)
replies_same m x (to_reply f ∷ es) n = rw (seated_same m x (heard f) n, replies_same m x es n)

count_next : (m : Memory) (f : Frame) → (replies m f).after.count ≤ m.count + cond (expected m (to_reply f)) 1 0
count_next m f =
    by_reply m f (λ (o : Outcome). o.after.count ≤ m.count + cond (expected m (to_reply f)) 1 0)
    (λ t k. rw (k.hears, k.found, lt-ltb t.seat seat_count k.below) (omega arith))
    (λ why. omega arith)

-- a frame addressed to a key that has a seat is one of those that are counted
own_seated : (m : Memory) (k : Key) → seat_of m k < seat_count → (got : Told ReplyLabel) → has_key k got ≡ true → seated m got ≡ true
own_seated m k l (gives c) h = rw (← same_key_case k (key_in c) h) (lt-ltb (seat_of m k) seat_count l)
own_seated m k l (refuses why) h = h

cells_for : (es : List Event) (m : Memory) (k : Key) → Stretch es → m.count + replies_to m es ≤ capacity m → seat_of m k < seat_count → CellsFor k m es
unfolding replies_to
cells_for [] m k st r l = tt
cells_for (to_open f ∷ es) m k st r l = never true refl (sym st.0)
cells_for (to_reply f ∷ es) m k st r l =
    let n = next m f in
    let a = replies_same m (replies m f).after es n in
    let b = count_next m f in
    let c = n.size in (
      λ h.
          let g = own_seated m k l (heard f) (sym (addressed_heard k f) ∙ h) in
          let t : m.count + (1 + replies_to m es) ≤ capacity m = rw g at r in
          lt-ltb m.count (capacity m) (omega arith),
      cells_for es (replies m f).after k st.1 (omega (arith, a, b, c, r)) (rw (n.seat k) l),
    )

-- ---- as if its frames had come alone

-- the events addressed to a key, among themselves: they are replies, all of them are addressed to it, and they need no more cells
record Alone (m : Memory) (k : Key) (es ds : List Event) : Type 0 where
  frames : heard_all (frames_to k es) ≡ ds
  events : events_to k ds ≡ ds
  stretch : Stretch ds
  fewer : replies_to m ds ≤ replies_to m es

alone_by : (m : Memory) (k : Key) (e : Event) (es : List Event) → Alone m k es (events_to k es) → (b : Bool) → addressed k e ≡ b → Alone m k (e ∷ es) (cond b (e ∷ events_to k es) (events_to k es))
unfolding frames_to events_to replies_to addressed
alone_by m k (to_open f) es h true q = never true refl (sym q)
alone_by m k (to_reply f) es h true q =
    record { frames = rw q (ap (λ (x : List Event). to_reply f ∷ x) h.frames); events = rw q (ap (λ (x : List Event). to_reply f ∷ x) h.events); stretch = (refl, h.stretch); fewer = let w = h.fewer in omega arith }
alone_by m k e es h false q = record { frames = rw q h.frames; events = h.events; stretch = h.stretch; fewer = let w = h.fewer in omega arith }

alone : (m : Memory) (k : Key) (es : List Event) → Alone m k es (events_to k es)
unfolding frames_to events_to
alone m k [] = record { frames = refl; events = refl; stretch = tt; fewer = omega arith }
alone m k (e ∷ es) = alone_by m k e es (alone m k es) (addressed k e) refl

all_stand : (es : List Event) → Stands (λ e. true) es
all_stand [] = tt
all_stand (e ∷ es) = (refl, all_stand es)

-- the request at a seat, by its view
abbrev SortedBy : Memory → List Event → ℕ → Key → View → Type 0
SortedBy m es s k v = Sorted m es s k v.records (not (eqb (length v.records) 0)) (not (eqb v.ended 0))

folded : (m : Memory) (es : List Event) (s : ℕ) (k : Key) → Facts m → Stretch es → m.count + replies_to m es ≤ capacity m → s < seat_count → used_bit m.bits s ≡ true → (view_at m s).key ≡ k
    → (view_at (run m es) s ≡ view_after s (view_at m s) (events_to k es)) × (answers_to k m es ≡ says_to s (view_at m s) (events_to k es))
folded m es s k d st r l u ek =
    let own = one_seat m k s d l (keyed_at_law m.row m.bits s k u ek) in
    fold (λ e. true) calls_may_stand es m s k (facts_desk m d) (all_stand es) l u ek (cells_for es m k st r (rw own l))

sorted : (m : Memory) (es : List Event) (s : ℕ) (k : Key) → Facts m → Stretch es → m.count + replies_to m es ≤ capacity m → s < seat_count → used_bit m.bits s ≡ true
    → (view_at m s).key ≡ k → SortedBy m es s k (view_at m s)
sorted m es s k d st r l u ek =
    let a = folded m es s k d st r l u ek in
    let own = alone m k es in
    let w = own.fewer in
    let b = rw own.events at (folded m (events_to k es) s k d own.stretch (omega arith) l u ek) in
    let rule = fold_is_rule s (view_at m s) (frames_to k es) in
    record {
      held = ap (λ (v : View). v.records) a.0 ∙ rw own.frames at rule.records;
      answers = a.1 ∙ rw own.frames at rule.answers;
      held_alone = rw own.frames (ap (λ (v : View). v.records) (a.0 ∙ sym b.0));
      answers_alone = rw own.frames (a.1 ∙ sym b.1);
    }

pub sorts_from_any_desk : SortsFromAnyDesk
sorts_from_any_desk m es s d st r l u =
    rw (← held_records m s (desk_facts m d) l u) at (sorted m es s (view_at m s).key (desk_facts m d) st r l u refl)

-- ---- openings first

-- an opening leaves cells, marks and count
pub record Lent (m x : Memory) : Type 0 where
  pub count : x.count ≡ m.count
  pub cells : x.cells ≡ m.cells
  pub marks : x.marks ≡ m.marks

pub lent : (m : Memory) (f : Frame) → Lent m (opens m f).after
lent m f = by_opening m f (λ (o : Outcome). Lent m o.after) (λ o k. record { count = refl; cells = refl; marks = refl }) (λ why. record { count = refl; cells = refl; marks = refl })

record Ready (m x : Memory) : Type 0 where
  facts : Facts x
  lent : Lent m x

ready_run : (m x : Memory) (l : List Frame) → Ready m x → Ready m (run x (openings l))
unfolding run
ready_run m x [] h = h
ready_run m x (f ∷ l) h =
    let k = lent x f in
    ready_run m (opens x f).after l
    (record { facts = opening_facts x f h.facts; lent = record { count = k.count ∙ h.lent.count; cells = k.cells ∙ h.lent.cells; marks = k.marks ∙ h.lent.marks } })

-- a request that was just opened keeps its view through further openings
fresh_run : (m : Memory) (s : ℕ) (k : Key) (l : List Frame) → view_at m s ≡ new_view k → view_at (run m (openings l)) s ≡ new_view k
unfolding run
fresh_run m s k [] h = h
fresh_run m s k (f ∷ l) h = fresh_run (opens m f).after s k l (opening_other m f s (ap (λ (v : View). v.used) h) ∙ h)

run_both : (m : Memory) (a b : List Frame) → run m (openings (a ++ b)) ≡ run (run m (openings a)) (openings b)
unfolding run
run_both m [] b = refl
run_both m (f ∷ a) b = run_both (opens m f).after a b

just_opened : (m : Memory) (f : Frame) (r : StaticRequest) (s : ℕ) → read request f ≡ gives r → (opens m f).answer ≡ gives s → (s < seat_count) × (view_at (opens m f).after s ≡ new_view (request_key r))
just_opened m f r s e h =
    let below = by_opening m f (λ (o : Outcome). o.answer ≡ gives s → s < seat_count)
    (λ o k g. let q : o.seat ≡ s = cc in rw q at k.at.below)
    (λ why g. absurd (not_refused s why (sym g))) in
    (below h, rw e at (is_local.opening m f s h).1.step.own)

pub sorts_opened_requests : SortsOpenedRequests
unfolding run
sorts_opened_requests m before after f r es s e h st room =
    let x = run (emptied m) (openings before) in
    let y = run (emptied m) (openings (before ++ f ∷ after)) in
    let o = just_opened x f r s e h in
    let n : view_at y s ≡ new_view (request_key r) = ap (λ (z : Memory). view_at z s) (run_both (emptied m) before (f ∷ after)) ∙ fresh_run (opens x f).after s (request_key r) after o.1 in
    let g = ready_run (emptied m) (emptied m) (before ++ f ∷ after) (record { facts = emptied_desk m; lent = record { count = refl; cells = refl; marks = refl } }) in
    let c : capacity y ≡ capacity m = rw (g.lent.cells, g.lent.marks) in
    let z : y.count ≡ 0 = g.lent.count in
    subst (SortedBy y es s (request_key r)) n
    (sorted y es s (request_key r) g.facts st (omega arith) o.0 (ap (λ (v : View). v.used) n) (ap (λ (v : View). v.key) n))
