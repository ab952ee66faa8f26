-- Desks that look the same: no event tells them apart. Assumes nothing.
use Prim.Native.Nat.{ℕ, ◌<◌}
use mathlib.Core.Bool.{◌&&◌}
use mathlib.Core.Path.{◌≡◌, refl, sym, ap, ap₂, ◌∙◌}
use mathlib.Core.List.{List, [], ◌∷◌}
use lib.ListN.{length, get_or}
use lib.Dec.{ltb}
use borrow.Author.Tests.{ltb-true}
use Rattle.digits.specs.declared.refusal.Refusal.{Refusal}
use Rattle.digits.specs.Told.{Told, gives, refuses}
use Rattle.digits.proofs.Tests.{by-test}
use Rattle.digits.proofs.Sure.{not_refused, same_refusal}
use Rattle.frames.specs.Kind.{read}
use Rattle.frames.specs.Request.{request}
use Rattle.frames.specs.declared.request.StaticRequest.{StaticRequest}
use Rattle.frames.specs.declared.reply.ReplyLabel.{ReplyLabel}
use Rattle.desk.specs.declared.key.Key.{Key}
use Rattle.desk.specs.declared.opening.Opening.{Opening}
use Rattle.desk.specs.declared.reply.Taking.{Taking}
use Rattle.desk.specs.Limits.{seat_count}
use Rattle.desk.specs.Key.{request_key, key_in, same_key}
use Rattle.desk.specs.Hearing.{heard}
use Rattle.desk.specs.Rule.{Frame}
use Rattle.frames.specs.Reply.{letters}
use Rattle.frames.specs.Status.{statuses}
use Rattle.desk.specs.Looks.{among}
use Rattle.desk.specs.Tally.{is_of}
use Rattle.desk.specs.Memory.{Memory, capacity}
use Rattle.desk.specs.Calls.{Outcome, outcome, what_is_given, key_tried, request_tried, open_tried, opens, opened, reply_tried, replies, taken}
use Rattle.desk.specs.Events.{Event, to_open, to_reply, happens, run, answers}
use Rattle.desk.specs.Views.{View, view_at, new_view, cell_free, Same, ViewsTellAll, SameGoesOn, SameForever}
use Rattle.desk.proofs.Below.{eq-case}
use Rattle.desk.proofs.ReplayLaws.{Facts, desk_facts, facts_desk}
use Rattle.desk.proofs.Bits.{same_bits}
use Rattle.desk.proofs.TallyLaws.{same_table}
use Rattle.desk.proofs.SumLaws.{held_spread, sum_ext, all_records}
use Rattle.desk.proofs.StepLaws.{took, opens_taken}
use Rattle.desk.proofs.DeskLaws.{taken_capacity, reply_facts, opening_facts}
use Rattle.desk.proofs.ViewLaws.{seat_of, seat_same, Moves, with_record, taken_moves, opened_moves, try_of, damaged_tried, stray_tried, heard_tried}

-- ---- what an event does that is taken

-- the seat, and what becomes of its view
pub record Deed : Type 0 where
  pub seat : ℕ
  pub turn : View → View

abbrev pub open_deed : Opening → Told Deed
open_deed o = gives (record { seat = o.seat; turn = λ v. new_view o.key })

abbrev pub reply_deed : Frame → Taking → Told Deed
reply_deed f t = gives (record { seat = t.seat; turn = λ v. with_record v f })

abbrev pub deed_of : Memory → Event → Told Deed
deed_of m (to_open f) = what_is_given (open_tried m f) open_deed
deed_of m (to_reply f) = what_is_given (reply_tried m f) (reply_deed f)

pub record Done (m : Memory) (o : Outcome) (d : Deed) : Type 0 where
  pub answer : o.answer ≡ gives d.seat
  pub size : capacity o.after ≡ capacity m
  pub moves : Moves m o.after d.seat (d.turn (view_at m d.seat))

module _ {A : Type 0} (m : Memory) (seat : A → ℕ) (after : A → Memory) (turn : A → View → View) where
  abbrev deed : A → Told Deed
  deed a = gives (record { seat = seat a; turn = turn a })

  told_done : (d : Deed) (t : Told A) → ((a : A) → t ≡ gives a → Done m (record { answer = gives (seat a); after = after a }) (record { seat = seat a; turn = turn a })) → what_is_given t deed ≡ gives d → Done m (outcome m seat after t) d
  told_done d (gives a) h e = let q : record { seat = seat a; turn = turn a } ≡ d = cc in rw (← q) (h a refl)
  told_done d (refuses why) h e = absurd (not_refused d why (sym e))

  told_refused : (why : Refusal) (t : Told A) → what_is_given t deed ≡ refuses why → outcome m seat after t ≡ record { answer = refuses why; after = m }
  told_refused why (gives a) e = absurd (not_refused _ why e)
  told_refused why (refuses g) e = ap (λ (y : Refusal). record { answer = refuses y; after = m }) (same_refusal g why e)

pub done : (m : Memory) (e : Event) (d : Deed) → deed_of m e ≡ gives d → Done m (happens m e) d
unfolding opens replies
done m (to_open f) d = told_done m _ (opened m) _ d (open_tried m f) (λ o e. record { answer = refl; size = refl; moves = opened_moves m o (opens_taken m f o e).at })
done m (to_reply f) d = told_done m _ (taken m f) _ d (reply_tried m f) (λ t e. record { answer = refl; size = taken_capacity m f t (took m f t e); moves = taken_moves m f t (took m f t e) })

pub not_done : (m : Memory) (e : Event) (why : Refusal) → deed_of m e ≡ refuses why → happens m e ≡ record { answer = refuses why; after = m }
unfolding opens replies
not_done m (to_open f) why = told_refused m _ (opened m) _ why (open_tried m f)
not_done m (to_reply f) why = told_refused m _ (taken m f) _ why (reply_tried m f)

-- ---- what is tried of an event goes by what is seen

-- the seat with a key is the same, looks the same, and finds a cell as before
pub record Looks (m x : Memory) (k : Key) : Type 0 where
  pub seat : seat_of x k ≡ seat_of m k
  pub view : seat_of m k < seat_count → view_at x (seat_of m k) ≡ view_at m (seat_of m k)
  pub free : seat_of m k < seat_count → cell_free x ≡ cell_free m

module _ (m x : Memory) (f : Frame) (d : Facts m) (y : Facts x) where
  heard_same : (c : ReplyLabel) → heard f ≡ gives c → Looks m x (key_in c) → reply_tried x f ≡ reply_tried m f
  heard_same c e w =
      by-test (ltb (seat_of m (key_in c)) seat_count)
      (λ b.
      let l = ltb-true (seat_of m (key_in c)) seat_count b in
      let v : view_at x (seat_of x (key_in c)) ≡ view_at m (seat_of m (key_in c)) = ap (view_at x) w.seat ∙ w.view l in
      heard_tried x f y c e (rw w.seat l)
      ∙ (λ i. try_of (v i) (w.free l i) (record { seat = w.seat i; status = c.status }))
      ∙ sym (heard_tried m f d c e l))
      (λ b. stray_tried x f y c e (rw w.seat b) ∙ sym (stray_tried m f d c e b))

  pub reply_same : (got : Told ReplyLabel) → heard f ≡ got → ((c : ReplyLabel) → got ≡ gives c → Looks m x (key_in c)) → reply_tried x f ≡ reply_tried m f
  reply_same (gives c) e h = heard_same c e (h c refl)
  reply_same (refuses why) e h = damaged_tried x f y why e ∙ sym (damaged_tried m f d why e)

  pub open_same : (got : Told StaticRequest) → read request f ≡ got → x.bits ≡ m.bits → ((k : Key) → seat_of x k ≡ seat_of m k) → open_tried x f ≡ open_tried m f
  unfolding open_tried request_tried key_tried
  open_same (gives r) e b h = rw (facts_desk m d, facts_desk x y, e, h (request_key r), b)
  open_same (refuses why) e b h = rw (facts_desk m d, facts_desk x y, e)

-- ---- the views tell the bits, the count and the tally

-- each number of the tally is a sum over the seats
same_tally : (m x : Memory) → Facts m → Facts x → Same m x → x.tally ≡ m.tally
same_tally m x d y h =
    same_table x.tally m.tally y.tally.whole d.tally.whole (λ i j k l.
    let letter = get_or letters i 0 in
    let status = get_or statuses j 0 in
    y.tally.each i j k l ∙ sym (held_spread x y letter status)
    ∙ sum_ext seat_count _ _ (λ s b. ap (λ (v : View). among (is_of letter status) v.records) (h.view s b))
    ∙ held_spread m d letter status ∙ sym (d.tally.each i j k l))

tells : (m x : Memory) → Facts m → Facts x → Same m x → (x.bits ≡ m.bits) × ((x.count ≡ m.count) × (x.tally ≡ m.tally))
tells m x d y h = (
  same_bits seat_count x.bits m.bits y.bits d.bits (λ i l. ap (λ (v : View). v.used) (h.view i l)),
  (sym (all_records x y) ∙ sum_ext seat_count _ _ (λ s l. ap (λ (v : View). length v.records) (h.view s l)) ∙ all_records m d, same_tally m x d y h),
)

pub views_tell_all : ViewsTellAll
views_tell_all m x d y h = tells m x (desk_facts m d) (desk_facts x y) h

-- ---- an event on both

same_seat : (m x : Memory) (k : Key) → Same m x → seat_of x k ≡ seat_of m k
same_seat m x k h = seat_same m x k (λ i l. ap (λ (v : View). v.used && same_key v.key k) (h.view i l))

deed_same : (m x : Memory) (e : Event) → Facts m → Facts x → Same m x → deed_of x e ≡ deed_of m e
deed_same m x (to_open f) d y h = ap (λ (t : Told Opening). what_is_given t open_deed) (open_same m x f d y (read request f) refl (tells m x d y h).0 (λ k. same_seat m x k h))
deed_same m x (to_reply f) d y h =
    ap (λ (t : Told Taking). what_is_given t (reply_deed f)) (reply_same m x f d y (heard f) refl
    (λ c e. record { seat = same_seat m x (key_in c) h; view = h.view (seat_of m (key_in c)); free = λ l. ap₂ ltb (tells m x d y h).1.0 h.size }))

moved : (m x m' x' : Memory) (s : ℕ) (turn : View → View) → Moves m m' s (turn (view_at m s)) → Moves x x' s (turn (view_at x s)) → (i : ℕ) → view_at x i ≡ view_at m i → view_at x' i ≡ view_at m' i
moved m x m' x' s turn a b i h =
    eq-case i s
    (λ q. let g : view_at x s ≡ view_at m s = rw q at h in rw q (b.own ∙ ap turn g ∙ sym a.own))
    (λ n. b.others i n ∙ h ∙ sym (a.others i n))

abbrev Goes : Memory → Memory → Event → Type 0
Goes m x e = ((happens x e).answer ≡ (happens m e).answer) × Same (happens m e).after (happens x e).after

goes_by : (m x : Memory) (e : Event) → Same m x → (a : Told Deed) → deed_of m e ≡ a → deed_of x e ≡ a → Goes m x e
goes_by m x e h (gives a) p q =
    let j = done m e a p in
    let k = done x e a q in (
      k.answer ∙ sym j.answer,
      record {
        size = k.size ∙ h.size ∙ sym j.size;
        view = λ i l. moved m x _ _ a.seat a.turn j.moves k.moves i (h.view i l);
      },
    )
goes_by m x e h (refuses why) p q = rw (not_done m e why p, not_done x e why q) (refl, h)

goes_on : (m x : Memory) (e : Event) → Facts m → Facts x → Same m x → Goes m x e
goes_on m x e d y h = goes_by m x e h (deed_of m e) refl (deed_same m x e d y h)

pub same_goes_on : SameGoesOn
same_goes_on m x e d y h = goes_on m x e (desk_facts m d) (desk_facts x y) h

-- ---- events one after the other, on both

stays : (m : Memory) (e : Event) → Facts m → Facts (happens m e).after
stays m (to_open f) d = opening_facts m f d
stays m (to_reply f) d = reply_facts m f d

runs_on : (es : List Event) (m x : Memory) → Facts m → Facts x → Same m x → (answers x es ≡ answers m es) × Same (run m es) (run x es)
unfolding answers run
runs_on [] m x d y h = (refl, h)
runs_on (e ∷ es) m x d y h =
    let g = goes_on m x e d y h in
    let r = runs_on es (happens m e).after (happens x e).after (stays m e d) (stays x e y) g.1 in
    (λ i. g.0 i ∷ r.0 i, r.1)

pub same_forever : SameForever
same_forever m x es d y h = runs_on es m x (desk_facts m d) (desk_facts x y) h
