-- What is known of an opening and of a reply that are taken. Assumes nothing.
use Prim.Native.Nat.{ℕ, ◌+◌, ◌*◌, ◌≤◌, ◌<◌}
use mathlib.Core.List.{List}
use mathlib.Core.Bool.{true, false, not}
use mathlib.Core.Path.{◌≡◌, refl, sym, ap, ◌∙◌}
use native.Mathlib.Omega.{arith}
use lib.ListN.{length}
use lib.Dec.{eqb, leb, ltb}
use borrow.Author.Tests.{ltb-true, leb-true, not-true}
use Rattle.digits.specs.declared.refusal.Refusal.{Refusal}
use Rattle.digits.specs.Told.{Told, gives, refuses}
use Rattle.digits.proofs.Sure.{not_refused}
use Rattle.frames.specs.Kind.{read}
use Rattle.frames.specs.Request.{request}
use Rattle.frames.specs.declared.request.StaticRequest.{StaticRequest}
use Rattle.frames.specs.declared.reply.ReplyLabel.{ReplyLabel}
use Rattle.frames.proofs.HeadLaws.{tried_gives}
use Rattle.desk.specs.declared.state.Seat.{Seat}
use Rattle.desk.specs.declared.key.Key.{Key}
use Rattle.desk.specs.declared.opening.Opening.{Opening}
use Rattle.desk.specs.declared.reply.Taking.{Taking}
use Rattle.desk.specs.declared.step.Progress.{Progress}
use Rattle.desk.specs.Limits.{seat_count, most_cells, cell_size}
use Rattle.desk.specs.Key.{request_key, key_in, seat_key, is_key}
use Rattle.desk.specs.Hearing.{heard, in_place}
use Rattle.desk.specs.Step.{progress_of, step, none, goes}
use Rattle.desk.specs.Seats.{seat_at, used_bit, keyed, keyed_at, seat_with, clear_at, lowest_clear}
use Rattle.frames.specs.Reply.{is_letter}
use Rattle.frames.specs.Status.{is_status}
use Rattle.desk.specs.Tally.{entry_of, letter_at, status_at}
use Rattle.desk.specs.Memory.{Memory, capacity, capacity_of, held_by}
use Rattle.desk.specs.Desk.{is_desk}
use Rattle.desk.specs.Calls.{Outcome, outcome, letter_q, key_tried, request_tried, what_is_given, open_tried, opens, opened, seat_tried, label_tried, reply_tried, replies, taken}
use Rattle.digits.proofs.Tests.{and_true, and_l, and_r}
use Rattle.desk.proofs.TallyLaws.{reply_listed, right_entry, held_most}
use Rattle.desk.proofs.Below.{first_sound, first_before}
use Rattle.desk.proofs.KeyLaws.{same_key_case, request_legal}
use Rattle.desk.proofs.HearingLaws.{heard_long, heard_reply}
use Rattle.desk.proofs.ReplayLaws.{replay_held, goes_step, replayed_most, Facts, desk_facts}

-- ---- answers that are not refusals

module _ {A B : Type 0} where
  record Given (x : Told A) (further : A → Told B) (b : B) : Type 0 where
    one : A
    is : x ≡ gives one
    rest : further one ≡ gives b

  given : (x : Told A) (further : A → Told B) (b : B) → what_is_given x further ≡ gives b → Given x further b
  given (gives a) further b e = record { one = a; is = refl; rest = e }
  given (refuses why) further b e = absurd (not_refused b why (sym e))

-- ---- a used seat holds as many records as it says

pub held_records : (m : Memory) (s : ℕ) → Facts m → s < seat_count → used_bit m.bits s ≡ true → (seat_at m.row s).held ≡ length (held_by m s)
held_records m s d l u = let h = replay_held none (held_by m s) in ap (λ (p : Progress). p.held) (d.agree s l u) ∙ omega (arith, h)

-- ---- the seat that is found is in use and has the key

pub found_keyed : (row : List Seat) (bits : ℕ) (k : Key) → seat_with row bits k < seat_count → keyed_at row bits k (seat_with row bits k) ≡ true
unfolding seat_with
found_keyed row bits k l = first_sound seat_count (keyed_at row bits k) l

pub keyed_used : (row : List Seat) (bits : ℕ) (k : Key) (s : ℕ) → keyed_at row bits k s ≡ true → used_bit bits s ≡ true
unfolding keyed
keyed_used row bits k s h = and_l (used_bit bits s) _ h

pub keyed_key : (row : List Seat) (bits : ℕ) (k : Key) (s : ℕ) → keyed_at row bits k s ≡ true → seat_key (seat_at row s) ≡ k
unfolding keyed
keyed_key row bits k s h = same_key_case (seat_key (seat_at row s)) k (and_r (used_bit bits s) _ h)

-- ---- a reply that is taken

pub record Took (m : Memory) (f : List ℕ) (t : Taking) : Type 0 where
  pub facts : Facts m
  pub label : ReplyLabel
  pub hears : heard f ≡ gives label
  pub status : label.status ≡ t.status
  pub found : seat_with m.row m.bits (key_in label) ≡ t.seat
  pub below : t.seat < seat_count
  pub steps : goes (step (progress_of (seat_at m.row t.seat)) true t.status) ≡ true
  pub room : m.count < capacity m

took_seat : (m : Memory) (f : List ℕ) (t : Taking) (c : ReplyLabel) (s : ℕ) → Facts m → heard f ≡ gives c → seat_with m.row m.bits (key_in c) ≡ s → s < seat_count
    → seat_tried (seat_at m.row s) (ltb m.count (capacity m)) (record { seat = s; status = c.status }) ≡ gives t → Took m f t
unfolding seat_tried step
took_seat m f t c s facts h e l q =
    let p = progress_of (seat_at m.row s) in
    let g = given (step p (ltb m.count (capacity m)) c.status) _ t q in
    let a = tried_gives (eqb p.ended 0) _ _ _ g.is in
    let b = tried_gives (in_place p.held c.status) _ _ _ a.1 in
    let d = tried_gives (ltb m.count (capacity m)) _ _ _ b.1 in
    let w = g.rest in
    let is : record { seat = s; status = c.status } ≡ t = cc in
    let ps : s ≡ t.seat = ap (λ (x : Taking). x.seat) is in
    let pt : c.status ≡ t.status = ap (λ (x : Taking). x.status) is in
    record {
      facts = facts;
      label = c;
      hears = h;
      status = pt;
      found = e ∙ ps;
      below = rw ps at l;
      steps = rw (ps, pt) at (goes_step p c.status ∙ and_true a.0 b.0);
      room = ltb-true _ _ d.0;
    }

pub took : (m : Memory) (f : List ℕ) (t : Taking) → reply_tried m f ≡ gives t → Took m f t
unfolding reply_tried label_tried
took m f t q =
    let d = tried_gives (is_desk m) _ _ t q in
    let g = given (heard f) (label_tried m.row m.bits (ltb m.count (capacity m))) t d.1 in
    let s = seat_with m.row m.bits (key_in g.one) in
    let l = tried_gives (ltb s seat_count) _ _ t g.rest in
    took_seat m f t g.one s (desk_facts m d.0) g.is refl (ltb-true s seat_count l.0) l.1

module _ (m : Memory) (f : List ℕ) (t : Taking) (k : Took m f t) where
  took_keyed : keyed_at m.row m.bits (key_in k.label) t.seat ≡ true
  took_keyed = rw k.found at (found_keyed m.row m.bits (key_in k.label) (rw k.found k.below))

  pub took_used : used_bit m.bits t.seat ≡ true
  took_used = keyed_used m.row m.bits (key_in k.label) t.seat took_keyed

  pub took_key : seat_key (seat_at m.row t.seat) ≡ key_in k.label
  took_key = keyed_key m.row m.bits (key_in k.label) t.seat took_keyed

-- a taken reply can be counted: its letter and status have an entry, which is small
pub record Countable (m : Memory) (f : List ℕ) (t : Taking) : Type 0 where
  pub letter : is_letter (letter_at f) ≡ true
  pub status : is_status t.status ≡ true
  pub same : t.status ≡ status_at f
  pub few : entry_of m.tally (letter_at f) t.status ≤ m.count

pub took_countable : (m : Memory) (f : List ℕ) (t : Taking) → Took m f t → Countable m f t
took_countable m f t k =
    let h = heard_reply f k.label k.hears in
    let g = reply_listed f h.0 h.1.0 in
    let e : t.status ≡ status_at f = sym k.status ∙ h.1.1 in
    let w = right_entry m.cells m.count m.tally k.facts.tally (letter_at f) (status_at f) g.letter g.status in
    let n = held_most m.cells m.count (letter_at f) (status_at f) in
    record { letter = g.letter; status = rw e g.status; same = e; few = rw e (omega (arith, w, n)) }

-- what must hold for the stores of a taken reply
pub record Room (m : Memory) (f : List ℕ) (t : Taking) : Type 0 where
  pub seat : t.seat < seat_count
  pub count : m.count < most_cells
  pub marks : m.count < length m.marks
  pub cells : m.count * cell_size + cell_size ≤ length m.cells
  pub frame : length f ≡ cell_size
  pub held : (seat_at m.row t.seat).held ≤ m.count

pub took_room : (m : Memory) (f : List ℕ) (t : Taking) → Took m f t → Room m f t
unfolding capacity_of
took_room m f t k =
    let r = k.room in
    let n = replayed_most m.cells m.marks t.seat m.count in
    let h = ap (λ (p : Progress). p.held) (k.facts.agree t.seat k.below (took_used m f t k)) in
    record { seat = k.below; count = omega arith; marks = omega arith; cells = omega arith; frame = heard_long f k.label k.hears; held = omega (arith, n, h) }

-- ---- an opening that is taken

-- a key that a request can have and no seat has, at a clear seat
pub record OpensAt (m : Memory) (o : Opening) : Type 0 where
  pub facts : Facts m
  pub legal : is_key o.key ≡ true
  pub fresh : (i : ℕ) → i < seat_count → keyed_at m.row m.bits o.key i ≡ false
  pub below : o.seat < seat_count
  pub clear : used_bit m.bits o.seat ≡ false

-- the key of the request that the frame holds, at the lowest clear seat
pub record Opens (m : Memory) (f : List ℕ) (o : Opening) : Type 0 where
  pub at : OpensAt m o
  pub asked : StaticRequest
  pub reads : read request f ≡ gives asked
  pub key : request_key asked ≡ o.key
  pub lowest : o.seat ≡ lowest_clear m.bits

pub fresh_below : (row : List Seat) (bits : ℕ) (k : Key) → seat_count ≤ seat_with row bits k → (i : ℕ) → i < seat_count → keyed_at row bits k i ≡ false
unfolding seat_with
fresh_below row bits k l i h = first_before seat_count (keyed_at row bits k) i (omega arith)

lowest_is_clear : (bits : ℕ) → lowest_clear bits < seat_count → used_bit bits (lowest_clear bits) ≡ false
unfolding lowest_clear
lowest_is_clear bits l = not-true _ (first_sound 64 (clear_at bits) (omega arith))

opens_key : (m : Memory) (f : List ℕ) (o : Opening) (r : StaticRequest) → Facts m → read request f ≡ gives r → key_tried m.row m.bits (request_key r) ≡ gives o → Opens m f o
unfolding key_tried
opens_key m f o r facts e q =
    let a = tried_gives (leb seat_count (seat_with m.row m.bits (request_key r))) _ _ o q in
    let b = tried_gives (ltb (lowest_clear m.bits) seat_count) _ _ o a.1 in
    let g = b.1 in
    let is : record { seat = lowest_clear m.bits; key = request_key r } ≡ o = cc in
    let p : lowest_clear m.bits ≡ o.seat = ap (λ (x : Opening). x.seat) is in
    let k : request_key r ≡ o.key = ap (λ (x : Opening). x.key) is in
    let l = ltb-true (lowest_clear m.bits) seat_count b.0 in
    record {
      at = record {
        facts = facts;
        legal = rw (← k) (request_legal f r e);
        fresh = rw (← k) (fresh_below m.row m.bits (request_key r) (leb-true seat_count _ a.0));
        below = rw p at l;
        clear = rw p at (lowest_is_clear m.bits l);
      };
      asked = r;
      reads = e;
      key = k;
      lowest = sym p;
    }

pub opens_taken : (m : Memory) (f : List ℕ) (o : Opening) → open_tried m f ≡ gives o → Opens m f o
unfolding open_tried request_tried
opens_taken m f o q =
    let d = tried_gives (is_desk m) _ _ o q in
    let g = given (read request f) (request_tried m.row m.bits) o d.1 in
    let a = tried_gives (not (eqb g.one.information letter_q)) _ _ o g.rest in
    opens_key m f o g.one (desk_facts m d.0) g.is a.1

-- ---- a call is taken or refused

module _ {A : Type 0} (m : Memory) (seat : A → ℕ) (after : A → Memory) (P : Outcome → Type 0) where
  by_told : (t : Told A) → ((a : A) → t ≡ gives a → P (record { answer = gives (seat a); after = after a })) → ((why : Refusal) → P (record { answer = refuses why; after = m })) → P (outcome m seat after t)
  by_told (gives a) h g = h a refl
  by_told (refuses why) h g = g why

module _ (m : Memory) (f : List ℕ) where
  pub after_taken : (t : Taking) → reply_tried m f ≡ gives t → replies m f ≡ record { answer = gives t.seat; after = taken m f t }
  unfolding replies
  after_taken t e = rw e

  pub after_refused : (why : Refusal) → reply_tried m f ≡ refuses why → replies m f ≡ record { answer = refuses why; after = m }
  unfolding replies
  after_refused why e = rw e

  pub after_opened : (o : Opening) → open_tried m f ≡ gives o → opens m f ≡ record { answer = gives o.seat; after = opened m o }
  unfolding opens
  after_opened o e = rw e

  pub after_not_opened : (why : Refusal) → open_tried m f ≡ refuses why → opens m f ≡ record { answer = refuses why; after = m }
  unfolding opens
  after_not_opened why e = rw e

  -- what holds of both holds of the call
  pub by_reply : (P : Outcome → Type 0) → ((t : Taking) → Took m f t → P (record { answer = gives t.seat; after = taken m f t }))
      → ((why : Refusal) → P (record { answer = refuses why; after = m })) → P (replies m f)
  unfolding replies
  by_reply P h g = by_told m _ (taken m f) P (reply_tried m f) (λ t e. h t (took m f t e)) g

  pub by_opening : (P : Outcome → Type 0) → ((o : Opening) → Opens m f o → P (record { answer = gives o.seat; after = opened m o }))
      → ((why : Refusal) → P (record { answer = refuses why; after = m })) → P (opens m f)
  unfolding opens
  by_opening P h g = by_told m _ (opened m) P (open_tried m f) (λ o e. h o (opens_taken m f o e)) g

  -- a refused call changes nothing
  pub reply_refused_holds : (why : Refusal) → (replies m f).answer ≡ refuses why → (replies m f).after ≡ m
  reply_refused_holds why = by_reply (λ (o : Outcome). o.answer ≡ refuses why → o.after ≡ m) (λ t k h. absurd (not_refused t.seat why h)) (λ g h. refl)

  pub opening_refused : (why : Refusal) → (opens m f).answer ≡ refuses why → (opens m f).after ≡ m
  opening_refused why = by_opening (λ (o : Outcome). o.answer ≡ refuses why → o.after ≡ m) (λ o k h. absurd (not_refused o.seat why h)) (λ g h. refl)
