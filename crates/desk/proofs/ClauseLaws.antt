-- The code of the desk's test computes the clauses, in its own order and in one pass over the rows. Assumes nothing.
use Prim.Native.Nat.{ℕ, zero, suc, ◌+◌, ◌*◌, ◌-◌, ◌<◌, ◌≤◌}
use mathlib.Core.Bool.{Bool, true, false, true≢false, false≢true, cond, ◌&&◌}
use mathlib.Core.List.{List, []}
use mathlib.Core.Path.{◌≡◌, refl, sym, ap, ap₂, subst, ◌∙◌}
use lib.ListN.{length, get_or, take, drop, set, replicate, length-replicate, get_or-replicate, length-set}
use lib.Seq.{get_or-set_same, get_or-set_other, get_or-take, get_or-drop}
use native.Mathlib.Omega.{arith}
use borrow.Author.Tests.{eq-eqb, ne_eqb, ltb-true}
use lib.Dec.{eqb, ltb}
use Rattle.digits.specs.Told.{Told, gives, refuses}
use Rattle.digits.proofs.Tests.{by-test, and_true, and_l, and_r}
use Rattle.frames.specs.declared.reply.StaticReply.{StaticReply}
use Rattle.frames.specs.declared.reply.ReplyLabel.{ReplyLabel}
use Rattle.frames.specs.Kind.{read}
use Rattle.frames.specs.Reply.{reply, is_good, labelled, label_at}
use Rattle.desk.specs.declared.state.Seat.{Seat}
use Rattle.desk.specs.declared.key.Key.{Key}
use Rattle.desk.specs.declared.step.Progress.{Progress}
use Rattle.std.proofs.Common.{Option, Some, None, Result, Ok, Err, is_ok, is_some, IfSome}
use Rattle.std.specs.Bool.{then_some}
use Rattle.std.proofs.lemmas.Option.{cond_some, none-some}
use Rattle.desk.specs.declared.step.StepRefusal.{StepRefusal}
use Rattle.desk.specs.declared.step.StepRefusal.TheVariants.{Ended, OutOfPlace, Full}
use Rattle.desk.specs.Limits.{seat_count, most_cells, cell_size}
use Rattle.desk.specs.Below.{all_below}
use Rattle.desk.specs.Key.{key_in, seat_key, is_key}
use Rattle.desk.specs.Hearing.{heard, has_key, status_in}
use Rattle.desk.specs.Step.{advanced, step, none, replay, goes}
use Rattle.desk.specs.Seats.{seat_at, used_bit, keyed}
use Rattle.desk.specs.Tally.{Table, tally_right}
use Rattle.desk.specs.Memory.{Memory, capacity_of, cell_at, mark_at, records_of}
use Rattle.desk.specs.Desk.{is_zero, key_legal, unused_zero, mark_names, mark_good, all_seats, no_bit_above, keys_legal, no_key_shared, unused_all_zero, count_fits, tally_is_count, is_desk}
use Rattle.desk.specs.Replay.{replayed, taken_at, row_good, agrees, replays}
use Rattle.desk.specs.inside.Columns.{Sized, row_of, progress_at, same_at}
use Rattle.desk.specs.inside.Clauses.{seat_good, seat_good_at, has_number, turn_of, row_taken, Tracks}
use Rattle.desk.specs.inside.Counted.{is_clear, row_counted, row_passes, Whole, Leaves}
use Rattle.desk.specs.inside.Judging.{step_told}
use Rattle.desk.proofs.Below.{never, false_or, past, out, and_false_r, eq-case, all_at, all_of, all_and, all_ext}
use Rattle.desk.proofs.HearingLaws.{heard_reply, good_heard}
use Rattle.desk.proofs.TallyLaws.{Listed, reply_listed, clear_is_right, right_counted}
use Rattle.desk.proofs.ColumnLaws.{seat_at_law, key_is_law, unused_held, unused_ended, heard_keyed}
use Rattle.desk.proofs.ReplayLaws.{replayed_next, desk_run}

-- ---- the clauses in the definition's order, and in the order of the code

turned : (s b k a z n r : Bool) → s && b && k && a && z && n && r ≡ s && (b && ((k && z) && (a && (n && r))))
turned false b k a z n r = refl
turned true false k a z n r = refl
turned true true false a z n r = refl
turned true true true false true n r = refl
turned true true true false false n r = refl
turned true true true true true n r = refl
turned true true true true false n r = refl

grouped : (x r t : Bool) → x && r && t ≡ x && (r && t)
grouped true r t = refl
grouped false r t = refl

module _ (row : List Seat) (bits : ℕ) where
  seat_by : (i : ℕ) (b : Bool) → cond b (is_key (seat_key (seat_at row i))) (is_zero (seat_at row i)) ≡ cond b (is_key (seat_key (seat_at row i))) true && cond b true (is_zero (seat_at row i))
  seat_by i true = keep (is_key (seat_key (seat_at row i)))
    where
      keep : (a : Bool) → a ≡ a && true
      keep true = refl
      keep false = refl
  seat_by i false = refl

  seats_are : all_below seat_count (key_legal row bits) && all_below seat_count (unused_zero row bits) ≡ all_below seat_count (seat_good_at row bits)
  unfolding seat_good
  seats_are =
      sym
      (all_ext seat_count (seat_good_at row bits) (λ i. key_legal row bits i && unused_zero row bits i) (λ i l. seat_by i (used_bit bits i))
      ∙ all_and seat_count (key_legal row bits) (unused_zero row bits))

-- a row that is an array has its length; so the code computes the other clauses
pub desk_by : (m : Memory) {r : Bool} → length m.row ≡ seat_count
    → r ≡ no_bit_above m && (all_below seat_count (seat_good_at m.row m.bits) && (no_key_shared m && (count_fits m && (replays m.row m.bits m.count m.cells m.marks && tally_is_count m)))) → r ≡ is_desk m
desk_by m n q =
    past (eq-eqb (length m.row) seat_count n)
    (q ∙ ap (λ (x : Bool). no_bit_above m && (x && (no_key_shared m && (count_fits m && (replays m.row m.bits m.count m.cells m.marks && tally_is_count m))))) (sym (seats_are m.row m.bits)))
    ∙ sym (turned (all_seats m) (no_bit_above m) (keys_legal m) (no_key_shared m) (unused_all_zero m) (count_fits m) (replays m.row m.bits m.count m.cells m.marks && tally_is_count m))
    ∙ sym (grouped (all_seats m && no_bit_above m && keys_legal m && no_key_shared m && unused_all_zero m && count_fits m) (replays m.row m.bits m.count m.cells m.marks) (tally_is_count m))
    ∙ sym (desk_run m)

-- a row with a seat that is not good is no desk
pub no_desk_case : (m : Memory) → length m.row ≡ seat_count → all_below seat_count (seat_good_at m.row m.bits) ≡ false → false ≡ is_desk m
no_desk_case m n e = desk_by m n (sym (and_false_r (no_bit_above m) (sym (out _ e))))

-- ---- the result of a branch; x is what a call returned, and a is what the call's contract says of it

pub if_yes {ℓ} : {A : Type ℓ} {a x : Bool} {r b : A} (d : A) → x ≡ a → x ≡ true → r ≡ b → r ≡ cond a b d
if_yes {a = a} {x = x} {r = r} {b = b} d e t q = q ∙ sym (ap (λ (z : Bool). cond z b d) (sym e ∙ t))

pub if_no {ℓ} : {A : Type ℓ} {a x : Bool} {r d : A} (b : A) → x ≡ a → x ≡ false → r ≡ d → r ≡ cond a b d
if_no {a = a} {x = x} {r = r} {d = d} b e t q = q ∙ sym (ap (λ (z : Bool). cond z b d) (sym e ∙ t))

-- ---- a cell, read

pub taken_goes : (p : Progress) (free : Bool) (status : ℕ) (r : Result (Unit {0}) StepRefusal) → step_told p status r ≡ step p free status → is_ok r ≡ goes (step p free status)
taken_goes p free status r e = by r ∙ ap goes e
  where
    by : (r : Result (Unit {0}) StepRefusal) → is_ok r ≡ goes (step_told p status r)
    by (Ok taken) = refl
    by (Err Ended) = refl
    by (Err OutOfPlace) = refl
    by (Err Full) = refl

pub some_if : {A : Type 0} (b : Bool) (x : A) → then_some b x ≡ cond b (Some x) None
some_if true x = refl
some_if false x = refl

-- what was found is kept if a test passes
pub kept_if : {A : Type 0} (P : A → Type 0) (b : Bool) (x : A) {o : Option A} → o ≡ then_some b x → P x → (is_some o ≡ b) × IfSome o P
kept_if P b x e p = subst (λ o. (is_some o ≡ b) × IfSome o P) (sym e) (go b)
  where
    go : (b : Bool) → (is_some (then_some b x) ≡ b) × IfSome (then_some b x) P
    go true = (refl, p)
    go false = (refl, tt)

-- a cell that is no reply is not good
pub turn_refused : (p : Progress) (key : ℕ) (f : List ℕ) → is_good (read reply f) ≡ false → None ≡ turn_of p key (heard f)
unfolding turn_of heard
turn_refused p key f e = go (read reply f) e
  where
    go : (t : Told StaticReply) → is_good t ≡ false → None ≡ turn_of p key (labelled t)
    go (gives r) h = absurd (true≢false h)
    go (refuses why) h = refl

pub turn_taken : (p : Progress) (key : ℕ) (f : List ℕ) {t : Option Progress} → is_good (read reply f) ≡ true → t ≡ turn_of p key (gives (label_at f)) → t ≡ turn_of p key (heard f)
turn_taken p key f g e = e ∙ ap (turn_of p key) (sym (good_heard f g))

-- ---- the loop over the rows

pub cap_room : (cells marks n : ℕ) → n ≤ capacity_of cells marks → (n ≤ most_cells) × ((n ≤ marks) × (n * cell_size ≤ cells))
unfolding capacity_of
cap_room cells marks n h = (omega arith, (omega arith, omega arith))

-- the bytes from i * cell_size on, cell_size of them, are cell i
pub part_cell : (cells : List ℕ) (i : ℕ) → take (i * cell_size + cell_size - i * cell_size) (drop (i * cell_size) cells) ≡ cell_at cells i
part_cell cells i =
    let e : i * cell_size + cell_size - i * cell_size ≡ cell_size = omega arith in
    ap (λ (n : ℕ). take n (drop (i * cell_size) cells)) e

-- the turn of row i, by what the code passes on: the progress at its seat, the key at its seat, and its cell
pub row_turn : (keys cells marks held ended : List ℕ) (i : ℕ) {t : Option Progress} {p : Progress} {own f : List ℕ} → t ≡ turn_of p (get_or own (mark_at marks i) 0) (heard f)
    → p ≡ progress_at held ended (mark_at marks i) → own ≡ keys → f ≡ cell_at cells i → t ≡ turn_of (progress_at held ended (mark_at marks i)) (get_or keys (mark_at marks i) 0) (heard (cell_at cells i))
row_turn keys cells marks held ended i t p k f = t ∙ (λ j. turn_of (p j) (get_or (k j) (mark_at marks i) 0) (heard (f j)))

-- byte k of cell i, by the bytes of all cells
pub cell_byte : (cells : List ℕ) (i k : ℕ) → k < cell_size → get_or cells (i * cell_size + k) 0 ≡ get_or (cell_at cells i) k 0
cell_byte cells i k l = sym (get_or-take cell_size (drop (i * cell_size) cells) k 0 l ∙ get_or-drop (i * cell_size) cells k 0)

-- before the first row no seat holds a record
pub tracks_none : (cells marks : List ℕ) → Tracks cells marks 0 (replicate seat_count 0) (replicate seat_count 0)
unfolding replay records_of
tracks_none cells marks =
    record {
      held_size = length-replicate {A = ℕ} seat_count 0;
      ended_size = length-replicate {A = ℕ} seat_count 0;
      each = λ s l. let z = get_or-replicate {A = ℕ} seat_count s 0 0 l in λ i. record { held = z i; ended = z i };
    }

pub tracks_start : (cells marks held ended : List ℕ) → held ≡ replicate seat_count 0 → ended ≡ replicate seat_count 0 → Tracks cells marks 0 held ended
tracks_start cells marks held ended h e = subst (λ (x : List ℕ). Tracks cells marks 0 x ended) (sym h) (subst (λ (x : List ℕ). Tracks cells marks 0 (replicate seat_count 0) x) (sym e) (tracks_none cells marks))

module _ (keys cells marks : List ℕ) (i : ℕ) (held ended : List ℕ) (k : Tracks cells marks i held ended) (l : mark_at marks i < seat_count)
    (t : Option Progress) (e : t ≡ turn_of (record { held = get_or held (mark_at marks i) 0; ended = get_or ended (mark_at marks i) 0 }) (get_or keys (mark_at marks i) 0) (heard (cell_at cells i))) where
  abbrev so_far : Progress
  so_far = replayed cells marks (mark_at marks i) i

  abbrev got : Told ReplyLabel
  got = heard (cell_at cells i)

  turn_is : t ≡ cond (has_number (get_or keys (mark_at marks i) 0) got && taken_at cells marks i) (Some (advanced so_far (status_in got))) None
  unfolding turn_of
  turn_is = e ∙ ap (λ (p : Progress). turn_of p (get_or keys (mark_at marks i) 0) got) (k.each (mark_at marks i) l)

  pub turn_bad : t ≡ None → has_number (get_or keys (mark_at marks i) 0) got && taken_at cells marks i ≡ false
  turn_bad n = go (has_number (get_or keys (mark_at marks i) 0) got && taken_at cells marks i) (advanced so_far (status_in got)) (sym n ∙ turn_is)
    where
      go : (b : Bool) (p : Progress) → None ≡ cond b (Some p) None → b ≡ false
      go true p h = absurd (none-some p h)
      go false p h = refl

  module _ (q : Progress) (s : t ≡ Some q) where
    pub turn_good : has_number (get_or keys (mark_at marks i) 0) got && taken_at cells marks i ≡ true
    turn_good = (cond_some _ _ _ (sym turn_is ∙ s)).0

    goes_on : advanced so_far (status_in got) ≡ q
    goes_on = (cond_some _ _ _ (sym turn_is ∙ s)).1

    next : (s : ℕ) → s < seat_count → ◌≡◌ {A = Progress} (record { held = get_or (set held (mark_at marks i) q.held) s 0; ended = get_or (set ended (mark_at marks i) q.ended) s 0 }) (replayed cells marks s (i + 1))
    next s h =
        let y = k.held_size in
        let z = k.ended_size in
        eq-case s (mark_at marks i)
        (λ q'.
        rw (replayed_next cells marks s i, eq-eqb (mark_at marks i) s (sym q'), q', get_or-set_same held (mark_at marks i) q.held 0 (omega arith), get_or-set_same ended (mark_at marks i) q.ended 0 (omega arith))
        (sym goes_on))
        (λ n.
        rw (replayed_next cells marks s i, ne_eqb (mark_at marks i) s (λ q'. n (sym q')), get_or-set_other held (mark_at marks i) s q.held 0 n, get_or-set_other ended (mark_at marks i) s q.ended 0 n)
        (k.each s h))

    pub tracks_next : Tracks cells marks (i + 1) (set held (mark_at marks i) q.held) (set ended (mark_at marks i) q.ended)
    tracks_next =
        record {
          held_size = length-set held (mark_at marks i) q.held ∙ k.held_size;
          ended_size = length-set ended (mark_at marks i) q.ended ∙ k.ended_size;
          each = next;
        }

-- letter and status of a row that is taken are two of the lists
number_heard : (key : ℕ) (t : Told ReplyLabel) → has_number key t ≡ true → (l : ReplyLabel) × (t ≡ gives l)
number_heard key (gives l) e = (l, refl)
number_heard key (refuses why) e = absurd (false≢true e)

pub key_heard : (k : Key) (t : Told ReplyLabel) → has_key k t ≡ true → (l : ReplyLabel) × (t ≡ gives l)
key_heard k (gives l) e = (l, refl)
key_heard k (refuses why) e = absurd (false≢true e)

cell_listed : (key : ℕ) (c : List ℕ) → has_number key (heard c) ≡ true → Listed c
cell_listed key c e =
    let h = number_heard key (heard c) e in
    let r = heard_reply c h.0 h.1 in
    reply_listed c r.0 r.1.0

pub row_listed : (keys cells marks : List ℕ) (i : ℕ) → row_taken keys cells marks i ≡ true → Listed (cell_at cells i)
row_listed keys cells marks i e =
    cell_listed (get_or keys (mark_at marks i) 0) (cell_at cells i) (and_l _ (taken_at cells marks i) (and_r (ltb (mark_at marks i) seat_count) _ e))

-- ---- over a row of good seats the columns say what the row says

no_records : (cells marks : List ℕ) (s n : ℕ) → ((j : ℕ) → j < n → eqb (mark_at marks j) s ≡ false) → records_of cells marks s n ≡ []
unfolding records_of
no_records cells marks s zero h = refl
no_records cells marks s (suc n) h = rw (h n (omega arith), no_records cells marks s n (λ j l. h j (omega arith)))

module _ (keys held ended : List ℕ) (f : Sized keys held ended) (bits : ℕ) (good : all_below seat_count (seat_good_at (row_of keys held ended) bits) ≡ true) (cells marks : List ℕ) where
  -- of a reply: its key is at seat s, and the seat is in use
  number_has : (s : ℕ) (c : List ℕ) → s < seat_count → has_number (get_or keys s 0) (heard c) ≡ used_bit bits s && has_key (seat_key (seat_at (row_of keys held ended) s)) (heard c)
  unfolding keyed
  number_has s c h = go (heard c) refl
    where
      go : (t : Told ReplyLabel) → heard c ≡ t → has_number (get_or keys s 0) t ≡ used_bit bits s && has_key (seat_key (seat_at (row_of keys held ended) s)) t
      go (gives l) e = key_is_law keys held ended f bits good (key_in l) (heard_keyed c l e) s h
      go (refuses why) e = sym (and_false_r (used_bit bits s) refl)

  row_is : (i : ℕ) → row_taken keys cells marks i ≡ row_good (row_of keys held ended) bits cells marks i
  unfolding mark_names
  row_is i =
      by-test (ltb (mark_at marks i) seat_count)
      (λ y. rw (y, number_has (mark_at marks i) (cell_at cells i) (ltb-true _ _ y)) (grouped (used_bit bits (mark_at marks i)) _ (taken_at cells marks i)))
      (λ y. rw y)

  rows_are : (n : ℕ) → all_below n (row_taken keys cells marks) ≡ all_below n (row_good (row_of keys held ended) bits cells marks)
  rows_are n = all_ext n (row_taken keys cells marks) (row_good (row_of keys held ended) bits cells marks) (λ i l. row_is i)

  pub passes_good : (n : ℕ) (t : Table) → all_below n (row_passes keys t cells marks) ≡ true → all_below n (row_good (row_of keys held ended) bits cells marks) ≡ true
  passes_good n t h = sym (rows_are n) ∙ and_l _ (all_below n (row_counted t cells)) (sym (all_and n (row_taken keys cells marks) (row_counted t cells)) ∙ h)

  module _ (n : ℕ) (all : all_below n (row_good (row_of keys held ended) bits cells marks) ≡ true) (reached over : List ℕ) (k : Tracks cells marks n reached over) where
    -- no mark names a seat that is not in use
    unused_none : (s : ℕ) → used_bit bits s ≡ false → replayed cells marks s n ≡ none
    unfolding replay mark_names
    unused_none s u =
        ap (replay none) (no_records cells marks s n (λ j l.
        let g = and_l (mark_good bits marks j) _ (all_at n (row_good (row_of keys held ended) bits cells marks) all j l) in
        ne_eqb (mark_at marks j) s (λ e. never (used_bit bits s) (rw (← e) (and_r (ltb (mark_at marks j) seat_count) _ g)) u)))

    agree_at : (s : ℕ) → s < seat_count → same_at held reached s && same_at ended over s ≡ agrees (replayed cells marks s n) (seat_at (row_of keys held ended) s) bits s
    unfolding agrees
    agree_at s l =
        let p = k.each s l in
        by-test (used_bit bits s)
        (λ u. rw (u, seat_at_law keys held ended f s, ← p))
        (λ u.
        let q = p ∙ unused_none s u in
        rw (u, unused_held keys held ended f bits good s l u, unused_ended keys held ended f bits good s l u, ap (λ (x : Progress). x.held) q, ap (λ (x : Progress). x.ended) q))

    pub columns_agree : all_below seat_count (same_at held reached) && all_below seat_count (same_at ended over) ≡ all_below seat_count (λ s. agrees (replayed cells marks s n) (seat_at (row_of keys held ended) s) bits s)
    columns_agree = sym (all_and seat_count (same_at held reached) (same_at ended over)) ∙ all_ext seat_count _ _ agree_at

    -- the columns are what the rows bring the seats to, and nothing is left of the tally: then clauses 7 to 12 hold
    pub rows_pass : (t left : Table) → Whole t → Leaves t cells n left → {a z : Bool} → a ≡ all_below seat_count (same_at held reached) && all_below seat_count (same_at ended over) → z ≡ is_clear left
        → a && z ≡ replays (row_of keys held ended) bits n cells marks && tally_right cells n t
    unfolding replays
    rows_pass t left w v {a} {z} p r = rw all (ap₂ (λ (x y : Bool). x && y) (p ∙ columns_agree) (r ∙ clear_is_right t cells n left w v))

  -- a row that fails: then clauses 7 to 12 do not all hold
  pub rows_fail : (n : ℕ) (t : Table) → all_below n (row_passes keys t cells marks) ≡ false → replays (row_of keys held ended) bits n cells marks && tally_right cells n t ≡ false
  unfolding replays
  rows_fail n t bad =
      false_or (replays (row_of keys held ended) bits n cells marks && tally_right cells n t) (λ y.
      let good-rows = and_l (all_below n (row_good (row_of keys held ended) bits cells marks)) _ (and_l (replays (row_of keys held ended) bits n cells marks) (tally_right cells n t) y) in
      let all = all_at n (row_taken keys cells marks) (rows_are n ∙ good-rows) in
      let right = and_r (replays (row_of keys held ended) bits n cells marks) (tally_right cells n t) y in
      never (all_below n (row_passes keys t cells marks)) (all_of n (row_passes keys t cells marks) (λ i l. and_true (all i l) (right_counted t cells n i right l (row_listed keys cells marks i (all i l))))) bad)
