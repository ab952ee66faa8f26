-- A desk is the replay of its rows, and what is known of a desk. Assumes nothing.
use Prim.Native.Nat.{ℕ, zero, suc, ◌+◌, ◌^◌, ◌<◌, ◌≤◌}
use mathlib.Core.Bool.{Bool, true, false, cond, not, ◌&&◌, ◌||◌}
use mathlib.Core.List.{List, [], ◌∷◌, ◌++◌, append-nil}
use mathlib.Core.Path.{◌≡◌, refl, sym, ap, ap₂, ◌∙◌}
use lib.ListN.{length}
use lib.Dec.{eqb, ltb}
use native.Mathlib.Omega.{arith}
use native.Mathlib.Numerals.{add-one}
use borrow.Author.Tests.{eqb-true, eq-eqb, ne_eqb, lt-ltb, ltb-true, le-leb, leb-true}
use Rattle.frames.specs.Status.{is_z}
use Rattle.desk.specs.declared.state.Seat.{Seat}
use Rattle.desk.specs.declared.key.Key.{Key}
use Rattle.desk.specs.declared.step.Progress.{Progress}
use Rattle.desk.specs.Limits.{seat_count}
use Rattle.desk.specs.Below.{all_below, count_below}
use Rattle.desk.specs.Key.{seat_key, is_key}
use Rattle.desk.specs.Hearing.{heard, in_place, status_in, ended_in}
use Rattle.desk.specs.Step.{progress_of, advanced, step, none, replay, goes}
use Rattle.desk.specs.Seats.{seat_at, used_bit, keyed, keyed_at}
use Rattle.desk.specs.Memory.{Memory, capacity, cell_at, mark_at, records_of}
use Rattle.desk.specs.Desk.{is_zero, key_legal, unused_zero, apart_at, apart_below, mark_names, mark_good, cell_keyed, named, last_ends, held_right, ended_right, placed, all_seats, no_bit_above, keys_legal, no_key_shared, unused_all_zero, count_fits, marks_name, cells_are_replies, held_is_named, ends_last, ended_is_last, tally_is_count, is_desk}
use Rattle.desk.specs.Replay.{replayed, taken_at, row_good, agrees, replays, DeskIsReplay}
use Rattle.digits.proofs.Tests.{by-test, by_less, and_true, and_l, and_r}
use Rattle.desk.proofs.TallyLaws.{Right, right_of, is_right}
use Rattle.desk.proofs.Below.{never, false_or, count_most, all_at, all_of, all_and, all_ext}
use Rattle.desk.proofs.KeyLaws.{same_key_case, own_key}

-- ---- the replay of a seat's rows

pub replay_more : (p : Progress) (fs : List (List ℕ)) (f : List ℕ) → replay p (fs ++ (f ∷ [])) ≡ advanced (replay p fs) (status_in (heard f))
unfolding replay
replay_more p [] f = refl
replay_more p (g ∷ fs) f = replay_more (advanced p (status_in (heard g))) fs f

pub replay_held : (p : Progress) (fs : List (List ℕ)) → (replay p fs).held ≡ p.held + length fs
unfolding replay
replay_held p [] = omega arith
replay_held p (f ∷ fs) = let h = replay_held (advanced p (status_in (heard f))) fs in omega (arith, h)

-- a reply is taken if the seat has not ended and the reply is in its place, with a free cell
pub goes_step : (p : Progress) (status : ℕ) → goes (step p true status) ≡ eqb p.ended 0 && in_place p.held status
unfolding step
goes_step p status =
    by-test (eqb p.ended 0)
    (λ a. by-test (in_place p.held status) (λ b. rw (a, b)) (λ b. rw (a, b)))
    (λ a. rw a)

module _ (cells marks : List ℕ) where
  -- one more row: the seat that its mark names goes on, the others stay
  replayed_suc : (s n : ℕ) → replayed cells marks s (suc n) ≡ cond (eqb (mark_at marks n) s) (advanced (replayed cells marks s n) (status_in (heard (cell_at cells n)))) (replayed cells marks s n)
  unfolding records_of
  replayed_suc s n =
      by-test (eqb (mark_at marks n) s)
      (λ e. rw e (replay_more none (records_of cells marks s n) (cell_at cells n)))
      (λ e. rw e (ap (replay none) (append-nil (records_of cells marks s n))))

  pub replayed_next : (s n : ℕ) → replayed cells marks s (n + 1) ≡ cond (eqb (mark_at marks n) s) (advanced (replayed cells marks s n) (status_in (heard (cell_at cells n)))) (replayed cells marks s n)
  replayed_next s n = ap (λ (k : ℕ). replayed cells marks s k) (add-one n) ∙ replayed_suc s n

  -- as many records as marks name the seat, and ended if the last is E or Z
  replayed_is : (s n : ℕ) → replayed cells marks s n ≡ record { held = named marks s n; ended = last_ends cells marks s n }
  unfolding replay records_of count_below last_ends
  replayed_is s zero = refl
  replayed_is s (suc n) =
      let h = replayed_is s n in
      replayed_suc s n
      ∙ by-test (eqb (mark_at marks n) s) (λ e. rw (e, h, add-one (named marks s n))) (λ e. rw (e, h))

  pub replayed_most : (s n : ℕ) → (replayed cells marks s n).held ≤ n
  replayed_most s n = rw (replayed_is s n) (count_most n (λ i. eqb (mark_at marks i) s))

-- ---- clause 10 (only the last record of a seat is E or Z, and a Z is its only one), as it is tested row by row

-- row j and a later row of seat s, which is a Z (z) or not
abbrev pairs : List ℕ → List ℕ → ℕ → Bool → ℕ → Bool
pairs cells marks s z j = cond (eqb (mark_at marks j) s) (eqb (ended_in (heard (cell_at cells j))) 0 && not z) true

abbrev running : List ℕ → List ℕ → ℕ → Bool → ℕ → Bool
running cells marks s z n = eqb (last_ends cells marks s n) 0 && (not z || eqb (named marks s n) 0)

first : (z : Bool) → true ≡ eqb 0 0 && (not z || eqb 0 0)
first true = refl
first false = refl

other : (a x y : Bool) → a ≡ x && y → a && true ≡ x && y
other true x y h = h
other false x y h = h

own : (a l z e en : Bool) → a ≡ l && (not z || e) → l ≡ true → a && (en && not z) ≡ en && (not z || false)
own a l z e en h k = ap (λ (x : Bool). x && (en && not z)) (h ∙ ap (λ (x : Bool). x && (not z || e)) k) ∙ go z e en
  where
    go : (z e en : Bool) → (not z || e) && (en && not z) ≡ en && (not z || false)
    go true true true = refl
    go true true false = refl
    go true false true = refl
    go true false false = refl
    go false e true = refl
    go false e false = refl

more_zero : (n : ℕ) → eqb (suc n) 0 ≡ false
more_zero n = ne_eqb (suc n) 0 (λ e. omega arith)

module _ (cells marks : List ℕ) where
  more_pairs : (s n : ℕ) (z b : Bool) → eqb (mark_at marks n) s ≡ b → placed cells marks n ≡ true
      → ((s : ℕ) (z : Bool) → all_below n (pairs cells marks s z) ≡ running cells marks s z n)
      → all_below n (pairs cells marks s z) && cond b (eqb (ended_in (heard (cell_at cells n))) 0 && not z) true
      ≡ eqb (cond b (ended_in (heard (cell_at cells n))) (last_ends cells marks s n)) 0 && (not z || eqb (cond b (suc (named marks s n)) (named marks s n)) 0)
  more_pairs s n z false e p ih = other (all_below n (pairs cells marks s z)) (eqb (last_ends cells marks s n) 0) (not z || eqb (named marks s n) 0) (ih s z)
  more_pairs s n z true e p ih =
      let w = is_z (status_in (heard (cell_at cells n))) in
      let m : mark_at marks n ≡ s = eqb-true _ _ e in
      let q : running cells marks (mark_at marks n) w n ≡ true = sym (ih (mark_at marks n) w) ∙ p in
      let l : eqb (last_ends cells marks s n) 0 ≡ true = ap (λ (k : ℕ). eqb (last_ends cells marks k n) 0) (sym m) ∙ and_l _ _ q in
      own (all_below n (pairs cells marks s z)) (eqb (last_ends cells marks s n) 0) z (eqb (named marks s n) 0) (eqb (ended_in (heard (cell_at cells n))) 0) (ih s z) l
      ∙ ap (λ (x : Bool). eqb (ended_in (heard (cell_at cells n))) 0 && (not z || x)) (sym (more_zero (named marks s n)))

  pairs_run : (n : ℕ) → all_below n (placed cells marks) ≡ true → (s : ℕ) (z : Bool) → all_below n (pairs cells marks s z) ≡ running cells marks s z n
  unfolding all_below count_below last_ends
  pairs_run zero h s z = first z
  pairs_run (suc n) h s z =
      more_pairs s n z (eqb (mark_at marks n) s) refl (and_r (all_below n (placed cells marks)) _ h) (pairs_run n (and_l (all_below n (placed cells marks)) _ h))

  placed_by : (n : ℕ) (b : Bool) → (b ≡ true → placed cells marks n ≡ taken_at cells marks n) → b && placed cells marks n ≡ b && taken_at cells marks n
  placed_by n true h = h refl
  placed_by n false h = refl

  taken_run : (n : ℕ) → running cells marks (mark_at marks n) (is_z (status_in (heard (cell_at cells n)))) n ≡ taken_at cells marks n
  unfolding in_place
  taken_run n = sym (goes_step (replayed cells marks (mark_at marks n) n) (status_in (heard (cell_at cells n))) ∙ rw (replayed_is cells marks (mark_at marks n) n))

  placed_run : (n : ℕ) → all_below n (placed cells marks) ≡ all_below n (taken_at cells marks)
  unfolding all_below
  placed_run zero = refl
  placed_run (suc n) =
      let b = all_below n (taken_at cells marks) in
      let e = placed_run n in
      ap (λ (x : Bool). x && placed cells marks n) e
      ∙ placed_by n b (λ t. pairs_run n (e ∙ t) (mark_at marks n) (is_z (status_in (heard (cell_at cells n)))) ∙ taken_run n)

-- ---- a desk is the replay of its rows

-- the clauses on rows and on held and ended seats, gathered
gathered : (m c h p e : Bool) → m && c && h && p && e ≡ (m && (c && p)) && (h && e)
gathered false c h p e = refl
gathered true false h p e = refl
gathered true true true p e = refl
gathered true true false true e = refl
gathered true true false false e = refl

parted : (x m c h p e t : Bool) → x && m && c && h && p && e && t ≡ x && (m && c && h && p && e) && t
parted true m c h p e t = refl
parted false m c h p e t = refl

module _ (row : List Seat) (bits count : ℕ) (cells marks : List ℕ) where
  agree_by : (a c : Bool) (b : Bool) → cond b a true && cond b c true ≡ cond b (a && c) true
  agree_by a c true = refl
  agree_by a c false = refl

  agree_is : (s : ℕ) → held_right row bits count marks s && ended_right row bits count cells marks s ≡ agrees (replayed cells marks s count) (seat_at row s) bits s
  unfolding agrees
  agree_is s = rw (replayed_is cells marks s count) (agree_by (eqb (seat_at row s).held (named marks s count)) (eqb (seat_at row s).ended (last_ends cells marks s count)) (used_bit bits s))

  rows_are : (all_below count (mark_good bits marks) && (all_below count (cell_keyed row cells marks) && all_below count (placed cells marks)))
      && (all_below seat_count (held_right row bits count marks) && all_below seat_count (ended_right row bits count cells marks)) ≡ replays row bits count cells marks
  unfolding replays
  rows_are =
      let m = all_below count (mark_good bits marks) in
      let k = all_below count (cell_keyed row cells marks) in
      ap₂ (λ (x y : Bool). x && y)
      (ap (λ (x : Bool). m && (k && x)) (placed_run cells marks count)
      ∙ ap (λ (x : Bool). m && x) (sym (all_and count (cell_keyed row cells marks) (taken_at cells marks)))
      ∙ sym (all_and count (mark_good bits marks) (λ i. cell_keyed row cells marks i && taken_at cells marks i)))
      (sym (all_and seat_count (held_right row bits count marks) (ended_right row bits count cells marks))
      ∙ all_ext seat_count _ (λ s. agrees (replayed cells marks s count) (seat_at row s) bits s) (λ s l. agree_is s))

pub desk_is_replay : DeskIsReplay
desk_is_replay m = gathered (marks_name m) (cells_are_replies m) (held_is_named m) (ends_last m) (ended_is_last m) ∙ rows_are m.row m.bits m.count m.cells m.marks

-- the first six clauses, and the replay
pub desk_run : (m : Memory) → is_desk m ≡ all_seats m && no_bit_above m && keys_legal m && no_key_shared m && unused_all_zero m && count_fits m && replays m.row m.bits m.count m.cells m.marks && tally_is_count m
unfolding is_desk
desk_run m =
    let six = all_seats m && no_bit_above m && keys_legal m && no_key_shared m && unused_all_zero m && count_fits m in
    parted six (marks_name m) (cells_are_replies m) (held_is_named m) (ends_last m) (ended_is_last m) (tally_is_count m) ∙ ap (λ (x : Bool). six && x && tally_is_count m) (desk_is_replay m)

-- ---- the facts

pub record Facts (m : Memory) : Type 0 where
  pub size : length m.row ≡ seat_count
  pub bits : m.bits < 2 ^ seat_count
  pub keys : (i : ℕ) → i < seat_count → used_bit m.bits i ≡ true → is_key (seat_key (seat_at m.row i)) ≡ true
  pub one : (k : Key) (i j : ℕ) → i < seat_count → j < seat_count → keyed_at m.row m.bits k i ≡ true → keyed_at m.row m.bits k j ≡ true → i ≡ j
  pub zeros : (i : ℕ) → i < seat_count → used_bit m.bits i ≡ false → is_zero (seat_at m.row i) ≡ true
  pub fits : m.count ≤ capacity m
  pub rows : (i : ℕ) → i < m.count → row_good m.row m.bits m.cells m.marks i ≡ true
  pub agree : (s : ℕ) → s < seat_count → used_bit m.bits s ≡ true → progress_of (seat_at m.row s) ≡ replayed m.cells m.marks s m.count
  pub tally : Right m.cells m.count m.tally

-- a clause about used seats only
when_used : {b x : Bool} → b ≡ true → cond b x true ≡ true → x ≡ true
when_used {b} {x} e h = sym (ap (λ (z : Bool). cond z x true) e) ∙ h

used_only : (b x : Bool) → (b ≡ true → x ≡ true) → cond b x true ≡ true
used_only true x h = h refl
used_only false x h = refl

-- a clause about unused seats only
when_unused : {b x : Bool} → b ≡ false → cond b true x ≡ true → x ≡ true
when_unused {b} {x} e h = sym (ap (λ (z : Bool). cond z true x) e) ∙ h

unused_only : (b x : Bool) → (b ≡ false → x ≡ true) → cond b true x ≡ true
unused_only true x h = refl
unused_only false x h = h refl

agreed : (p : Progress) (seat : Seat) (bits s : ℕ) → used_bit bits s ≡ true → agrees p seat bits s ≡ true → progress_of seat ≡ p
unfolding agrees
agreed p seat bits s u h =
    let e = when_used u h in
    let a = eqb-true _ _ (and_l (eqb seat.held p.held) _ e) in
    let b = eqb-true _ _ (and_r (eqb seat.held p.held) _ e) in
    λ i. record { held = a i; ended = b i }

agreeing : (p : Progress) (seat : Seat) (bits s : ℕ) → (used_bit bits s ≡ true → progress_of seat ≡ p) → agrees p seat bits s ≡ true
unfolding agrees
agreeing p seat bits s h =
    used_only (used_bit bits s) _ (λ u. and_true (eq-eqb _ _ (ap (λ (q : Progress). q.held) (h u))) (eq-eqb _ _ (ap (λ (q : Progress). q.ended) (h u))))

-- a used seat has its own key
pub keyed_at_law : (row : List Seat) (bits s : ℕ) (k : Key) → used_bit bits s ≡ true → seat_key (seat_at row s) ≡ k → keyed_at row bits k s ≡ true
unfolding keyed
keyed_at_law row bits s k u e = and_true u (rw e (own_key k))

-- no two seats share a key, stated for all pairs of one order and for all pairs
module _ (row : List Seat) (bits : ℕ) where
  clash : ((i : ℕ) → i < seat_count → (j : ℕ) → j < i → apart_at row bits i j ≡ true) → (k : Key) (i j : ℕ) → i < seat_count → j < i → keyed_at row bits k i ≡ true → keyed_at row bits k j ≡ true → ⊥
  unfolding keyed
  clash h k i j l g a b =
      let e = same_key_case (seat_key (seat_at row i)) k (and_r (used_bit bits i) _ a) in
      never _ (rw (and_l (used_bit bits i) _ a, e) at (h i l j g)) (ap not b)

  one_of : ((i : ℕ) → i < seat_count → (j : ℕ) → j < i → apart_at row bits i j ≡ true) → (k : Key) (i j : ℕ) → i < seat_count → j < seat_count → keyed_at row bits k i ≡ true → keyed_at row bits k j ≡ true → i ≡ j
  one_of h k i j l m a b = by_less i j (λ g. absurd (clash h k j i m g b a)) (λ g. by_less j i (λ f. absurd (clash h k i j l f a b)) (λ f. omega arith))

  apart_of_law : ((k : Key) (i j : ℕ) → i < seat_count → j < seat_count → keyed_at row bits k i ≡ true → keyed_at row bits k j ≡ true → i ≡ j) → (i : ℕ) → i < seat_count → (j : ℕ) → j < i → apart_at row bits i j ≡ true
  apart_of_law h i l j g =
      used_only (used_bit bits i) _ (λ u. ap not (false_or (keyed_at row bits (seat_key (seat_at row i)) j) (λ b.
      let e = h (seat_key (seat_at row i)) i j l (omega arith) (keyed_at_law row bits i (seat_key (seat_at row i)) u refl) b in absurd (omega (arith, e, g)))))

module _ (m : Memory) where
  pub desk_facts : is_desk m ≡ true → Facts m
  unfolding replays
  desk_facts h =
      let c2 = all_seats m && no_bit_above m in
      let c3 = c2 && keys_legal m in
      let c4 = c3 && no_key_shared m in
      let c5 = c4 && unused_all_zero m in
      let c6 = c5 && count_fits m in
      let c7 = c6 && replays m.row m.bits m.count m.cells m.marks in
      let h8 = sym (desk_run m) ∙ h in
      let h7 = and_l c7 (tally_is_count m) h8 in
      let h6 = and_l c6 _ h7 in
      let h5 = and_l c5 (count_fits m) h6 in
      let h4 = and_l c4 (unused_all_zero m) h5 in
      let h3 = and_l c3 (no_key_shared m) h4 in
      let h2 = and_l c2 (keys_legal m) h3 in
      let rows = and_r c6 _ h7 in
      let good = all_below m.count (row_good m.row m.bits m.cells m.marks) in
      record {
        size = eqb-true _ _ (and_l (all_seats m) (no_bit_above m) h2);
        bits = ltb-true _ _ (and_r (all_seats m) (no_bit_above m) h2);
        keys = λ i l u. when_used u (all_at seat_count (key_legal m.row m.bits) (and_r c2 (keys_legal m) h3) i l);
        one = one_of m.row m.bits (λ i l j k. all_at i (apart_at m.row m.bits i) (all_at seat_count (apart_below m.row m.bits) (and_r c3 (no_key_shared m) h4) i l) j k);
        zeros = λ i l u. when_unused u (all_at seat_count (unused_zero m.row m.bits) (and_r c4 (unused_all_zero m) h5) i l);
        fits = leb-true _ _ (and_r c5 (count_fits m) h6);
        rows = all_at m.count _ (and_l good _ rows);
        agree = λ s l u. agreed _ (seat_at m.row s) m.bits s u (all_at seat_count _ (and_r good _ rows) s l);
        tally = right_of m.cells m.count m.tally (and_r c7 (tally_is_count m) h8);
      }

  pub facts_desk : Facts m → is_desk m ≡ true
  unfolding replays
  facts_desk f =
      desk_run m
      ∙ and_true (and_true (and_true (and_true (and_true (and_true (and_true
      (eq-eqb (length m.row) seat_count f.size)
      (lt-ltb m.bits (2 ^ seat_count) f.bits))
      (all_of seat_count (key_legal m.row m.bits) (λ i l. used_only (used_bit m.bits i) _ (f.keys i l))))
      (all_of seat_count (apart_below m.row m.bits) (λ i l. all_of i (apart_at m.row m.bits i) (apart_of_law m.row m.bits f.one i l))))
      (all_of seat_count (unused_zero m.row m.bits) (λ i l. unused_only (used_bit m.bits i) _ (f.zeros i l))))
      (le-leb m.count (capacity m) f.fits))
      (and_true (all_of m.count _ f.rows) (all_of seat_count _ (λ s l. agreeing _ (seat_at m.row s) m.bits s (f.agree s l)))))
      (is_right m.cells m.count m.tally f.tally)

-- each mark below the count names a used seat, and each cell is a reply with its key
pub mark_seat : (bits m : ℕ) → mark_names bits m ≡ true → m < seat_count
unfolding mark_names
mark_seat bits m h = ltb-true m seat_count (and_l (ltb m seat_count) _ h)

module _ (m : Memory) (d : Facts m) (i : ℕ) (l : i < m.count) where
  mark_good_law : mark_names m.bits (mark_at m.marks i) ≡ true
  mark_good_law = and_l (mark_good m.bits m.marks i) _ (d.rows i l)

  pub marked : mark_at m.marks i < seat_count
  marked = mark_seat m.bits (mark_at m.marks i) mark_good_law

  pub mark_used : used_bit m.bits (mark_at m.marks i) ≡ true
  unfolding mark_names
  mark_used = and_r (ltb (mark_at m.marks i) seat_count) _ mark_good_law

  pub cell_keyed_law : cell_keyed m.row m.cells m.marks i ≡ true
  cell_keyed_law = and_l _ (taken_at m.cells m.marks i) (and_r (mark_good m.bits m.marks i) _ (d.rows i l))
