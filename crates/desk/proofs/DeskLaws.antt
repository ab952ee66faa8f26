-- What a taken reply and an opening do to each seat, and that a desk stays a desk. Assumes nothing.
use Prim.Native.Nat.{ℕ, zero, suc, ◌+◌, ◌*◌, ◌<◌, ◌≤◌}
use mathlib.Core.Bool.{true, false, cond}
use mathlib.Core.Path.{◌≡◌, refl, sym, ap, ap₂, ◌∙◌}
use mathlib.Core.List.{List, [], ◌∷◌, ◌++◌, append-nil}
use native.Mathlib.Omega.{arith}
use native.Mathlib.Numerals.{add-one}
use lib.ListN.{length, length-set, length-replicate, get_or-replicate}
use lib.Seq.{get_or-set_same, get_or-set_other}
use lib.Dec.{eqb}
use borrow.Author.Tests.{eq-eqb, ne_eqb, lt-ltb}
use Rattle.desk.specs.declared.key.Key.{Key}
use Rattle.desk.specs.declared.opening.Opening.{Opening}
use Rattle.desk.specs.declared.reply.Taking.{Taking}
use Rattle.desk.specs.declared.step.Progress.{Progress}
use Rattle.desk.specs.Limits.{seat_count, cell_size}
use Rattle.desk.specs.Key.{key_in, seat_key, is_key}
use Rattle.desk.specs.Step.{progress_of, advanced, none, replay}
use Rattle.desk.specs.Seats.{zero_seat, seat_at, used_bit, keyed, keyed_at}
use Rattle.desk.specs.Memory.{Memory, capacity, capacity_of, cell_at, mark_at, records_of, held_by}
use Rattle.desk.specs.Desk.{is_zero, mark_names}
use Rattle.desk.specs.Replay.{row_good}
use Rattle.desk.specs.Calls.{Outcome, new_seat, opens, opened, grown, taken, replies, empty_row, emptied}
use Rattle.desk.specs.Mix.{StaysDesk}
use Rattle.digits.proofs.Tests.{and_true}
use Rattle.desk.proofs.Below.{never, below-case, eq-case}
use Rattle.desk.proofs.Bits.{set_own, set_other, set_below, none_used}
use Rattle.desk.proofs.KeyLaws.{same_key_case, own_key}
use Rattle.desk.proofs.HearingLaws.{heard_reply}
use Rattle.desk.proofs.TallyLaws.{Right, reply_listed, right_empty, right_same, right_more}
use Rattle.desk.proofs.ReplayLaws.{replay_more, Facts, desk_facts, facts_desk, mark_used}
use Rattle.desk.proofs.WrittenLaws.{length_with, cell_before, cell_new}
use Rattle.desk.proofs.StepLaws.{keyed_used, Took, took_used, took_key, Room, took_room, OpensAt, by_reply, by_opening}

-- ---- rows that stay

-- the records of a seat among the first n rows depend only on these rows
pub records_same : (cells marks cells' marks' : List ℕ) (s n : ℕ) → ((j : ℕ) → j < n → mark_at marks' j ≡ mark_at marks j) → ((j : ℕ) → j < n → cell_at cells' j ≡ cell_at cells j) → records_of cells' marks' s n ≡ records_of cells marks s n
unfolding records_of
records_same cells marks cells' marks' s zero em ec = refl
records_same cells marks cells' marks' s (suc n) em ec =
    rw (em n (omega arith), ec n (omega arith), records_same cells marks cells' marks' s n (λ j l. em j (omega arith)) (λ j l. ec j (omega arith)))

-- ---- the memory after a taken reply

module _ (m : Memory) (f : List ℕ) (t : Taking) (k : Took m f t) where
  room : Room m f t
  room = took_room m f t k

  pub taken_own : seat_at (taken m f t).row t.seat ≡ grown (seat_at m.row t.seat) t.status
  taken_own =
      let l : t.seat < length m.row = let a = k.facts.size in let b = k.below in omega arith in
      get_or-set_same m.row t.seat (grown (seat_at m.row t.seat) t.status) zero_seat l

  pub taken_other : (i : ℕ) → (i ≡ t.seat → ⊥) → seat_at (taken m f t).row i ≡ seat_at m.row i
  taken_other i n = get_or-set_other m.row t.seat i (grown (seat_at m.row t.seat) t.status) zero_seat n

  -- every seat keeps its key
  pub taken_key : (i : ℕ) → seat_key (seat_at (taken m f t).row i) ≡ seat_key (seat_at m.row i)
  taken_key i =
      eq-case i t.seat
      (λ e. ap (λ (j : ℕ). seat_key (seat_at (taken m f t).row j)) e ∙ ap seat_key taken_own ∙ ap (λ (j : ℕ). seat_key (seat_at m.row j)) (sym e))
      (λ n. ap seat_key (taken_other i n))

  pub taken_capacity : capacity (taken m f t) ≡ capacity m
  taken_capacity =
      ap₂ capacity_of (length_with m.cells (m.count * cell_size) f room.cells room.frame) (length-set m.marks m.count t.seat)

  -- the rows before it stay, and the new row is its seat and the reply
  pub old_mark : (j : ℕ) → j < m.count → mark_at (taken m f t).marks j ≡ mark_at m.marks j
  old_mark j l = get_or-set_other m.marks m.count j t.seat 0 (λ e. omega arith)

  pub new_mark : mark_at (taken m f t).marks m.count ≡ t.seat
  new_mark = get_or-set_same m.marks m.count t.seat 0 room.marks

  pub old_cell : (j : ℕ) → j < m.count → cell_at (taken m f t).cells j ≡ cell_at m.cells j
  old_cell j l = cell_before m.cells (m.count * cell_size) f room.cells room.frame (j * cell_size) (omega arith)

  pub new_cell : cell_at (taken m f t).cells m.count ≡ f
  new_cell = cell_new m.cells (m.count * cell_size) f room.cells room.frame

  old_records : (i n : ℕ) → n ≤ m.count → records_of (taken m f t).cells (taken m f t).marks i n ≡ records_of m.cells m.marks i n
  old_records i n l =
      records_same m.cells m.marks (taken m f t).cells (taken m f t).marks i n (λ j h. old_mark j (omega arith)) (λ j h. old_cell j (omega arith))

  new_records : (i : ℕ) → held_by (taken m f t) i ≡ held_by m i ++ cond (eqb t.seat i) (f ∷ []) []
  unfolding records_of
  new_records i = rw (add-one m.count, new_mark, new_cell, old_records i m.count (omega arith))

  pub records_own : held_by (taken m f t) t.seat ≡ held_by m t.seat ++ (f ∷ [])
  records_own = new_records t.seat ∙ rw (eq-eqb t.seat t.seat refl)

  pub records_other : (i : ℕ) → (i ≡ t.seat → ⊥) → held_by (taken m f t) i ≡ held_by m i
  records_other i n = new_records i ∙ rw (ne_eqb t.seat i (λ e. n (sym e))) (append-nil (held_by m i))

  -- ---- a desk stays a desk

  same_keyed : (key : Key) (i : ℕ) → keyed_at (taken m f t).row m.bits key i ≡ keyed_at m.row m.bits key i
  unfolding keyed
  same_keyed key i = rw (taken_key i)

  row_facts : (i : ℕ) → i < m.count + 1 → row_good (taken m f t).row m.bits (taken m f t).cells (taken m f t).marks i ≡ true
  unfolding mark_names
  row_facts i l =
      below-case i m.count (omega arith)
      (λ h. rw (old_mark i h, old_cell i h, taken_key (mark_at m.marks i), old_records (mark_at m.marks i) i (omega arith)) (k.facts.rows i h))
      (λ e.
      rw (e, new_mark, new_cell, taken_key t.seat, k.hears, k.status, took_key m f t k, old_records t.seat m.count (omega arith), ← k.facts.agree t.seat k.below (took_used m f t k))
      (and_true (and_true (lt-ltb t.seat seat_count k.below) (took_used m f t k)) (and_true (own_key (key_in k.label)) k.steps)))

  agree_facts : (i : ℕ) → i < seat_count → used_bit m.bits i ≡ true → progress_of (seat_at (taken m f t).row i) ≡ replay none (held_by (taken m f t) i)
  agree_facts i l u =
      eq-case i t.seat
      (λ e. rw (e, records_own, replay_more none (held_by m t.seat) f, k.hears, k.status, taken_own) (ap (λ (p : Progress). advanced p t.status) (k.facts.agree t.seat k.below (took_used m f t k))))
      (λ n. rw (records_other i n, taken_other i n) (k.facts.agree i l u))

  tally_facts : Right (taken m f t).cells (m.count + 1) (taken m f t).tally
  tally_facts =
      let h = heard_reply f k.label k.hears in
      let same = right_same m.cells (taken m f t).cells m.count m.tally k.facts.tally old_cell in
      rw (add-one m.count) (right_more (taken m f t).cells m.count m.tally same f new_cell (reply_listed f h.0 h.1.0))

  pub taken_desk : Facts (taken m f t)
  taken_desk = record {
    size = length-set m.row t.seat (grown (seat_at m.row t.seat) t.status) ∙ k.facts.size;
    bits = k.facts.bits;
    keys = λ i l u. rw (taken_key i) (k.facts.keys i l u);
    one = λ key i j l h a b. k.facts.one key i j l h (sym (same_keyed key i) ∙ a) (sym (same_keyed key j) ∙ b);
    zeros = λ i l u. rw (taken_other i (λ e. never (used_bit m.bits i) (rw e (took_used m f t k)) u)) (k.facts.zeros i l u);
    fits = rw taken_capacity (let r = k.room in omega arith);
    rows = row_facts;
    agree = agree_facts;
    tally = tally_facts;
  }

-- ---- a seat that no mark names

unheld : (cells marks : List ℕ) (i n : ℕ) → ((j : ℕ) → j < n → mark_at marks j ≡ i → ⊥) → records_of cells marks i n ≡ []
unfolding records_of
unheld cells marks i zero h = refl
unheld cells marks i (suc n) h = rw (ne_eqb (mark_at marks n) i (h n (omega arith)), unheld cells marks i n (λ j l. h j (omega arith)))

-- ---- the memory after an opening

module _ (m : Memory) (o : Opening) (k : OpensAt m o) where
  pub opened_own : seat_at (opened m o).row o.seat ≡ new_seat o.key
  opened_own =
      let l : o.seat < length m.row = let a = k.facts.size in let b = k.below in omega arith in
      get_or-set_same m.row o.seat (new_seat o.key) zero_seat l

  pub opened_other : (i : ℕ) → (i ≡ o.seat → ⊥) → seat_at (opened m o).row i ≡ seat_at m.row i
  opened_other i n = get_or-set_other m.row o.seat i (new_seat o.key) zero_seat n

  pub opened_bit : used_bit (opened m o).bits o.seat ≡ true
  opened_bit = set_own m.bits o.seat k.clear

  pub other_bit : (i : ℕ) → (i ≡ o.seat → ⊥) → used_bit (opened m o).bits i ≡ used_bit m.bits i
  other_bit i n = set_other m.bits o.seat i k.clear n

  -- a seat that is used is not the one that is opened
  pub used_other : (i : ℕ) → used_bit m.bits i ≡ true → i ≡ o.seat → ⊥
  used_other i u e = never (used_bit m.bits i) u (rw e k.clear)

  unmarked : (j : ℕ) → j < m.count → mark_at m.marks j ≡ o.seat → ⊥
  unmarked j l e = used_other (mark_at m.marks j) (mark_used m k.facts j l) e

  -- the new seat holds nothing
  pub opened_holds : held_by m o.seat ≡ []
  opened_holds = unheld m.cells m.marks o.seat m.count unmarked

  -- with the new seat each key is still at one seat
  keyed_else : (key : Key) (i : ℕ) → (i ≡ o.seat → ⊥) → keyed_at (opened m o).row (opened m o).bits key i ≡ keyed_at m.row m.bits key i
  unfolding keyed
  keyed_else key i n = rw (other_bit i n, opened_other i n)

  not_both : (key : Key) (i : ℕ) → i < seat_count → (i ≡ o.seat → ⊥) → keyed_at (opened m o).row (opened m o).bits key i ≡ true → keyed_at (opened m o).row (opened m o).bits key o.seat ≡ true → ⊥
  unfolding keyed
  not_both key i l n a b =
      let same : o.key ≡ key = same_key_case o.key key (rw (opened_bit, opened_own) at b) in
      never _ (sym (keyed_else key i n) ∙ a) (rw same at (k.fresh i l))

  one_facts : (key : Key) (i j : ℕ) → i < seat_count → j < seat_count → keyed_at (opened m o).row (opened m o).bits key i ≡ true → keyed_at (opened m o).row (opened m o).bits key j ≡ true → i ≡ j
  one_facts key i j l h a b =
      eq-case i o.seat
      (λ e. eq-case j o.seat (λ q. e ∙ sym q) (λ n. absurd (not_both key j h n b (rw e at a))))
      (λ n. eq-case j o.seat (λ q. absurd (not_both key i l n a (rw q at b))) (λ p. k.facts.one key i j l h (sym (keyed_else key i n) ∙ a) (sym (keyed_else key j p) ∙ b)))

  row_stays : (i : ℕ) → i < m.count → row_good (opened m o).row (opened m o).bits m.cells m.marks i ≡ true
  unfolding mark_names
  row_stays i l = rw (other_bit (mark_at m.marks i) (unmarked i l), opened_other (mark_at m.marks i) (unmarked i l)) (k.facts.rows i l)

  key_facts : (i : ℕ) → i < seat_count → used_bit (opened m o).bits i ≡ true → is_key (seat_key (seat_at (opened m o).row i)) ≡ true
  key_facts i l u =
      eq-case i o.seat
      (λ e. rw (e, opened_own) k.legal)
      (λ n. rw (opened_other i n) (k.facts.keys i l (rw (other_bit i n) at u)))

  zero_facts : (i : ℕ) → i < seat_count → used_bit (opened m o).bits i ≡ false → is_zero (seat_at (opened m o).row i) ≡ true
  zero_facts i l u =
      eq-case i o.seat
      (λ e. never (used_bit (opened m o).bits i) (rw e opened_bit) u)
      (λ n. rw (opened_other i n) (k.facts.zeros i l (rw (other_bit i n) at u)))

  still_agree : (i : ℕ) → i < seat_count → used_bit (opened m o).bits i ≡ true → progress_of (seat_at (opened m o).row i) ≡ replay none (held_by m i)
  unfolding replay
  still_agree i l u =
      eq-case i o.seat
      (λ e. rw (e, opened_own, opened_holds))
      (λ n. rw (opened_other i n) (k.facts.agree i l (rw (other_bit i n) at u)))

  pub opened_desk : Facts (opened m o)
  opened_desk = record {
    size = length-set m.row o.seat (new_seat o.key) ∙ k.facts.size;
    bits = set_below seat_count m.bits o.seat k.facts.bits k.below k.clear;
    keys = key_facts;
    one = one_facts;
    zeros = zero_facts;
    fits = k.facts.fits;
    rows = row_stays;
    agree = still_agree;
    tally = k.facts.tally;
  }

-- ---- an emptied desk

empty_seat : (i : ℕ) → i < seat_count → seat_at empty_row i ≡ zero_seat
empty_seat i l = get_or-replicate seat_count i zero_seat zero_seat l

pub emptied_desk : (m : Memory) → Facts (emptied m)
unfolding is_zero
emptied_desk m = record {
  size = length-replicate seat_count zero_seat;
  bits = omega arith;
  keys = λ i l u. never (used_bit 0 i) u (none_used i);
  one = λ key i j l h a b. never (used_bit 0 i) (keyed_used empty_row 0 key i a) (none_used i);
  zeros = λ i l u. rw (empty_seat i l);
  fits = omega arith;
  rows = λ i l. absurd (omega arith);
  agree = λ i l u. never (used_bit 0 i) u (none_used i);
  tally = right_empty m.cells;
}

-- ---- a desk stays a desk

pub reply_facts : (m : Memory) (f : List ℕ) → Facts m → Facts (replies m f).after
reply_facts m f d = by_reply m f (λ (o : Outcome). Facts o.after) (taken_desk m f) (λ why. d)

pub opening_facts : (m : Memory) (f : List ℕ) → Facts m → Facts (opens m f).after
opening_facts m f d = by_opening m f (λ (o : Outcome). Facts o.after) (λ o k. opened_desk m o k.at) (λ why. d)

pub stays_desk : StaysDesk
stays_desk = record {
  opening = λ m f d. facts_desk (opens m f).after (opening_facts m f (desk_facts m d));
  reply = λ m f d. facts_desk (replies m f).after (reply_facts m f (desk_facts m d));
  reset = λ m. facts_desk (emptied m) (emptied_desk m);
}
