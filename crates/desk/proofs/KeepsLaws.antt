-- What a call leaves as it was. Assumes nothing.
use Prim.Native.Nat.{ℕ, ◌+◌, ◌*◌, ◌<◌, ◌≤◌}
use mathlib.Core.List.{List}
use mathlib.Core.Bool.{Bool, true, false, cond}
use mathlib.Core.Path.{◌≡◌, refl, sym, ◌∙◌}
use lib.ListN.{length, get_or, length-set}
use lib.Seq.{get_or-set_other}
use Rattle.digits.specs.declared.refusal.Refusal.{Refusal}
use Rattle.digits.specs.Refusals.{DESK}
use Rattle.digits.specs.Told.{gives, refuses, tried}
use Rattle.digits.proofs.Sure.{not_refused}
use Rattle.finder.specs.Pieces.{pieces}
use Rattle.desk.specs.declared.reply.Taking.{Taking}
use Rattle.desk.specs.Limits.{cell_size}
use Rattle.desk.specs.Memory.{Memory, mark_at}
use Rattle.desk.specs.declared.capture.Counts.{Counts}
use Rattle.desk.specs.Desk.{is_desk, all_seats}
use Rattle.desk.specs.Calls.{Outcome, opens, replies, taken, emptied, resets}
use Rattle.desk.specs.Capture.{fates, after_all, counts_of}
use Rattle.desk.specs.Keeps.{RefusedKeeps, SameSeat, KeepsMemory}
use Rattle.desk.proofs.WrittenLaws.{length_with, before_with, after_with}
use Rattle.desk.proofs.StepLaws.{Took, took_room, by_reply, by_opening, reply_refused_holds, opening_refused}
use Rattle.desk.proofs.DeskLaws.{taken_other, records_other, opened_other, other_bit}
use Rattle.desk.proofs.MixLaws.{lent}

-- ---- cells and marks after a reply

record Rest (m x : Memory) : Type 0 where
  bits : x.bits ≡ m.bits
  sizes : (length x.cells ≡ length m.cells) × (length x.marks ≡ length m.marks)
  before : (j : ℕ) → j < m.count * cell_size → get_or x.cells j 0 ≡ get_or m.cells j 0
  after : (j : ℕ) → m.count * cell_size + cell_size ≤ j → get_or x.cells j 0 ≡ get_or m.cells j 0
  marks : (j : ℕ) → (j ≡ m.count → ⊥) → mark_at x.marks j ≡ mark_at m.marks j

taken_rest : (m : Memory) (f : List ℕ) (t : Taking) → Took m f t → Rest m (taken m f t)
taken_rest m f t k =
    let r = took_room m f t k in
    let at = m.count * cell_size in
    record {
      bits = refl;
      sizes = (length_with m.cells at f r.cells r.frame, length-set m.marks m.count t.seat);
      before = before_with m.cells at f r.cells r.frame;
      after = after_with m.cells at f r.cells r.frame;
      marks = λ j n. get_or-set_other m.marks m.count j t.seat 0 n;
    }

module _ (m : Memory) (f : List ℕ) where
  rest : Rest m (replies m f).after
  rest = by_reply m f (λ (o : Outcome). Rest m o.after) (taken_rest m f) (λ why. record { bits = refl; sizes = (refl, refl); before = λ j l. refl; after = λ j l. refl; marks = λ j n. refl })

  -- ---- the other seats

  not_given : {P : Type 0} (s : ℕ) (why : Refusal) → refuses why ≡ gives s → P
  not_given s why h = absurd (not_refused s why (sym h))

  opened_else : (s i : ℕ) → (i ≡ s → ⊥) → (opens m f).answer ≡ gives s → SameSeat m (opens m f).after i
  opened_else s i n =
      by_opening m f (λ (o : Outcome). o.answer ≡ gives s → SameSeat m o.after i)
      (λ o k h. let q : o.seat ≡ s = cc in let x : i ≡ o.seat → ⊥ = λ y. n (y ∙ q) in record { seat = opened_other m o k.at i x; used = other_bit m o k.at i x; held = refl })
      (not_given s)

  taken_else : (s i : ℕ) → (i ≡ s → ⊥) → (replies m f).answer ≡ gives s → SameSeat m (replies m f).after i
  taken_else s i n =
      by_reply m f (λ (o : Outcome). o.answer ≡ gives s → SameSeat m o.after i)
      (λ t k h. let q : t.seat ≡ s = cc in let x : i ≡ t.seat → ⊥ = λ y. n (y ∙ q) in record { seat = taken_other m f t k i x; used = refl; held = records_other m f t k i x })
      (not_given s)

-- ---- reset and capture

abbrev reset_by : Bool → Memory → Outcome
reset_by b m = cond b (record { answer = gives 0; after = emptied m }) (record { answer = refuses DESK; after = m })

not_reset : (b : Bool) (m : Memory) (why : Refusal) → (reset_by b m).answer ≡ refuses why → (reset_by b m).after ≡ m
not_reset true m why h = absurd (not_refused 0 why h)
not_reset false m why h = refl

not_captured : (b : Bool) (m x : Memory) (c : Counts) (why : Refusal) → tried b DESK (gives c) ≡ refuses why → cond b x m ≡ m
not_captured true m x c why h = absurd (not_refused c why h)
not_captured false m x c why h = refl

pub refused_keeps : RefusedKeeps
unfolding resets
refused_keeps = record {
  reset = λ m why h. not_reset (all_seats m) m why h;
  opening = opening_refused;
  reply = reply_refused_holds;
  capture = λ m s why h. not_captured (is_desk m) m (after_all m (pieces s)) (counts_of (fates m (pieces s))) why h;
}

pub keeps_memory : KeepsMemory
keeps_memory = record {
  opening_others = λ m f s h i n. opened_else m f s i n h;
  reply_others = λ m f s h i n. taken_else m f s i n h;
  opening_count = λ m f. (lent m f).count;
  opening_cells = λ m f. (lent m f).cells;
  opening_marks = λ m f. (lent m f).marks;
  reply_bits = λ m f. (rest m f).bits;
  reply_sizes = λ m f. (rest m f).sizes;
  cells_before = λ m f. (rest m f).before;
  cells_after_holds = λ m f. (rest m f).after;
  other_marks = λ m f. (rest m f).marks;
}
