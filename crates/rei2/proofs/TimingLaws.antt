-- The timing of a reply in numbers and back, and what is written of a record whose timing is in numbers. Assumes nothing.
use mathlib.Core.Path.{◌≡◌, refl, sym, ap, ap₂, ◌∙◌}
use mathlib.Core.Bool.{Bool, true, false, cond, not, true≢false, false≢true, ◌&&◌, and-eq-true_iff}
use mathlib.Core.List.{List, ◌++◌, append-nil}
use Prim.Native.Nat.{ℕ, ◌≤◌}
use native.Mathlib.Omega.{arith}
use lib.ListN.{length, take, drop}
use lib.Seq.{take-length, drop-length, length-take-le}
use lib.Dec.{eqb, leb}
use lib.IntN.{ℤ, pos, negsuc}
use borrow.Author.Tests.{eqb-true, eq-eqb, ne_eqb}
use Rattle.digits.specs.Refusals.{ROOM}
use Rattle.digits.specs.Told.{Told, gives, tried}
use Rattle.frames.specs.declared.timing.TimingKind.{TimingKind}
use Rattle.frames.specs.declared.timing.TimingKind.TheVariants.{Clock as clock_kind, Net as net_kind, Raw as raw_kind}
use Rattle.frames.specs.declared.timing.Timing.{Timing}
use Rattle.frames.specs.declared.timing.Timing.TheVariants.{Clock, Net, Raw}
use Rattle.frames.specs.declared.reply.StaticReply.{StaticReply}
use Rattle.std.specs.Prelude.{Result}
use Rattle.frames.specs.declared.refusals.WriteRefusal.{WriteRefusal}
use Rattle.frames.specs.Refusals.{write_told}
use Rattle.frames.specs.Layout.{record_wrong}
use Rattle.frames.specs.Timing.{timed}
use Rattle.frames.specs.Kind.{wrong_in, frame_of, write_tried, output_after, Wrote}
use Rattle.frames.specs.Reply.{reply}
use Rattle.frames.proofs.ReplyLaws.{times_fine}
use Rattle.rei2.specs.declared.reply.TimingNumbers.{TimingNumbers}
use Rattle.rei2.specs.declared.reply.ReplyRecord.{ReplyRecord}
use Rattle.rei2.specs.Frames.{written_answer}
use Rattle.rei2.specs.Reply.{RAW, CLOCK, NET, numbers_of, no_time, timing_of, is_nothing, no_date, left_over, shown, record_of, left_at, wrong_in_c, WroteReplyLent, RecordsMatch}
use Rattle.rei2.specs.inside.Left.{room_in, or_left}
use Rattle.digits.proofs.Tests.{by-test}

-- ---- the tests of the code, one after the other

module _ (n : TimingNumbers) where
  pub as_none : 3 ≤ n.kind → no_time ≡ timing_of n
  unfolding timing_of
  as_none h = rw (ne_eqb n.kind RAW (λ e. omega (arith, e, h)), ne_eqb n.kind CLOCK (λ e. omega (arith, e, h)), ne_eqb n.kind NET (λ e. omega (arith, e, h)))

  pub left_raw : (n.kind ≡ CLOCK → ⊥) → (n.kind ≡ NET → ⊥) → not (is_nothing n.net && no_date n) ≡ left_over n
  unfolding left_over
  left_raw not-clock not-net = rw (ne_eqb n.kind CLOCK not-clock, ne_eqb n.kind NET not-net)

-- ---- there and back

timing_back : (t : Timing) → timing_of (numbers_of t) ≡ t
unfolding timing_of
timing_back (Clock ticks day month year) = refl
timing_back (Net value) = refl
timing_back Raw = refl

shown_back : (r : StaticReply) → record_of (shown r) ≡ r
shown_back r =
    λ i. record { head = r.head; timing = timing_back r.timing i; raw_time = r.raw_time; raw_date = r.raw_date; spare = r.spare }

none_over : (t : Timing) → left_over (numbers_of t) ≡ false
unfolding left_over
none_over (Clock ticks day month year) = refl
none_over (Net value) = refl
none_over Raw = refl

-- ---- a record's first wrong part, and then a number left over

first_then : (w : ℕ) (l : Bool) → l ≡ false → cond (eqb w 0) (cond l left_at 0) w ≡ w
first_then w l e = by-test (eqb w 0) (λ t. rw (t, e) (sym (eqb-true w 0 t))) (λ t. rw t)

-- the answer, by the room that a record is given
told_by_law : (w room : ℕ) (l : Bool) → or_left l (written_answer 51 (write_tried w 51 (room_in l room))) ≡ written_answer 51 (write_tried (cond (eqb w 0) (cond l left_at 0) w) 51 room)
unfolding write_tried
told_by_law w room true = by-test (eqb w 0) (λ t. rw t) (λ t. rw (t, t))
told_by_law w room false = by-test (eqb w 0) (λ t. rw t (either (leb 51 room))) (λ t. rw (t, t))
  where
    either : (b : Bool) → or_left false (written_answer 51 (tried b ROOM (gives tt))) ≡ written_answer 51 (tried b ROOM (gives tt))
    either b = refl

written_all : (w : ℕ) (frame out : List ℕ) (k : ℕ) → k ≡ length out
    → output_after (write_tried w 51 (length (take k out))) frame 51 (take k out) ++ drop k out ≡ output_after (write_tried w 51 (length out)) frame 51 out
written_all w frame out k e =
    ap₂ (λ (x y : List ℕ). output_after (write_tried w 51 (length x)) frame 51 x ++ y) (ap (λ (i : ℕ). take i out) e ∙ take-length out) (ap (λ (i : ℕ). drop i out) e ∙ drop-length out)
    ∙ append-nil (output_after (write_tried w 51 (length out)) frame 51 out)

-- what is written: nothing without room; with all of the room, what is written to the output
written_by : (w : ℕ) (frame out : List ℕ) (l : Bool)
    → output_after (write_tried w 51 (length (take (room_in l (length out)) out))) frame 51 (take (room_in l (length out)) out) ++ drop (room_in l (length out)) out
    ≡ output_after (write_tried (cond (eqb w 0) (cond l left_at 0) w) 51 (length out)) frame 51 out
unfolding write_tried
written_by w frame out true = by-test (eqb w 0) (λ t. rw t) (λ t. rw (t, t))
written_by w frame out false =
    written_all w frame out (length out) refl ∙ sym (ap (λ (v : ℕ). output_after (write_tried v 51 (length out)) frame 51 out) (first_then w false refl))

all_fine : (w : ℕ) (l : Bool) → cond (eqb w 0) (cond l left_at 0) w ≡ 0 → (w ≡ 0) × (l ≡ false)
all_fine w l h =
    by-test (eqb w 0) (λ t. (eqb-true w 0 t, by-test l (λ e. let z : left_at ≡ 0 = rw (t, e) at h in absurd (omega (arith, z))) (λ e. e)))
    (λ t. let z : w ≡ 0 = rw t at h in absurd (true≢false (sym (eq-eqb w 0 z) ∙ t)))

pub within : (l : Bool) (n : ℕ) → room_in l n ≤ n
within true n = omega arith
within false n = omega arith

module _ (c : ReplyRecord) (out : List ℕ) (l : Bool) (e : l ≡ left_over c.timing) where
  pub wrote_reply : (room : ℕ) → room ≡ room_in l (length out) → (a : Result (Unit {0}) WriteRefusal) (part : List ℕ) → Wrote reply (record_of c) (take room out) a part
      → WroteReplyLent c out (or_left l (written_answer 51 (write_told a))) (part ++ drop room out)
  unfolding wrong_in_c
  wrote_reply room r a part h =
      let w = wrong_in reply (record_of c) in
      let n = length out in
      let frame = frame_of reply (record_of c) in
      let fits : room_in l n ≤ n = within l n in
      let size : length (take room out) ≡ room_in l n = length-take-le room out (rw r fits) ∙ r in
      let told : or_left l (written_answer 51 (write_told a)) ≡ written_answer 51 (write_tried (cond (eqb w 0) (cond l left_at 0) w) 51 n) =
      ap (λ (t : Told (Unit {0})). or_left l (written_answer 51 t)) (h.told ∙ ap (λ (k : ℕ). write_tried w 51 k) size) ∙ told_by_law w n l in
      let bytes : part ++ drop room out ≡ output_after (write_tried (cond (eqb w 0) (cond l left_at 0) w) 51 n) frame 51 out =
      ap (λ (x : List ℕ). x ++ drop room out) h.bytes
      ∙ ap (λ (k : ℕ). output_after (write_tried w 51 (length (take k out))) frame 51 (take k out) ++ drop k out) r
      ∙ written_by w frame out l in
      record {
        told = told ∙ ap (λ (b : Bool). written_answer 51 (write_tried (cond (eqb w 0) (cond b left_at 0) w) 51 n)) e;
        bytes = bytes ∙ ap (λ (b : Bool). output_after (write_tried (cond (eqb w 0) (cond b left_at 0) w) 51 n) frame 51 out) e;
      }

-- ---- back and there

is_zero : (v : ℤ) → is_nothing v ≡ true → v ≡ pos 0
is_zero (pos n) e = ap pos (eqb-true n 0 e)
is_zero (negsuc n) e = absurd (false≢true e)

-- a code that is none of the three is of no kind
no_time_wrong : (kind : TimingKind) (raw_time raw_date spare : List ℕ)
    → record_wrong (timed kind) (record { timing = no_time; raw_time = raw_time; raw_date = raw_date; spare = spare }) ≡ 0 → ⊥
unfolding record_wrong timed
no_time_wrong clock_kind a b c e = omega (arith, e)
no_time_wrong net_kind a b c e = omega (arith, e)
no_time_wrong raw_kind a b c e = omega (arith, e)

-- what follows from tests that are all true
no_part : (a b c d : ℕ) → eqb a 0 && eqb b 0 && eqb c 0 && eqb d 0 ≡ true → (a ≡ 0) × ((b ≡ 0) × ((c ≡ 0) × (d ≡ 0)))
no_part a b c d e =
    let x = (and-eq-true_iff (eqb a 0 && eqb b 0 && eqb c 0) (eqb d 0)).0 e in
    let y = (and-eq-true_iff (eqb a 0 && eqb b 0) (eqb c 0)).0 x.0 in
    let z = (and-eq-true_iff (eqb a 0) (eqb b 0)).0 y.0 in
    (eqb-true a 0 z.0, (eqb-true b 0 z.1, (eqb-true c 0 y.1, eqb-true d 0 x.1)))

not_over : (b : Bool) → not b ≡ false → b ≡ true
not_over true e = refl
not_over false e = absurd (true≢false e)

-- the numbers of each kind, with nothing left over
module _ (n : TimingNumbers) where
  raw_back : eqb n.kind RAW ≡ true → is_nothing n.net && no_date n ≡ true → numbers_of Raw ≡ n
  raw_back k e =
      let x = (and-eq-true_iff (is_nothing n.net) (no_date n)).0 e in
      let d = no_part n.ticks n.day n.month n.year x.1 in
      λ i. record { kind = sym (eqb-true n.kind RAW k) i; ticks = sym d.0 i; day = sym d.1.0 i; month = sym d.1.1.0 i; year = sym d.1.1.1 i; net = sym (is_zero n.net x.0) i }

  clock_back : eqb n.kind CLOCK ≡ true → is_nothing n.net ≡ true → numbers_of (Clock n.ticks n.day n.month n.year) ≡ n
  clock_back k e =
      λ i. record { kind = sym (eqb-true n.kind CLOCK k) i; ticks = n.ticks; day = n.day; month = n.month; year = n.year; net = sym (is_zero n.net e) i }

  net_back : eqb n.kind NET ≡ true → no_date n ≡ true → numbers_of (Net n.net) ≡ n
  net_back k e =
      let d = no_part n.ticks n.day n.month n.year e in
      λ i. record { kind = sym (eqb-true n.kind NET k) i; ticks = sym d.0 i; day = sym d.1.0 i; month = sym d.1.1.0 i; year = sym d.1.1.1 i; net = n.net }

  numbers_back : (timing_of n ≡ no_time → ⊥) → left_over n ≡ false → numbers_of (timing_of n) ≡ n
  unfolding timing_of left_over
  numbers_back some none =
      by-test (eqb n.kind RAW) (λ a. let k = eqb-true n.kind RAW a in rw a (raw_back a (not_over _ (rw k at none))))
      (λ a. by-test (eqb n.kind CLOCK) (λ b. rw (a, b) (clock_back b (not_over _ (rw b at none))))
      (λ b. by-test (eqb n.kind NET) (λ d. rw (a, b, d) (net_back d (not_over _ (rw (b, d) at none))))
      (λ d. absurd (some (rw (a, b, d))))))

pub records_match : RecordsMatch
unfolding wrong_in_c
records_match = record {
  there_and_back = shown_back;
  same_wrong = λ r. first_then _ _ (none_over r.timing) ∙ ap (wrong_in reply) (shown_back r);
  back_and_there = λ c fine.
      let f = all_fine (wrong_in reply (record_of c)) (left_over c.timing) fine in
      let same : numbers_of (timing_of c.timing) ≡ c.timing = numbers_back c.timing (λ e. no_time_wrong _ _ _ _ (rw e at (times_fine (record_of c) f.0))) f.1 in
      λ i. record { head = c.head; timing = same i; raw_time = c.raw_time; raw_date = c.raw_date; spare = c.spare };
}
