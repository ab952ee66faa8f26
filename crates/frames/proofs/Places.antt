-- Each field is where it says, field by field; so the refusals of reading are those of the table. Assumes nothing.
use Prim.Native.Nat.{ℕ, suc, ◌+◌, ◌≤◌, ◌<◌}
use mathlib.Core.List.{List, [], ◌∷◌}
use mathlib.Core.Bool.{Bool, true, false, cond, not}
use mathlib.Core.Path.{◌≡◌, refl, ap, subst}
use native.Mathlib.Omega.{arith}
use lib.Dec.{T, ltb, ltb→lt}
use lib.ListN.{get_or}
use borrow.Author.Tests.{le-leb, ne_eqb}
use Rattle.digits.specs.Refusals.{FIELD, is_refusal}
use Rattle.digits.specs.Told.{tried, Sure}
use Rattle.digits.proofs.Tests.{and_true}
use Rattle.digits.proofs.Sure.{sure_refuses, sure_gives}
use Rattle.frames.specs.declared.timing.TimingKind.{TimingKind}
use Rattle.frames.specs.declared.timing.TimingKind.TheVariants.{Clock as clock_kind, Net as net_kind, Raw as raw_kind}
use Rattle.frames.specs.Shape.{Value, is, none}
use Rattle.frames.specs.Classes.{Classes, first_off, spoiled_place}
use Rattle.frames.specs.Field.{Field, number_to}
use Rattle.frames.specs.Layout.{Layout, field, taken, fields_of, within, Placed, stands, besides, ends}
use Rattle.frames.specs.Kind.{Kind, fields_begin, head_told, read}
use Rattle.frames.specs.Places.{request_offsets, reply_offsets, dynamic_offsets, Stands, FieldsStandWhereTheySay}
use Rattle.frames.specs.Request.{request, request_fields}
use Rattle.frames.specs.Timing.{timing_kind, timed}
use Rattle.frames.specs.Reply.{is_letter, least_run, from_bib, tail_of, with_tail, reply, reply_fields}
use Rattle.frames.specs.Dynamic.{dynamic, dynamic_fields}
use Rattle.frames.proofs.HeadLaws.{sure_then, sure_head}

-- a field, with a place after it that is computed to be higher
next : {R A : Type 0} {p q size : ℕ} {offsets : List ℕ} {f : Field A} {part : R → A} {after : A → Layout R}
    → T (ltb p q) → q ≡ p + f.shape.width → ((v : A) → f.rule v ≡ true → Placed (after v) (q ∷ offsets) size) → Placed (field p f part after) (p ∷ q ∷ offsets) size
next {p = p} {q = q} t place rest = stands (ltb→lt p q t) place rest

-- ---- the three kinds

pub request_stands : Stands request request_offsets
unfolding request_fields
request_stands =
    next tt refl λ _ _. next tt refl λ _ _. next tt refl λ _ _. next tt refl λ _ _. next tt refl λ _ _.
    next tt refl λ _ _. next tt refl λ _ _. next tt refl λ _ _. next tt refl λ _ _. ends

pub dynamic_stands : Stands dynamic dynamic_offsets
unfolding dynamic_fields
dynamic_stands =
    next tt refl λ _ _. next tt refl λ _ _. next tt refl λ _ _. next tt refl λ _ _. next tt refl λ _ _.
    next tt refl λ _ _. next tt refl λ _ _. next tt refl λ _ _. next tt refl λ _ _. next tt refl λ _ _.
    next tt refl λ _ _. next tt refl λ _ _. next tt refl λ _ _. next tt refl λ _ _. ends

within_stands : {Q R : Type 0} (of : R → Q) (whole : Q → R) {L : Layout Q} {offsets : List ℕ} {size : ℕ} → Placed L offsets size → Placed (within of whole L) offsets size
within_stands of whole (stands some next rest) = stands some next λ v good. within_stands of whole (rest v good)
within_stands of whole (besides rest) = besides (within_stands of whole rest)
within_stands of whole ends = ends

timed_stands : (kind : TimingKind) → Placed (timed kind) (30 ∷ 40 ∷ 48 ∷ 50 ∷ []) 51
unfolding timed
timed_stands clock_kind = besides (next tt refl λ _ _. next tt refl λ _ _. next tt refl λ _ _. besides ends)
timed_stands net_kind = besides (next tt refl λ _ _. next tt refl λ _ _. next tt refl λ _ _. besides ends)
timed_stands raw_kind = besides (next tt refl λ _ _. next tt refl λ _ _. next tt refl λ _ _. ends)

tail_stands : (status : ℕ) → Placed (from_bib (least_run status) (number_to 3 999) is_letter (timing_kind status)) (12 ∷ 17 ∷ 20 ∷ 23 ∷ 26 ∷ 29 ∷ 30 ∷ 40 ∷ 48 ∷ 50 ∷ []) 51
unfolding from_bib
tail_stands status =
    next tt refl λ bib _. next tt refl λ group _. next tt refl λ run _. next tt refl λ physical _. next tt refl λ channel _. next tt refl λ letter _.
    within_stands (λ t. t.times) (λ times. record { bib = bib; group = group; run = run; physical = physical; channel = channel; information = letter; times = times }) (timed_stands (timing_kind status letter))

pub reply_stands : Stands reply reply_offsets
unfolding reply_fields
reply_stands =
    next tt refl λ address _. next tt refl λ program _. next tt refl λ mode _. next tt refl λ status _. next tt refl λ requester _. next tt refl λ n _.
    within_stands tail_of (with_tail address program mode status requester n) (tail_stands status)

pub fields_stand_where_they_say : FieldsStandWhereTheySay
fields_stand_where_they_say = (request_stands, reply_stands, dynamic_stands)

-- ---- an offset that is not 0 makes a refusal of the table, and the spoiled byte is not before the field

off_after : (classes : Classes) (s : List ℕ) (p own : ℕ) → own ≤ p → own ≤ first_off classes s p own
unfolding first_off
off_after [] s p own h = omega arith
off_after (test ∷ classes) s p own h = go (test (get_or s p 0)) (off_after classes s (suc p) own (omega arith))
  where
    go : (t : Bool) → own ≤ first_off classes s (suc p) own → own ≤ cond t (first_off classes s (suc p) own) p
    go true k = k
    go false k = h

field_told : (at spoiled : ℕ) → 0 < at → at ≤ spoiled → is_refusal (FIELD at spoiled) ≡ true
field_told at spoiled h k = and_true (le-leb at spoiled k) (ap not (ne_eqb at 0 (λ (e : at ≡ 0). omega arith)))

sure_fields : {R : Type 0} {L : Layout R} {p size : ℕ} {offsets : List ℕ} → Placed L (p ∷ offsets) size → 0 < p → (s : List ℕ) → Sure (fields_of L p s)
unfolding fields_of
sure_fields {R} (stands {A} {p} {q} {size} {offsets} {f} {part} {next} some place rest) h s =
    by_value (λ v good. subst (λ (i : ℕ). Sure (fields_of (next v) i s)) place (sure_fields (rest v good) (omega arith) s)) (f.shape.got s p)
  where
    told : is_refusal (FIELD p (spoiled_place f.classes s p)) ≡ true
    told = field_told p (spoiled_place f.classes s p) h (off_after f.classes s p p (omega arith))

    by_rule : ((v : A) → f.rule v ≡ true → Sure (fields_of (next v) (p + f.shape.width) s)) → (v : A) (t : Bool) → f.rule v ≡ t → Sure (tried t (FIELD p (spoiled_place f.classes s p)) (fields_of (next v) (p + f.shape.width) s))
    by_rule more v true q = more v q
    by_rule more v false q = sure_refuses (FIELD p (spoiled_place f.classes s p)) told

    by_value : ((v : A) → f.rule v ≡ true → Sure (fields_of (next v) (p + f.shape.width) s)) → (x : Value A) → Sure (taken f.rule (FIELD p (spoiled_place f.classes s p)) x (λ v. fields_of (next v) (p + f.shape.width) s))
    by_value more (is v) = by_rule more v (f.rule v) refl
    by_value more none = sure_refuses (FIELD p (spoiled_place f.classes s p)) told
sure_fields (besides rest) h s = sure_fields rest h s
sure_fields (ends {p} {r}) h s = sure_gives r

sure_read : {R : Type 0} (k : Kind R) {offsets : List ℕ} → Stands k (fields_begin ∷ offsets) → (s : List ℕ) → Sure (read k s)
unfolding read
sure_read k placed s = sure_then (head_told k.lead k.size s) _ (sure_head k.lead k.size s) (sure_fields placed (omega arith) s)

pub sure_request : (s : List ℕ) → Sure (read request s)
sure_request = sure_read request request_stands

pub sure_reply : (s : List ℕ) → Sure (read reply s)
sure_reply = sure_read reply reply_stands

pub sure_dynamic : (s : List ℕ) → Sure (read dynamic s)
sure_dynamic = sure_read dynamic dynamic_stands
