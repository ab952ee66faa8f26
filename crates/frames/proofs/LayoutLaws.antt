-- The fields, for every sound layout: what is written reads back, what was read is written the same, and the code reads what the layout says. Assumes nothing.
use Prim.Native.Nat.{ℕ, ◌+◌, ◌-◌, ◌^◌, ◌≤◌, ◌<◌}
use mathlib.Core.List.{List, ◌++◌, append_assoc}
use mathlib.Core.Bool.{Bool, true, false, ◌&&◌}
use mathlib.Core.Path.{◌≡◌, refl, sym, ap, subst, ◌∙◌}
use native.Mathlib.Omega.{arith}
use lib.Dec.{T, eqb, leb, ltb, leb→le, ltb→lt}
use borrow.Author.Tests.{ne_eqb}
use lib.ListN.{length, take, drop, length-append}
use Rattle.digits.specs.declared.refusal.Refusal.{Refusal}
use Rattle.digits.specs.Refusals.{FIELD}
use Rattle.digits.specs.Told.{Told, gives, refuses, tried}
use Rattle.digits.proofs.Forms.{byte_lawful}
use Rattle.digits.proofs.Sure.{not_refused}
use Rattle.times.specs.Clock.{is_time}
use Rattle.times.proofs.ClockLaws.{clock_inverse}
use Rattle.frames.specs.Shape.{Value, is, none, byte, number}
use Rattle.frames.specs.Classes.{Classes, spoiled_place}
use Rattle.frames.specs.Field.{Field, letter, time_of_day}
use Rattle.frames.specs.Layout.{Layout, field, suits, end, wrong_unless, taken, fields_of, record_wrong, write, within}
use Rattle.frames.specs.Timing.{are_raw, raw_bytes}
use Rattle.frames.proofs.ShapeLaws.{both_hold, Inverse, one_inverse, digits_inverse, run_inverse, join}
use Rattle.frames.proofs.ShownLaws.{Shows, letter_shows, time_shows, raw_shows}

-- ---- tests that passed

pub unless_none : (t : Bool) (at rest : ℕ) → 0 < at → wrong_unless t at rest ≡ 0 → (t ≡ true) × (rest ≡ 0)
unless_none true at rest h e = (refl, e)
unless_none false at rest h e = absurd (omega arith)

module _ {R A : Type 0} where
  -- a field that was accepted
  pub record Kept (rule : A → Bool) (x : Value A) (rest : A → Told R) (r : R) : Type 0 where
    pub of : A
    pub there : x ≡ is of
    pub good : rule of ≡ true
    pub after : rest of ≡ gives r

  pub kept : (rule : A → Bool) (f : Refusal) (x : Value A) (rest : A → Told R) (r : R) → taken rule f x rest ≡ gives r → Kept rule x rest r
  kept rule f (is v) rest r e = go (rule v) refl e
    where
      go : (t : Bool) → rule v ≡ t → tried t f (rest v) ≡ gives r → Kept rule (is v) rest r
      go true q h = record { of = v; there = refl; good = q; after = h }
      go false q h = absurd (not_refused r f (sym h))
  kept rule f none rest r e = absurd (not_refused r f (sym e))

-- ---- what makes a layout sound over n bytes

-- P is what is known of a record from the values so far, F says that these values fit, and W that a record is whole
pub data Sound {R : Type 0} (W : R → Type 0) : Layout R → (R → Type 0) → Type 0 → ℕ → Type 1 where
  -- an offset that is not 0, a shape that fits and that reads and writes what the rule takes, classes that are what good values show, and a sound rest after each such value
  field_sound : {A : Type 0} {at n : ℕ} {f : Field A} {part : R → A} {next : A → Layout R} {P : R → Type 0} {F : Type 0} {Fit : A → Type 0}
      → 0 < at → f.shape.width ≤ n → Inverse f.shape f.rule Fit → Shows f Fit → ((r : R) → W r → Fit (part r))
      → ((v : A) → f.rule v ≡ true → Sound W (next v) (λ r. P r × (part r ≡ v)) (F × Fit v) (n - f.shape.width))
      → Sound W (field at f part next) P F n
  suits_sound : {at n : ℕ} {test : R → Bool} {rest : Layout R} {P : R → Type 0} {F : Type 0}
      → 0 < at → Sound W rest (λ r. P r × (test r ≡ true)) F n → Sound W (suits at test rest) P F n
  -- the record is the only whole one for which all this holds
  end_sound : {q : R} {P : R → Type 0} {F : Type 0} → P q → (F → W q) → ((r : R) → W r → P r → q ≡ r) → Sound W (end q) P F 0

-- a record that was read from n bytes
pub record Writes {R : Type 0} (W : R → Type 0) (L : Layout R) (P : R → Type 0) (p : ℕ) (s : List ℕ) (n : ℕ) (r : R) : Type 0 where
  pub whole : W r
  pub known : P r
  pub fine : record_wrong L r ≡ 0
  pub text : write L r ≡ take n (drop p s)

module _ {R : Type 0} {W : R → Type 0} where
  -- ---- what is written is read

  pub written_reads : {L : Layout R} {P : R → Type 0} {F : Type 0} {n : ℕ} → Sound W L P F n → (r : R) → W r → P r → (pre post s : List ℕ) (p : ℕ)
      → record_wrong L r ≡ 0 → s ≡ pre ++ write L r ++ post → p ≡ length pre → fields_of L p s ≡ gives r
  unfolding fields_of record_wrong write
  written_reads (field_sound {A} {at} {n} {f} {part} {next} some fits inverse shown fit rest) r whole known pre post s p e is-s here =
      let v = part r in
      let q = unless_none (f.rule v) at (record_wrong (next v) r) some e in
      let s' : s ≡ pre ++ f.shape.put v ++ (write (next v) r ++ post) = is-s ∙ simp append_assoc in
      let got : f.shape.got s p ≡ is v =
      rw (s', here) (inverse.lawful.local pre (f.shape.put v) (write (next v) r ++ post) (inverse.lawful.long v) ∙ inverse.back v q.0 (fit r whole)) in
      let more = written_reads (rest v q.0) r whole (known, refl) (pre ++ f.shape.put v) post s (p + f.shape.width) q.1 (is-s ∙ simp append_assoc)
      (rw (length-append, inverse.lawful.long v, here)) in
      rw (got, q.0) more
  written_reads (suits_sound {at} {n} {test} {rest} some sound) r whole known pre post s p e is-s here =
      let q = unless_none (test r) at (record_wrong rest r) some e in
      written_reads sound r whole (known, q.0) pre post s p q.1 is-s here
  written_reads (end_sound own fits one) r whole known pre post s p e is-s here = ap gives (one r whole known)

  pub length_write : {L : Layout R} {P : R → Type 0} {F : Type 0} {n : ℕ} → Sound W L P F n → (r : R) → record_wrong L r ≡ 0 → length (write L r) ≡ n
  unfolding record_wrong write
  length_write (field_sound {A} {at} {n} {f} {part} {next} some fits inverse shown fit rest) r e =
      let v = part r in
      let q = unless_none (f.rule v) at (record_wrong (next v) r) some e in
      let l = length_write (rest v q.0) r q.1 in
      length-append (f.shape.put v) (write (next v) r) ∙ omega (arith, inverse.lawful.long v)
  length_write (suits_sound {at} {n} {test} {rest} some sound) r e =
      let q = unless_none (test r) at (record_wrong rest r) some e in length_write sound r q.1
  length_write (end_sound own fits one) r e = refl

  -- ---- what is read was written so

  pub reads_write : {L : Layout R} {P : R → Type 0} {F : Type 0} {n : ℕ} → Sound W L P F n → F → (p : ℕ) (s : List ℕ) (r : R) → p + n ≤ length s → fields_of L p s ≡ gives r → Writes W L P p s n r
  unfolding fields_of record_wrong write
  reads_write (field_sound {A} {at} {n} {f} {part} {next} some fits inverse shown fit rest) facts p s r h e =
      let k = kept f.rule (FIELD at _) (f.shape.got s p) (λ v. fields_of (next v) (p + f.shape.width) s) r e in
      let w = reads_write (rest k.of k.good) (facts, inverse.fit s p k.of k.there) (p + f.shape.width) s r (omega arith) k.after in
      let held = w.known.1 in
      record {
        whole = w.whole;
        known = w.known.0;
        fine = rw (held, k.good) w.fine;
        text = rw held (join n f.shape.width p s _ _ fits (inverse.lawful.again s p k.of (omega arith) k.there) (sym w.text));
      }
  reads_write (suits_sound {at} {n} {test} {rest} some sound) facts p s r h e =
      let w = reads_write sound facts p s r h e in
      record { whole = w.whole; known = w.known.0; fine = rw w.known.1 w.fine; text = w.text }
  reads_write (end_sound {q} {P} own fits one) facts p s r h e =
      let same : q ≡ r = let same_told : gives q ≡ gives r = e in cc in
      record { whole = subst W same (fits facts); known = subst P same own; fine = refl; text = refl }

-- ---- a layout within a larger record

module _ {Q R : Type 0} (of : R → Q) (whole : Q → R) where
  pub within_wrong : (L : Layout Q) (r : R) → record_wrong (within of whole L) r ≡ record_wrong L (of r)
  unfolding record_wrong
  within_wrong (field at f part next) r = ap (wrong_unless (f.rule (part (of r))) at) (within_wrong (next (part (of r))) r)
  within_wrong (suits at test rest) r = ap (wrong_unless (test (of r)) at) (within_wrong rest r)
  within_wrong (end q) r = refl

  pub within_write : (L : Layout Q) (r : R) → write (within of whole L) r ≡ write L (of r)
  unfolding write
  within_write (field at f part next) r = ap (λ (t : List ℕ). f.shape.put (part (of r)) ++ t) (within_write (next (part (of r))) r)
  within_write (suits at test rest) r = within_write rest r
  within_write (end q) r = refl

  module _ (W : Q → Type 0) (U : R → Type 0) (of_whole : (q : Q) → of (whole q) ≡ q) (down : (r : R) → U r → W (of r)) (up : (q : Q) → W q → U (whole q)) where
    pub within_sound : {L : Layout Q} {P : Q → Type 0} {F : Type 0} {n : ℕ} → Sound W L P F n → (O : R → Type 0) (G : Type 0) → (G → F)
        → ((r : R) → O r → P (of r)) → ((q : Q) → P q → O (whole q)) → ((r : R) → O r → whole (of r) ≡ r) → Sound U (within of whole L) O G n
    within_sound (field_sound {A} {at} {n} {f} {part} {next} {P} {F} {Fit} some fits inverse shown fit rest) O G facts inner outer same =
        field_sound some fits inverse shown (λ r u. fit (of r) (down r u))
        (λ v good. within_sound (rest v good) (λ r. O r × (part (of r) ≡ v)) (G × Fit v) (λ g. (facts g.0, g.1))
        (λ r o. (inner r o.0, o.1))
        (λ q k. (outer q k.0, ap part (of_whole q) ∙ k.1))
        (λ r o. same r o.0))
    within_sound (suits_sound {at} {n} {test} {rest} some sound) O G facts inner outer same =
        suits_sound some (within_sound sound (λ r. O r × (test (of r) ≡ true)) G facts
        (λ r o. (inner r o.0, o.1))
        (λ q k. (outer q k.0, ap test (of_whole q) ∙ k.1))
        (λ r o. same r o.0))
    within_sound (end_sound {q} own fits one) O G facts inner outer same =
        end_sound (outer q own) (λ g. up q (fits (facts g))) (λ r u o. ap whole (one (of r) (down r u) (inner r o)) ∙ same r o)

-- ---- what the code reads of a frame: a value for each field, and the offset of the first wrong one

-- the value that the code holds is the one in the frame; if there is none, it is one that the rule does not take
abbrev pub HeldAs : {A : Type 0} → (A → Bool) → Value A → A → Type 0
HeldAs rule (is u) v = u ≡ v
HeldAs rule none v = rule v ≡ false

-- the code's offset of the first wrong field (0 for none), and its record; `spoils` is the byte that the code names if the field at an offset is wrong
pub data Sees {R : Type 0} : Layout R → ℕ → List ℕ → (ℕ → ℕ) → ℕ → R → Type 1 where
  sees_field : {A : Type 0} {at p w : ℕ} {s : List ℕ} {spoils : ℕ → ℕ} {r : R} {f : Field A} {part : R → A} {next : A → Layout R}
      → (v : A) → T (ltb 0 at) → HeldAs f.rule (f.shape.got s p) v → spoils at ≡ spoiled_place f.classes s at → (f.rule v ≡ true → Sees (next v) (p + f.shape.width) s spoils w r)
      → Sees (field at f part next) p s spoils (wrong_unless (f.rule v) at w) r
  sees_suits : {at p w : ℕ} {s : List ℕ} {spoils : ℕ → ℕ} {r : R} {test : R → Bool} {rest : Layout R} → Sees rest p s spoils w r → Sees (suits at test rest) p s spoils w r
  sees_end : {p : ℕ} {s : List ℕ} {spoils : ℕ → ℕ} {q r : R} → q ≡ r → Sees (end q) p s spoils 0 r

module _ {R : Type 0} where
  abbrev judged : (ℕ → ℕ) → ℕ → R → Told R
  judged spoils w r = tried (eqb w 0) (FIELD w (spoils w)) (gives r)

  wrong_at_law : (spoils : ℕ → ℕ) (at spoiled : ℕ) (r : R) → T (ltb 0 at) → spoils at ≡ spoiled → refuses (FIELD at spoiled) ≡ judged spoils at r
  wrong_at_law spoils at spoiled r h e = let k = ltb→lt 0 at h in rw (ne_eqb at 0 (λ (z : at ≡ 0). omega arith), e)

  pub seen_is : {L : Layout R} {p w : ℕ} {s : List ℕ} {spoils : ℕ → ℕ} {r : R} → Sees L p s spoils w r → fields_of L p s ≡ tried (eqb w 0) (FIELD w (spoils w)) (gives r)
  unfolding fields_of
  seen_is (sees_field {A} {at} {p} {w} {s} {spoils} {r} {f} {part} {next} v some holds spoiled rest) =
      by_value (λ good. seen_is (rest good)) (f.shape.got s p) holds
    where
      by_rule : (f.rule v ≡ true → fields_of (next v) (p + f.shape.width) s ≡ judged spoils w r) → (t : Bool) → f.rule v ≡ t
          → tried t (FIELD at (spoiled_place f.classes s at)) (fields_of (next v) (p + f.shape.width) s) ≡ judged spoils (wrong_unless t at w) r
      by_rule more true q = more q
      by_rule more false q = wrong_at_law spoils at _ r some spoiled

      by_value : (f.rule v ≡ true → fields_of (next v) (p + f.shape.width) s ≡ judged spoils w r) → (x : Value A) → HeldAs f.rule x v
          → taken f.rule (FIELD at (spoiled_place f.classes s at)) x (λ u. fields_of (next u) (p + f.shape.width) s) ≡ judged spoils (wrong_unless (f.rule v) at w) r
      by_value more (is u) e = rw e (by_rule more (f.rule v) refl)
      by_value more none e = rw e (wrong_at_law spoils at _ r some spoiled)
  seen_is (sees_suits rest) = seen_is rest
  seen_is (sees_end e) = ap gives e

module _ {Q R : Type 0} (of : R → Q) (whole : Q → R) where
  pub sees_within : {L : Layout Q} {p w : ℕ} {s : List ℕ} {spoils : ℕ → ℕ} {q : Q} {r : R} → Sees L p s spoils w q → whole q ≡ r → Sees (within of whole L) p s spoils w r
  sees_within (sees_field v some holds spoiled rest) e = sees_field v some holds spoiled (λ good. sees_within (rest good) e)
  sees_within (sees_suits rest) e = sees_suits (sees_within rest e)
  sees_within (sees_end f) e = sees_end (ap whole f ∙ e)

-- ---- sound fields, by what they are; a letter needs a good one, and a number the highest value of its rule

pub byte_inverse : {rule : ℕ → Bool} → Inverse byte rule (λ _. Unit {0})
byte_inverse = one_inverse (record { lawful = byte_lawful; back = λ v h. refl })

module _ {R : Type 0} {W : R → Type 0} {at n : ℕ} {P : R → Type 0} {F : Type 0} where
  module _ {part : R → ℕ} {next : ℕ → Layout R} where
    pub letter_sound : {rule : ℕ → Bool} (some : ℕ) → rule some ≡ true → T (ltb 0 at && leb 1 n) → ((v : ℕ) → rule v ≡ true → Sound W (next v) (λ r. P r × (part r ≡ v)) (F × Unit {0}) (n - 1)) → Sound W (field at (letter rule) part next) P F n
    letter_sound some good t rest =
        let q = both_hold (ltb 0 at) (leb 1 n) t in
        field_sound (ltb→lt 0 at q.0) (leb→le 1 n q.1) byte_inverse (letter_shows some good) (λ r whole. tt) rest

    pub number_sound : {rule : ℕ → Bool} {classes : Classes} (w hi : ℕ) → T (ltb 0 at && leb w n && (leb 1 w && leb w 10) && ltb hi (10 ^ w)) → ((v : ℕ) → rule v ≡ true → v ≤ hi)
        → Shows (record { shape = number w; rule = rule; classes = classes }) (λ _. Unit {0})
        → ((v : ℕ) → rule v ≡ true → Sound W (next v) (λ r. P r × (part r ≡ v)) (F × Unit {0}) (n - w)) → Sound W (field at (record { shape = number w; rule = rule; classes = classes }) part next) P F n
    number_sound w hi t below shown rest =
        let a = both_hold (ltb 0 at && leb w n && (leb 1 w && leb w 10)) (ltb hi (10 ^ w)) t in
        let b = both_hold (ltb 0 at && leb w n) (leb 1 w && leb w 10) a.0 in
        let c = both_hold (ltb 0 at) (leb w n) b.0 in
        field_sound (ltb→lt 0 at c.0) (leb→le w n c.1) (digits_inverse w hi b.1 a.1 below) shown (λ r whole. tt) rest

    pub time_sound : T (ltb 0 at && leb 10 n) → ((v : ℕ) → is_time v ≡ true → Sound W (next v) (λ r. P r × (part r ≡ v)) (F × Unit {0}) (n - 10)) → Sound W (field at time_of_day part next) P F n
    time_sound t rest =
        let q = both_hold (ltb 0 at) (leb 10 n) t in
        field_sound (ltb→lt 0 at q.0) (leb→le 10 n q.1) (one_inverse clock_inverse) time_shows (λ r whole. tt) rest

  pub raw_sound : {part : R → List ℕ} {next : List ℕ → Layout R} (m : ℕ) → T (ltb 0 at && leb m n) → ((r : R) → W r → length (part r) ≡ m)
      → ((v : List ℕ) → are_raw m v ≡ true → Sound W (next v) (λ r. P r × (part r ≡ v)) (F × (length v ≡ m)) (n - m)) → Sound W (field at (raw_bytes m) part next) P F n
  raw_sound m t long rest =
      let q = both_hold (ltb 0 at) (leb m n) t in
      field_sound (ltb→lt 0 at q.0) (leb→le m n q.1) (run_inverse m) (raw_shows m) long rest
