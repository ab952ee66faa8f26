-- What is demanded of a kind of frame, proved once for every kind with a sound layout. Assumes nothing.
use Prim.Native.Nat.{ℕ, suc, ◌+◌, ◌-◌, ◌≤◌, ◌<◌}
use mathlib.Core.List.{List, [], ◌∷◌, ◌++◌}
use mathlib.Core.Bool.{Bool, true, ◌&&◌, and-eq-true_iff}
use mathlib.Core.Path.{◌≡◌, refl, sym, subst, ◌∙◌}
use native.Mathlib.Omega.{arith}
use native.Mathlib.Nat.{zero-add}
use lib.Dec.{eqb, leb}
use borrow.Author.Tests.{eqb-true, leb-true}
use lib.ListN.{length, get_or, take, drop, length-append}
use lib.Seq.{get_or_at, take_at, take-suc, take_all, sets, sets-eq}
use Rattle.digits.specs.declared.refusal.Refusal.{Refusal}
use Rattle.digits.specs.Refusals.{FIELD}
use Rattle.digits.specs.Told.{Told, gives, refuses, tried}
use Rattle.frames.specs.declared.refusals.ReadRefusal.{ReadRefusal}
use Rattle.std.specs.Prelude.{Result, Ok, Err, IsErrAnd}
use Rattle.frames.specs.declared.refusals.WriteRefusal.{WriteRefusal}
use Rattle.frames.specs.Refusals.{read_refused, write_refused, read_told}
use Rattle.frames.specs.Rules.{is_address}
use Rattle.frames.specs.Field.{letter}
use Rattle.frames.specs.Layout.{Layout, field, wrong_unless, fields_of, write}
use Rattle.frames.specs.Kind.{Kind, lead_is, letter_r, CR, head_told, read, wrong_in, frame_of, write_tried, Wrote}
use Rattle.frames.specs.Faithful.{Faithful}
use Rattle.frames.proofs.HeadLaws.{tried_gives, then_gives, head_good, write_done}
use Rattle.frames.proofs.LayoutLaws.{Sound, written_reads, length_write, reads_write, Sees, seen_is}
use Rattle.frames.proofs.SeesLaws.{sees_letter}

-- ---- the head of an accepted frame

pub record Passed (lead size : ℕ) (s : List ℕ) : Type 0 where
  pub first : get_or s 0 0 ≡ lead
  pub long : length s ≡ size
  pub last : get_or s (size - 1) 0 ≡ CR
  pub letter_r_law : get_or s 1 0 ≡ letter_r
  pub address : is_address (get_or s 2 0) ≡ true

lead_is_law : (lead : ℕ) (s : List ℕ) → lead_is lead s ≡ true → get_or s 0 0 ≡ lead
lead_is_law lead [] e = absurd (let z : ◌≡◌ {A = ℕ} 0 1 = cc in omega arith)
lead_is_law lead (b ∷ s) e = eqb-true b lead e

pub passed : (lead size : ℕ) (s : List ℕ) → head_told lead size s ≡ gives tt → Passed lead size s
unfolding head_told
passed lead size s e =
    let a = tried_gives (lead_is lead s) _ _ _ e in
    let b = tried_gives (eqb (length s) size) _ _ _ a.1 in
    let c = tried_gives (eqb (get_or s (size - 1) 0) CR) _ _ _ b.1 in
    let d = tried_gives (eqb (get_or s 1 0) letter_r && is_address (get_or s 2 0)) _ _ _ c.1 in
    let f = (and-eq-true_iff (eqb (get_or s 1 0) letter_r) (is_address (get_or s 2 0))).0 d.0 in
    record { first = lead_is_law lead s a.0; long = eqb-true _ _ b.0; last = eqb-true _ _ c.0; letter_r_law = eqb-true _ _ f.0; address = f.1 }

with_last : (t : List ℕ) (n x : ℕ) → length t ≡ n + 1 → get_or t n 0 ≡ x → take n t ++ (x ∷ []) ≡ t
with_last t n x h e = rw (← e, ← take-suc t n 0 (omega arith)) (take_all (suc n) t (omega arith))

-- a frame is lead byte, R and CR, and what is between them
pub whole_frame : (lead n : ℕ) (s : List ℕ) → get_or s 0 0 ≡ lead → length s ≡ n + 3 → get_or s (n + 2) 0 ≡ CR → get_or s 1 0 ≡ letter_r → lead ∷ letter_r ∷ (take n (drop 2 s) ++ (CR ∷ [])) ≡ s
whole_frame lead n [] first long last letter_r_law = absurd (omega arith)
whole_frame lead n (x ∷ []) first long last letter_r_law = absurd (omega arith)
whole_frame lead n (x ∷ y ∷ t) first long last letter_r_law =
    let i : n + 2 ≡ suc (suc n) = omega arith in
    let e : get_or (x ∷ y ∷ t) (suc (suc n)) 0 ≡ CR = rw i at last in
    rw (with_last t n CR (omega arith) e, ← first, ← letter_r_law)

-- ---- a kind whose layout is sound

pub record SoundKind {R : Type 0} (k : Kind R) (Whole : R → Type 0) : Type 1 where
  pub bytes : ℕ
  pub sound : Sound Whole k.fields (λ _. Unit {0}) (Unit {0}) bytes
  pub size : k.size ≡ bytes + 3
  pub some : 0 < k.lead
  -- the first byte of the fields is an address
  pub address : (r : R) → wrong_in k r ≡ 0 → is_address (get_or (frame_of k r) 2 0) ≡ true

module _ {R : Type 0} {k : Kind R} {Whole : R → Type 0} (g : SoundKind k Whole) where
  pub length_frame : (r : R) → wrong_in k r ≡ 0 → length (frame_of k r) ≡ k.size
  unfolding wrong_in frame_of
  length_frame r e =
      size_of (omega (arith, length-append (write k.fields r) (CR ∷ []), length_write g.sound r e))
    where
      size_of : {m : ℕ} → m ≡ g.bytes + 3 → m ≡ k.size
      size_of q = q ∙ sym g.size

  -- the fields of a well formed record's frame hold that record
  pub frame_fields : (r : R) → Whole r → wrong_in k r ≡ 0 → fields_of k.fields 2 (frame_of k r) ≡ gives r
  unfolding wrong_in frame_of
  frame_fields r w e = written_reads g.sound r w tt (k.lead ∷ letter_r ∷ []) (CR ∷ []) (frame_of k r) 2 e refl refl

  -- a well formed record's frame is read as that record
  pub frame_back : (r : R) → Whole r → wrong_in k r ≡ 0 → read k (frame_of k r) ≡ gives r
  unfolding read wrong_in frame_of
  frame_back r w e =
      let s = frame_of k r in
      let q : fields_of k.fields 2 s ≡ gives r = frame_fields r w e in
      let l = length_write g.sound r e in
      let long : length s ≡ k.size = length_frame r e in
      let last : get_or s (k.size - 1) 0 ≡ CR = get_or_at (k.lead ∷ letter_r ∷ write k.fields r) CR [] 0 (k.size - 1) (omega (arith, g.size)) in
      rw (← head_good k.lead k.size s g.some refl long last refl (g.address r e)) q

  -- an accepted frame is the frame of a well formed record whose arrays have their lengths
  pub record Own (s : List ℕ) (r : R) : Type 0 where
    pub has : Whole r
    pub fine : wrong_in k r ≡ 0
    pub bytes : frame_of k r ≡ s

  pub frame_again : (s : List ℕ) (r : R) → read k s ≡ gives r → Own s r
  unfolding read wrong_in frame_of
  frame_again s r e =
      let h = then_gives (head_told k.lead k.size s) _ r e in
      let p : Passed k.lead (g.bytes + 3) s = rw g.size at (passed k.lead k.size s h.0) in
      let w = reads_write g.sound tt 2 s r (let l = p.long in omega arith) h.1 in
      let i : g.bytes + 3 - 1 ≡ g.bytes + 2 = omega arith in
      record { has = w.whole; fine = w.fine; bytes = rw w.text (whole_frame k.lead g.bytes s p.first p.long (rw i at p.last) p.letter_r_law) }

  room_enough : (r : R) → wrong_in k r ≡ 0 → (out : List ℕ) → k.size ≤ length out → gives tt ≡ write_tried (wrong_in k r) k.size (length out)
  room_enough r e out h = write_done (wrong_in k r) k.size (length out) e h

  answered : (s : List ℕ) → ((r : R) → Whole r → wrong_in k r ≡ 0 → frame_of k r ≡ s → ⊥) → (t : Told R) → read k s ≡ t → (f : Refusal) × (read k s ≡ refuses f)
  answered s none (gives r) e = let o = frame_again s r e in absurd (none r o.has o.fine o.bytes)
  answered s none (refuses f) e = (f, e)

  pub faithful : Faithful k Whole
  faithful = record {
    reads_back = λ r w e out h.
        let q = room_enough r e out h in
        (sym q, rw (← q, take_at (frame_of k r) (drop k.size out) k.size (length_frame r e)) (frame_back r w e));
    writes_again = λ s r e out h.
        let o = frame_again s r e in
        let q = room_enough r o.fine out h in
        (sym q, rw (← q, o.bytes));
    refused_exactly = λ s. (
      λ w r has fine bytes. let g : read k s ≡ gives r = rw (← bytes) (frame_back r has fine) in let b = w.1 in let z : ◌≡◌ {A = ℕ} 0 1 = cc in omega arith,
      λ none. answered s none (read k s) refl,
    );
  }

-- ---- `read`, from the tests of the head and from what the code reads of the fields

-- the fields after the address, for code that tests a frame's address only in the head
pub sees_address : {R : Type 0} {part : R → ℕ} {next : ℕ → Layout R} {s : List ℕ} {spoils : ℕ → ℕ} {w : ℕ} {r : R} → spoils 2 ≡ 2
    → Sees (next (get_or s 2 0)) 3 s spoils w r → is_address (get_or s 2 0) ≡ true → Sees (field 2 (letter is_address) part next) 2 s spoils w r
sees_address {R} {part} {next} {s} {spoils} {w} {r} own rest good =
    subst (λ (t : Bool). Sees (field 2 (letter is_address) part next) 2 s spoils (wrong_unless t 2 w) r) good (sees_letter tt own (λ _. rest))

pub read_fields : {R : Type 0} (k : Kind R) (s : List ℕ) (spoils : ℕ → ℕ) (w : ℕ) (r : R) → (is_address (get_or s 2 0) ≡ true → Sees k.fields 2 s spoils w r)
    → gives tt ≡ head_told k.lead k.size s → tried (eqb w 0) (FIELD w (spoils w)) (gives r) ≡ read k s
unfolding read
read_fields k s spoils w r sees good =
    rw (← good) (sym (seen_is (sees (passed k.lead k.size s (sym good)).address)))

-- a frame that passed the tests of the head has its kind's size
pub passed_long : (lead size : ℕ) (s : List ℕ) → gives tt ≡ head_told lead size s → length s ≡ size
passed_long lead size s good = (passed lead size s (sym good)).long

-- a refusal of the head is the reader's
pub read_head : {R : Type 0} (k : Kind R) (s : List ℕ) (f : ReadRefusal) → refuses (read_refused f) ≡ head_told k.lead k.size s
    → (a : Result R ReadRefusal) → IsErrAnd a (λ g. g ≡ f) → read_told a ≡ read k s
unfolding read
read_head k s f e (Ok r) is = absurd is
read_head k s f e (Err g) is = rw (is, ← e)

-- ---- the promise of a writer

module _ {R : Type 0} (k : Kind R) (r : R) (out : List ℕ) where
  -- a well formed record whose frame was stored
  pub wrote_frame : (wrong_in k r ≡ 0 → length (frame_of k r) ≡ k.size) → gives tt ≡ write_tried (wrong_in k r) k.size (length out)
      → (out' : List ℕ) → (wrong_in k r ≡ 0 → out' ≡ sets out 0 (frame_of k r)) → Wrote k r out (Ok tt) out'
  unfolding write_tried
  wrote_frame long is out' stored =
      let q : write_tried (wrong_in k r) k.size (length out) ≡ gives tt = sym is in
      let b = tried_gives (eqb (wrong_in k r) 0) _ _ _ q in
      let c = tried_gives (leb k.size (length out)) _ _ _ b.1 in
      let z = eqb-true _ _ b.0 in
      let l = long z in
      let h : 0 + length (frame_of k r) ≤ length out = omega (arith, l, leb-true k.size (length out) c.0) in
      record { told = is; bytes = rw q (stored z ∙ sets-eq (frame_of k r) out 0 h ∙ rw (l, zero-add)) }

  pub wrote_nothing : (f : WriteRefusal) → refuses (write_refused f) ≡ write_tried (wrong_in k r) k.size (length out)
      → (a : Result (Unit {0}) WriteRefusal) → IsErrAnd a (λ g. g ≡ f) → Wrote k r out a out
  wrote_nothing f is (Ok u) e = absurd e
  wrote_nothing f is (Err g) e = record { told = rw e is; bytes = rw (← is) }
