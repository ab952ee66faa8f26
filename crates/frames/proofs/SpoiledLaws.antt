-- The spoiled byte, once over every kind with a sound layout: FIELD names the first wrong field and the byte that spoils it, and no other byte. Assumes nothing.
use Prim.Native.Nat.{ℕ, zero, suc, ◌+◌, ◌-◌, ◌≤◌, ◌<◌}
use mathlib.Core.List.{List, [], ◌∷◌, ◌++◌, append_assoc}
use mathlib.Core.Bool.{Bool, true, false, true≢false, false≢true, cond, ◌&&◌, or-true}
use mathlib.Core.Path.{◌≡◌, refl, sym, ap, subst, ◌∙◌}
use native.Mathlib.Omega.{arith}
use native.Mathlib.Nat.{add-zero}
use lib.Dec.{eqb}
use borrow.Author.Tests.{eqb-true, eq-eqb, lt-ltb, le-ltb}
use lib.ListN.{length, get_or, take, drop, take-append-drop, length-append, length-drop, get_or-append}
use lib.Seq.{get_or_at, take_at, take-add, take-take, drop_at, get_or-take, get_or-drop, get_or-append-add, length-take-le}
use Rattle.digits.specs.declared.refusal.Refusal.{Refusal}
use Rattle.digits.specs.Text.{one_of}
use Rattle.digits.specs.Refusals.{KIND, LENGTH, END, ADDRESS, FIELD}
use Rattle.digits.specs.Told.{Told, gives, refuses, tried}
use Rattle.digits.proofs.Tests.{by-test, by_less}
use Rattle.digits.proofs.Sure.{same_refusal, not_refused}
use Rattle.frames.specs.Rules.{is_address}
use Rattle.frames.specs.Shape.{Value, is, none, Shape}
use Rattle.frames.specs.Classes.{Classes, first_off, spoiled_place}
use Rattle.frames.specs.Field.{Field}
use Rattle.frames.specs.Layout.{Layout, field, suits, end, taken, fields_of, record_wrong, write, Placed, stands, besides, ends}
use Rattle.frames.specs.Kind.{Kind, lead_is, letter_r, CR, fields_begin, head_told, and_then, read, wrong_in, frame_of}
use Rattle.frames.specs.Spoiled.{end_of, WellFormed, Begun, Occurs, Spoiled, first, own, Named, NamesSpoiled}
use Rattle.frames.proofs.ShapeLaws.{Lawful, Inverse}
use Rattle.frames.proofs.ShownLaws.{shows, Shows, shown_inside}
use Rattle.frames.proofs.LayoutLaws.{Sound, field_sound, suits_sound, end_sound, kept, written_reads, length_write, reads_write}
use Rattle.frames.proofs.KindLaws.{Passed, passed, SoundKind, whole_frame, frame_fields, length_frame, frame_back, frame_again}
use Rattle.frames.proofs.HeadLaws.{then_gives, head_good}

-- ---- the first place that is off

data Scan (classes : Classes) (s : List ℕ) (p last : ℕ) : ℕ → Type 0 where
  off : (j : ℕ) → j < length classes → ((i : ℕ) → i < j → shows classes i (get_or s (p + i) 0) ≡ true) → shows classes j (get_or s (p + j) 0) ≡ false → Scan classes s p last (p + j)
  nothing : ((i : ℕ) → i < length classes → shows classes i (get_or s (p + i) 0) ≡ true) → Scan classes s p last last

scan : (classes : Classes) (s : List ℕ) (p last : ℕ) → Scan classes s p last (first_off classes s p last)
unfolding first_off
scan [] s p last = nothing (λ i h. absurd (omega arith))
scan (test ∷ classes) s p last = by_first (test (get_or s p 0)) refl (first_off classes s (suc p) last) (scan classes s (suc p) last)
  where
    later : test (get_or s p 0) ≡ true → (n : ℕ) → ((i : ℕ) → i < n → shows classes i (get_or s (suc p + i) 0) ≡ true) → (i : ℕ) → i < suc n → shows (test ∷ classes) i (get_or s (p + i) 0) ≡ true
    later q n f zero h = rw (add-zero p) q
    later q n f (suc i) h = let e : p + suc i ≡ suc p + i = omega arith in rw e (f i (omega arith))

    by_first : (t : Bool) → test (get_or s p 0) ≡ t → (r : ℕ) → Scan classes s (suc p) last r → Scan (test ∷ classes) s p last (cond t r p)
    by_first false q r x =
        let e : p + 0 ≡ p = add-zero p in
        subst (λ (n : ℕ). Scan (test ∷ classes) s p last n) e (off 0 (omega arith) (λ i h. absurd (omega arith)) (rw e q))
    by_first true q r (off j h f g) =
        let e : p + suc j ≡ suc p + j = omega arith in
        subst (λ (n : ℕ). Scan (test ∷ classes) s p last n) e (off (suc j) (omega arith) (later q j f) (rw e g))
    by_first true q r (nothing f) = nothing (later q (length classes) f)

-- ---- every good beginning can be completed

record Completed {R : Type 0} (W : R → Type 0) (L : Layout R) (P : R → Type 0) : Type 0 where
  of : R
  whole : W of
  known : P of
  fine : record_wrong L of ≡ 0

module _ {R : Type 0} {W : R → Type 0} where
  -- a value of a field, and the rest
  with_value : {A : Type 0} {at : ℕ} {f : Field A} {part : R → A} {next : A → Layout R} {P : R → Type 0} (v : A) → f.rule v ≡ true
      → Completed W (next v) (λ r. P r × (part r ≡ v)) → Completed W (field at f part next) P
  unfolding record_wrong
  with_value v good c = record { of = c.of; whole = c.whole; known = c.known.0; fine = rw (c.known.1, good) c.fine }

  completed : {L : Layout R} {P : R → Type 0} {F : Type 0} {n : ℕ} → Sound W L P F n → F → Completed W L P
  unfolding record_wrong
  completed (field_sound some fits inverse shown fit rest) facts =
      let g = shown.good in with_value g.value g.fine (completed (rest g.value g.fine) (facts, g.fit))
  completed (suits_sound some sound) facts =
      let c = completed sound facts in record { of = c.of; whole = c.whole; known = c.known.0; fine = rw c.known.1 c.fine }
  completed (end_sound {q} known fits one) facts = record { of = q; whole = fits facts; known = known; fine = refl }

-- ---- frames that agree up to a place

fewer : (g s : List ℕ) (p q : ℕ) → p ≤ q → take q g ≡ take q s → take p g ≡ take p s
fewer g s p q h e = sym (take-take p q g h) ∙ ap (take p) e ∙ take-take p q s h

same_byte : (g s : List ℕ) (p i : ℕ) → i < p → take p g ≡ take p s → get_or g i 0 ≡ get_or s i 0
same_byte g s p i h e = sym (get_or-take p g i 0 h) ∙ ap (λ (l : List ℕ). get_or l i 0) e ∙ get_or-take p s i 0 h

in_second : (x y z : List ℕ) (n j : ℕ) → length x ≡ n → j < length y → get_or (x ++ y ++ z) (n + j) 0 ≡ get_or y j 0
in_second x y z n j l h = rw (append_assoc, ← l) (get_or-append-add x (y ++ z) j 0 ∙ get_or-append y z 0 j h)

-- a value depends on its own bytes alone
cut : {A : Type 0} (shape : Shape A) → Lawful shape → (s : List ℕ) (p : ℕ) → p + shape.width ≤ length s → shape.got s p ≡ shape.got (take shape.width (drop p s)) 0
cut shape lawful s p h =
    let w = shape.width in
    let long : length (take p s) ≡ p = length-take-le p s (omega arith) in
    let e : take p s ++ take w (drop p s) ++ drop (p + w) s ≡ s = rw (← take-add p w s) (take-append-drop (p + w) s) in
    let wide : length (take w (drop p s)) ≡ w = length-take-le w (drop p s) (omega (arith, length-drop p s)) in
    let q = lawful.local (take p s) (take w (drop p s)) (drop (p + w) s) wide in
    rw (e, long) at q

middle : (s : List ℕ) (p w : ℕ) → p + w ≤ length s → drop p (take (p + w) s) ≡ take w (drop p s)
middle s p w h = ap (drop p) (take-add p w s) ∙ drop_at (take p s) (take w (drop p s)) p (length-take-le p s (omega arith))

same_got : {A : Type 0} (shape : Shape A) → Lawful shape → (g s : List ℕ) (p : ℕ) → length g ≡ length s → p + shape.width ≤ length s → take (p + shape.width) g ≡ take (p + shape.width) s → shape.got g p ≡ shape.got s p
same_got shape lawful g s p l h e =
    let t : take shape.width (drop p g) ≡ take shape.width (drop p s) = sym (middle g p shape.width (omega arith)) ∙ ap (drop p) e ∙ middle s p shape.width h in
    cut shape lawful g p (omega arith) ∙ ap (λ (x : List ℕ). shape.got x 0) t ∙ sym (cut shape lawful s p h)

-- ---- a frame with a wrong field

module _ {R : Type 0} {k : Kind R} {Whole : R → Type 0} (sure : SoundKind k Whole) (offsets s : List ℕ) (head : Passed k.lead k.size s) where
  -- frames that begin as s up to place p are read as the rest L reads them
  abbrev Link : ℕ → Layout R → Type 0
  Link p L = (g : List ℕ) → length g ≡ length s → take p g ≡ take p s → fields_of k.fields 2 g ≡ fields_of L p g

  -- a well formed frame, read
  record Reads (g : List ℕ) : Type 0 where
    of : R
    long : length g ≡ length s
    told : fields_of k.fields 2 g ≡ gives of

  reads : (g : List ℕ) → WellFormed k Whole offsets g → Reads g
  reads g w = record {
    of = w.of;
    long = sym (ap length w.bytes) ∙ length_frame sure w.of w.fine ∙ sym head.long;
    told = subst (λ (x : List ℕ). fields_of k.fields 2 x ≡ gives w.of) w.bytes (frame_fields sure w.of w.whole w.fine);
  }

  -- a record of the rest makes a well formed frame with the same beginning
  record Made (p : ℕ) (text : List ℕ) : Type 0 where
    frame : List ℕ
    formed : WellFormed k Whole offsets frame
    before : take p frame ≡ take p s
    there : (j : ℕ) → j < length text → get_or frame (p + j) 0 ≡ get_or text j 0

  module _ {L : Layout R} {P : R → Type 0} {F : Type 0} {n p : ℕ} (sound : Sound Whole L P F n) (least : 2 ≤ p) (all : p + n + 1 ≡ length s) (link : Link p L) where
    made : (c : Completed Whole L P) → Made p (write L c.of)
    unfolding wrong_in frame_of
    made c =
        let text = write L c.of in
        let wide : length text ≡ n = length_write sound c.of c.fine in
        let start : length (take p s) ≡ p = length-take-le p s (omega arith) in
        let both : length (take p s ++ text) ≡ p + n = length-append (take p s) text ∙ omega arith in
        let g = take p s ++ text ++ (CR ∷ []) in
        let l : length g ≡ length s = length-append (take p s ++ text) (CR ∷ []) ∙ omega arith in
        let before : take p g ≡ take p s = rw append_assoc (take_at (take p s) (text ++ (CR ∷ [])) p start) in
        let told = link g l before ∙ written_reads sound c.of c.whole c.known (take p s) (CR ∷ []) g p c.fine refl (sym start) in
        let size : length g ≡ sure.bytes + 3 = l ∙ head.long ∙ sure.size in
        let w = reads_write sure.sound tt 2 g c.of (omega arith) told in
        let last : get_or g (sure.bytes + 2) 0 ≡ CR = get_or_at (take p s ++ text) CR [] 0 (sure.bytes + 2) (omega arith) in
        record {
          frame = g;
          formed = record {
            of = c.of;
            whole = w.whole;
            fine = w.fine;
            bytes = rw w.text (whole_frame k.lead sure.bytes g (same_byte g s p 0 (omega arith) before ∙ head.first) size last (same_byte g s p 1 (omega arith) before ∙ head.letter_r_law));
          };
          before = before;
          there = λ j h. in_second (take p s) text (CR ∷ []) p j start h;
        }

  -- the field at p is wrong
  module _ {A : Type 0} {n p : ℕ} {f : Field A} {part : R → A} {next : A → Layout R} {P : R → Type 0} {F : Type 0} {Fit : A → Type 0}
      (some : 0 < p) (fits : f.shape.width ≤ n) (inverse : Inverse f.shape f.rule Fit) (shown : Shows f Fit) (fit : (r : R) → Whole r → Fit (part r))
      (rest : (v : A) → f.rule v ≡ true → Sound Whole (next v) (λ r. P r × (part r ≡ v)) (F × Fit v) (n - f.shape.width))
      (facts : F) (least : 2 ≤ p) (all : p + n + 1 ≡ length s) (link : Link p (field p f part next)) (begins : one_of offsets p ≡ true) (ending : end_of offsets p ≡ p + f.shape.width)
      (bad : (v : A) → f.shape.got s p ≡ is v → f.rule v ≡ true → ⊥) where
    sound : Sound Whole (field p f part next) P F n
    sound = field_sound some fits inverse shown fit rest

    -- what a well formed frame with the same fields before has there
    record There (g : List ℕ) : Type 0 where
      value : A
      got : f.shape.got g p ≡ is value
      good : f.rule value ≡ true

    there_in : (g : List ℕ) → WellFormed k Whole offsets g → take p g ≡ take p s → There g
    unfolding fields_of
    there_in g w e =
        let r = reads g w in
        let q = kept f.rule (FIELD p (spoiled_place f.classes g p)) (f.shape.got g p) (λ v. fields_of (next v) (p + f.shape.width) g) r.of (sym (link g r.long e) ∙ r.told) in
        record { value = q.of; got = q.there; good = q.good }

    begun : Begun k Whole offsets s p
    begun = let m = made sound least all link (completed sound facts) in record { frame = m.frame; formed = m.formed; before = m.before }

    wrong : Begun k Whole offsets s (end_of offsets p) → ⊥
    wrong b =
        let g = b.frame in
        let e : take (p + f.shape.width) g ≡ take (p + f.shape.width) s = subst (λ (i : ℕ). take i g ≡ take i s) ending b.before in
        let t = there_in g b.formed (fewer g s p (p + f.shape.width) (omega arith) e) in
        bad t.value (sym (same_got f.shape inverse.lawful g s p (reads g b.formed).long (omega arith) e) ∙ t.got) t.good

    -- what occurs is shown, and what is shown occurs
    occurs_shown : (j : ℕ) → j < length f.classes → Occurs k Whole offsets s p (p + j) → shows f.classes j (get_or s (p + j) 0) ≡ true
    occurs_shown j h o =
        let g = o.frame in
        let t = there_in g o.formed o.before in
        let l = (reads g o.formed).long in
        let text = inverse.lawful.again g p t.value (omega arith) t.got in
        let byte : get_or (f.shape.put t.value) j 0 ≡ get_or s (p + j) 0 =
        ap (λ (x : List ℕ). get_or x j 0) (sym text) ∙ get_or-take f.shape.width (drop p g) j 0 (omega (arith, shown.wide)) ∙ get_or-drop p g j 0 ∙ o.there in
        subst (λ (x : ℕ). shows f.classes j x ≡ true) byte (shown.only t.value t.good j h)

    shown_occurs : (j : ℕ) → shows f.classes j (get_or s (p + j) 0) ≡ true → Occurs k Whole offsets s p (p + j)
    unfolding write with_value
    shown_occurs j e =
        let v = shown.some j (get_or s (p + j) 0) e in
        let h = shown_inside f.classes j (get_or s (p + j) 0) e in
        let d = completed (rest v.value v.fine) (facts, v.fit) in
        let m = made sound least all link (with_value v.value v.fine d) in
        let long = inverse.lawful.long (part d.of) in
        let more = write (next (part d.of)) d.of in
        let text = f.shape.put (part d.of) ++ more in
        let in_field : j < length (f.shape.put (part d.of)) = omega (arith, shown.wide) in
        let byte : get_or text j 0 ≡ get_or s (p + j) 0 =
        get_or-append (f.shape.put (part d.of)) more 0 j in_field ∙ ap (λ (x : A). get_or (f.shape.put x) j 0) d.known.1 ∙ v.there in
        let both : length text ≡ length (f.shape.put (part d.of)) + length more = length-append (f.shape.put (part d.of)) more in
        let in-text : j < length text = rw both (omega arith) in
        record { frame = m.frame; formed = m.formed; before = m.before; there = m.there j in-text ∙ byte }

    -- a place of the field, counted from its first byte
    occurs_at : (i : ℕ) → p ≤ i → shows f.classes (i - p) (get_or s (p + (i - p)) 0) ≡ true → Occurs k Whole offsets s p i
    occurs_at i h e = let q : p + (i - p) ≡ i = omega arith in subst (λ (x : ℕ). Occurs k Whole offsets s p x) q (shown_occurs (i - p) e)

    by_scan : (q : ℕ) → Scan f.classes s p p q → Spoiled k Whole offsets s p q
    by_scan q (off j h before e) =
        let l = shown.wide in
        first (omega arith) (rw ending (omega arith)) (λ i a b. occurs_at i a (before (i - p) (omega arith))) (λ o. true≢false (sym (occurs_shown j h o) ∙ e))
    by_scan q (nothing each) =
        let l = shown.wide in own refl (λ i a b. occurs_at i a (each (i - p) (let b' : i < p + f.shape.width = rw ending at b in omega arith)))

    named_here : Named k Whole offsets s p (spoiled_place f.classes s p)
    named_here = record { begins = begins; begun = begun; wrong = wrong; spoiled = by_scan (spoiled_place f.classes s p) (scan f.classes s p p) }

  -- ---- the walk to the first wrong field

  named_at : {o p q r : ℕ} → Named k Whole offsets s p q → FIELD p q ≡ FIELD o r → Named k Whole offsets s o r
  named_at {o} {p} {q} {r} w e =
      subst (λ (x : ℕ). Named k Whole offsets s x r) (ap (λ (f : Refusal). f.offset) e) (subst (λ (x : ℕ). Named k Whole offsets s p x) (ap (λ (f : Refusal). f.spoiled) e) w)

  walk : {L : Layout R} {P : R → Type 0} {F : Type 0} {n p size : ℕ} {more : List ℕ} → Sound Whole L P F n → Placed L (p ∷ more) size → F → 2 ≤ p → p + n + 1 ≡ length s → Link p L
      → ((o : ℕ) → one_of (p ∷ more) o ≡ true → one_of offsets o ≡ true) → ((o : ℕ) → p ≤ o → end_of offsets o ≡ end_of (p ∷ more) o)
      → (o q : ℕ) → fields_of L p s ≡ refuses (FIELD o q) → Named k Whole offsets s o q
  unfolding fields_of one_of
  walk (field_sound {A} {at} {n} {f} {part} {next} {P} {F} {Fit} some fits inverse shown fit rest) (stands {p = p} {q = e} {size = size} {offsets = more} lt place after) facts least all link begins ending o q told =
      by_value (f.shape.got s p) refl
      (λ v there good t.
      walk (rest v good) (subst (λ (i : ℕ). Placed (next v) (i ∷ more) size) place (after v good)) (facts, inverse.fit s p v there) (omega arith) (omega arith)
      (λ g long a. link g long (fewer g s p (p + f.shape.width) (omega arith) a) ∙ rw (same_got f.shape inverse.lawful g s p long (omega arith) a, there, good))
      (λ i h. begins i (rw (subst (λ (j : ℕ). one_of (j ∷ more) i ≡ true) (sym place) h) (or-true (eqb i p)))) (λ i h. ending i (omega arith) ∙ rw (le-ltb i p (omega arith), place)) o q t) told
    where
      here : ((v : A) → f.shape.got s p ≡ is v → f.rule v ≡ true → ⊥) → ◌≡◌ {A = Told R} (refuses (FIELD p (spoiled_place f.classes s p))) (refuses (FIELD o q)) → Named k Whole offsets s o q
      here bad t =
          named_at (named_here some fits inverse shown fit rest facts least all link (begins p (rw (eq-eqb p p refl)))
          (ending p (omega arith) ∙ rw (le-ltb p p (omega arith), lt-ltb p e lt) place) bad) (same_refusal _ _ t)

      by_rule : (v : A) → f.shape.got s p ≡ is v → (f.rule v ≡ true → fields_of (next v) (p + f.shape.width) s ≡ refuses (FIELD o q) → Named k Whole offsets s o q)
          → (t : Bool) → f.rule v ≡ t → tried t (FIELD p (spoiled_place f.classes s p)) (fields_of (next v) (p + f.shape.width) s) ≡ refuses (FIELD o q) → Named k Whole offsets s o q
      by_rule v there on true good t = on good t
      by_rule v there on false good t = here (λ u is-u fine. absurd (let z : is v ≡ is u = sym there ∙ is-u in let w : v ≡ u = cc in true≢false (sym (rw w fine) ∙ good))) t

      by_value : (x : Value A) → f.shape.got s p ≡ x
          → ((v : A) → f.shape.got s p ≡ is v → f.rule v ≡ true → fields_of (next v) (p + f.shape.width) s ≡ refuses (FIELD o q) → Named k Whole offsets s o q)
          → taken f.rule (FIELD p (spoiled_place f.classes s p)) x (λ v. fields_of (next v) (p + f.shape.width) s) ≡ refuses (FIELD o q) → Named k Whole offsets s o q
      by_value (is v) there on t = by_rule v there (on v there) (f.rule v) refl t
      by_value none there on t = here (λ u is-u fine. absurd (let z : none ≡ is u = sym there ∙ is-u in let w : ◌≡◌ {A = ℕ} 0 1 = cc in omega arith)) t
  walk (suits_sound some sound) (besides placed) facts least all link begins ending o q told = walk sound placed facts least all link begins ending o q told
  walk (end_sound known fits one) (ends {r = r}) facts least all link begins ending o q told = absurd (not_refused r (FIELD o q) told)

-- ---- a frame that is refused with FIELD has passed the tests of the head

abbrev Below : Told (Unit {0}) → Type 0
Below t = (f : Refusal) → t ≡ refuses f → f.number < 5

below_tried : (t : Bool) (f : Refusal) (rest : Told (Unit {0})) → f.number < 5 → Below rest → Below (tried t f rest)
below_tried true f rest h b = b
below_tried false f rest h b = λ g e. rw (← same_refusal f g e) h

head_below : (lead size : ℕ) (s : List ℕ) → Below (head_told lead size s)
unfolding head_told
head_below lead size s =
    below_tried (lead_is lead s) KIND _ (omega arith)
    (below_tried (eqb (length s) size) LENGTH _ (omega arith)
    (below_tried (eqb (get_or s (size - 1) 0) CR) END _ (omega arith)
    (below_tried (eqb (get_or s 1 0) letter_r && is_address (get_or s 2 0)) ADDRESS _ (omega arith)
    (λ f e. absurd (not_refused tt f e)))))

after_head : {A : Type 0} (h : Told (Unit {0})) (rest : Told A) (o q : ℕ) → Below h → and_then h rest ≡ refuses (FIELD o q) → (h ≡ gives tt) × (rest ≡ refuses (FIELD o q))
after_head (gives x) rest o q below e = (refl, e)
after_head (refuses f) rest o q below e = absurd (let h = below f refl in let n : f.number ≡ 5 = ap (λ (g : Refusal). g.number) (same_refusal _ _ e) in omega arith)

-- ---- no other two numbers say this of a frame

-- no second byte spoils a field
one_spoiled : {R : Type 0} (k : Kind R) (Whole : R → Type 0) (offsets s : List ℕ) (o p q : ℕ) → Spoiled k Whole offsets s o p → Spoiled k Whole offsets s o q → p ≡ q
one_spoiled k Whole offsets s o p q (first a b f x) (first c d g y) =
    by_less p q (λ h. absurd (x (g p a h))) (λ h. by_less q p (λ i. absurd (y (f q c i))) (λ i. omega arith))
one_spoiled k Whole offsets s o p q (first a b f x) (own e g) = absurd (x (g p a b))
one_spoiled k Whole offsets s o p q (own e f) (first c d g y) = absurd (y (f q c d))
one_spoiled k Whole offsets s o p q (own e f) (own h g) = e ∙ sym h

-- offsets in rising order, the first of them p
data Rising : ℕ → List ℕ → Type 0 where
  last : {p : ℕ} → Rising p (p ∷ [])
  then : {p q : ℕ} {offsets : List ℕ} → p < q → Rising q (q ∷ offsets) → Rising p (p ∷ q ∷ offsets)

rising : {R : Type 0} {W : R → Type 0} {L : Layout R} {P : R → Type 0} {F : Type 0} {n p size : ℕ} {offsets : List ℕ} → Sound W L P F n → Placed L (p ∷ offsets) size → Rising p (p ∷ offsets)
rising (field_sound some fits inverse shown fit rest) (stands lt place after) = let g = shown.good in then lt (rising (rest g.value g.fine) (after g.value g.fine))
rising (suits_sound some sound) (besides placed) = rising sound placed
rising (end_sound known fits one) ends = last

data In (q : ℕ) : List ℕ → Type 0 where
  here : {offsets : List ℕ} → In q (q ∷ offsets)
  there : {p : ℕ} {offsets : List ℕ} → In q offsets → In q (p ∷ offsets)

member : (offsets : List ℕ) (q : ℕ) → one_of offsets q ≡ true → In q offsets
unfolding one_of
member [] q e = absurd (false≢true e)
member (p ∷ offsets) q e = by-test (eqb q p) (λ t. subst (λ (x : ℕ). In q (x ∷ offsets)) (eqb-true q p t) here) (λ t. there (member offsets q (rw t at e)))

first_least : {p q : ℕ} {offsets : List ℕ} → Rising p offsets → In q offsets → p ≤ q
first_least last here = omega arith
first_least {q = q} (last {p = p}) (there i) = elim i [ ]
first_least (then lt more) here = omega arith
first_least (then lt more) (there i) = let h = first_least more i in omega arith

-- a field that begins after another one begins at its end or later
not_before : {p q : ℕ} {offsets : List ℕ} → Rising p offsets → In q offsets → (o : ℕ) → o < q → end_of offsets o ≤ q
not_before {q = q} last here o h = rw (lt-ltb o q h) (omega arith)
not_before {q = q} (last {p = p}) (there i) o h = elim i [ ]
not_before {q = q} (then lt more) here o h = rw (lt-ltb o q h) (omega arith)
not_before (then {p} lt more) (there i) o h =
    let l = first_least more i in by_less o p (λ k. rw (lt-ltb o p k) (omega arith)) (λ k. rw (le-ltb o p k) (not_before more i o h))

module _ {R : Type 0} (k : Kind R) (Whole : R → Type 0) (offsets s : List ℕ) (p₀ : ℕ) (up : Rising p₀ offsets) where
  no_later : (o p o' p' : ℕ) → Named k Whole offsets s o p → Named k Whole offsets s o' p' → o < o' → ⊥
  no_later o p o' p' a b h =
      let g = b.begun in
      a.wrong (record { frame = g.frame; formed = g.formed; before = fewer g.frame s (end_of offsets o) o' (not_before up (member offsets o' b.begins) o h) g.before })

  one_named : (o p o' p' : ℕ) → Named k Whole offsets s o p → Named k Whole offsets s o' p' → (o ≡ o') × (p ≡ p')
  one_named o p o' p' a b =
      let e : o ≡ o' = by_less o o' (λ h. absurd (no_later o p o' p' a b h)) (λ h. by_less o' o (λ i. absurd (no_later o' p' o p b a i)) (λ i. omega arith)) in
      (e, one_spoiled k Whole offsets s o p p' a.spoiled (subst (λ (x : ℕ). Spoiled k Whole offsets s x p') (sym e) b.spoiled))

-- ---- the fields of a frame are accepted, or one of them is wrong

data Judged {R : Type 0} (t : Told R) : Type 0 where
  accepted : (r : R) → t ≡ gives r → Judged t
  turned : (o q : ℕ) → t ≡ refuses (FIELD o q) → Judged t

judged : {R : Type 0} (L : Layout R) (p : ℕ) (s : List ℕ) → Judged (fields_of L p s)
unfolding fields_of
judged {R} (field {A} at f part next) p s = by_value (λ v. judged (next v) (p + f.shape.width) s) (f.shape.got s p)
  where
    by_rule : (v : A) → Judged (fields_of (next v) (p + f.shape.width) s) → (t : Bool) → Judged (tried t (FIELD at (spoiled_place f.classes s at)) (fields_of (next v) (p + f.shape.width) s))
    by_rule v j true = j
    by_rule v j false = turned at _ refl

    by_value : ((v : A) → Judged (fields_of (next v) (p + f.shape.width) s)) → (x : Value A) → Judged (taken f.rule (FIELD at (spoiled_place f.classes s at)) x (λ v. fields_of (next v) (p + f.shape.width) s))
    by_value more (is v) = by_rule v (more v) (f.rule v)
    by_value more none = turned at _ refl
judged (suits at test rest) p s = judged rest p s
judged (end r) p s = accepted r refl

given_field : {R : Type 0} {k : Kind R} {Whole : R → Type 0} (sure : SoundKind k Whole) (offsets s : List ℕ) → Begun k Whole offsets s 3 → length s ≡ k.size → get_or s (k.size - 1) 0 ≡ CR
    → (WellFormed k Whole offsets s → ⊥) → (o : ℕ) × ((p : ℕ) × (read k s ≡ refuses (FIELD o p)))
unfolding read
given_field {R} {k} {Whole} sure offsets s b long ended ill =
    let g = b.frame in
    let w = b.formed in
    let told : read k g ≡ gives w.of = subst (λ (x : List ℕ). read k x ≡ gives w.of) w.bytes (frame_back sure w.of w.whole w.fine) in
    let p = passed k.lead k.size g (then_gives (head_told k.lead k.size g) _ w.of told).0 in
    let same : (i : ℕ) → i < 3 → get_or s i 0 ≡ get_or g i 0 = λ i h. sym (same_byte g s 3 i h b.before) in
    let head = head_good k.lead k.size s sure.some (same 0 (omega arith) ∙ p.first) long ended (same 1 (omega arith) ∙ p.letter_r_law) (ap is_address (same 2 (omega arith)) ∙ p.address) in
    go head (judged k.fields 2 s)
  where
    go : gives tt ≡ head_told k.lead k.size s → Judged (fields_of k.fields 2 s) → (o : ℕ) × ((p : ℕ) × (read k s ≡ refuses (FIELD o p)))
    go head (accepted r e) =
        let own = frame_again sure s r (rw (← head) e) in absurd (ill (record { of = r; whole = own.has; fine = own.fine; bytes = own.bytes }))
    go head (turned o q e) = (o, (q, rw (← head) e))

pub names_spoiled : {R : Type 0} {k : Kind R} {Whole : R → Type 0} {offsets : List ℕ} → SoundKind k Whole → Placed k.fields (fields_begin ∷ offsets) k.size → NamesSpoiled k Whole (fields_begin ∷ offsets)
unfolding read
names_spoiled {R} {k} {Whole} {offsets} sure placed = record {
  given = given_field sure (fields_begin ∷ offsets);
  named = λ s o p e.
      let a = after_head (head_told k.lead k.size s) (fields_of k.fields 2 s) o p (head_below k.lead k.size s) e in
      let head = passed k.lead k.size s a.0 in
      walk sure (fields_begin ∷ offsets) s head sure.sound placed tt (omega arith) (let l = head.long in omega (arith, sure.size)) (λ g l x. refl) (λ i h. h) (λ i h. refl) o p a.1;
  once = λ s. one_named k Whole (fields_begin ∷ offsets) s fields_begin (rising sure.sound placed);
}
