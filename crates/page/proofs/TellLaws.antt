-- Desks with the same page agree below the count, and desks that agree there have the same page. What is read back is a desk. Every text is judged. Assumes nothing.
use Rattle.std.proofs.Common.{◌≡◌, ℕ, zero, suc, ◌+◌, ◌*◌, ◌/◌, ◌%◌, ◌<◌, ◌≤◌, true, ◌&&◌, eqb, leb, List, [], ◌∷◌, ◌++◌, map, length, get_or, take, drop, sym, refl, ap, ◌∙◌, subst, ap₂, append_assoc, arith, length-append, length-drop, length-take-le, get_or-take, take-suc, take_at, take-add, drop_at, leb-true}
use lib.ListN.{get_or-append}
use lib.Seq.{slice, take-append-le, drop-append-le}
use Rattle.digits.proofs.Tests.{and_true, and_l, and_r}
use Rattle.lines.specs.Lines.{every, is_line, lines_of}
use Rattle.lines.specs.Machine.{next, Verdict, gives, wrong, verdict}
use Rattle.lines.specs.Tokens.{Code, IsCode, write_all}
use Rattle.lines.proofs.Tests.{every_cons}
use Rattle.lines.proofs.LineLaws.{lines_joined}
use Rattle.desk.specs.declared.state.Seat.{Seat}
use Rattle.desk.specs.Limits.{seat_count, most_cells, cell_size}
use Rattle.desk.specs.Key.{seat_key}
use Rattle.desk.specs.Step.{none, replay}
use Rattle.desk.specs.Seats.{seat_at, used_bit}
use Rattle.desk.specs.Memory.{Memory, capacity, capacity_of, cell_at, mark_at, records_of}
use Rattle.desk.proofs.Below.{below-case}
use Rattle.desk.proofs.TallyLaws.{Right, right_same}
use Rattle.desk.proofs.ReplayLaws.{Facts, facts_desk}
use Rattle.desk.proofs.DeskLaws.{records_same}
use Rattle.page.specs.Version.{Version, Sound, showable}
use Rattle.page.specs.Sum.{sum_of, sum_modulus}
use Rattle.page.specs.Page.{middle, front, page}
use Rattle.page.specs.Reading.{has_room, restored}
use Rattle.page.specs.Demands.{SameBelow, PagesTellDesks, RestoredIsDesk, Judged, is_page, is_none, EveryTextIsJudged}
use Rattle.page.specs.inside.Tokens.{Token, first, cell, last, code, seat_tokens, cell_tokens, front_tokens, ended_at, tokens}
use Rattle.page.specs.inside.Machine.{Shown, shows, framed, machine}
use Rattle.page.proofs.PartLaws.{part_is, part_part}
use Rattle.page.proofs.CodeLaws.{is_code}
use Rattle.page.proofs.MiddleLaws.{framed_cell}
use Rattle.page.proofs.TokenLaws.{front_tokens_law, page_tokens, seats_same, cells_same}
use Rattle.page.proofs.RunLaws.{ran}
use Rattle.page.proofs.MachineLaws.{Showable, showable_is, machine_reads}
use Rattle.page.proofs.StoreLaws.{right_once}

-- ---- lists

-- a cell in front of a place of the store
cell_in : (cells : List ℕ) (n j : ℕ) → j < n → cell_at (take (n * cell_size) cells) j ≡ cell_at cells j
cell_in cells n j l =
    part_is (j * cell_size) cell_size (take (n * cell_size) cells)
    ∙ part_part 0 (n * cell_size) (j * cell_size) (j * cell_size + cell_size) cells (omega arith)
    ∙ ap₂ (λ (a b : ℕ). slice a b cells) (let q : 0 + j * cell_size ≡ j * cell_size = omega arith in q) (let q : 0 + (j * cell_size + cell_size) ≡ j * cell_size + cell_size = omega arith in q)
    ∙ sym (part_is (j * cell_size) cell_size cells)

module _ {A : Type 0} where
  -- two lists with one more element each
  tails_same : (xs ys : List A) (x y : A) → length xs ≡ length ys → xs ++ (x ∷ []) ≡ ys ++ (y ∷ []) → (xs ≡ ys) × (x ≡ y)
  tails_same [] [] x y l e = (refl, cc)
  tails_same [] (b ∷ ys) x y l e = absurd (omega arith)
  tails_same (a ∷ xs) [] x y l e = absurd (omega arith)
  tails_same (a ∷ xs) (b ∷ ys) x y l e =
      let h : a ≡ b = cc in
      let t : xs ++ (x ∷ []) ≡ ys ++ (y ∷ []) = cc in
      let r = tails_same xs ys x y (let k : suc (length xs) ≡ suc (length ys) = l in omega arith) t in
      (ap₂ (λ (c : A) (zs : List A). c ∷ zs) h r.0, r.1)

-- ---- a text has its tokens from one list only

module _ {K : Type 0} (c : Code K) (is : IsCode c) where
  same_lines : (ks js : List K) → every c.fits ks ≡ true → every c.fits js ≡ true → map c.write ks ≡ map c.write js → ks ≡ js
  same_lines [] [] f g e = refl
  same_lines [] (j ∷ js) f g e = absurd (let n = ap length e in omega arith)
  same_lines (k ∷ ks) [] f g e = absurd (let n = ap length e in omega arith)
  same_lines (k ∷ ks) (j ∷ js) f g e =
      let h : c.write k ≡ c.write j = cc in
      let t : map c.write ks ≡ map c.write js = cc in
      let a = every_cons c.fits k ks f in
      let b = every_cons c.fits j js g in
      let q : next k ≡ next j = sym (is.written k a.0) ∙ ap c.scan h ∙ is.written j b.0 in
      let p : k ≡ j = cc in
      ap₂ (λ (x : K) (xs : List K). x ∷ xs) p (same_lines ks js a.1 b.1 t)

  lines_of_law : (ks : List K) → every c.fits ks ≡ true → every is_line (map c.write ks) ≡ true
  lines_of_law [] f = refl
  lines_of_law (k ∷ ks) f = let a = every_cons c.fits k ks f in and_true (is.is_line_holds k a.0) (lines_of_law ks a.1)

  same_tokens : (ks js : List K) → every c.fits ks ≡ true → every c.fits js ≡ true → write_all c ks ≡ write_all c js → ks ≡ js
  same_tokens ks js f g e =
      same_lines ks js f g (sym (lines_joined (map c.write ks) (lines_of_law ks f)) ∙ ap lines_of e ∙ lines_joined (map c.write js) (lines_of_law js g))

module _ (v : Version) (sound : Sound v) where
  -- ---- desks that agree have the same page

  module _ (d e : Memory) (s : SameBelow d e) where
    mark_there : (j : ℕ) → j < d.count → mark_at e.marks j ≡ mark_at d.marks j
    mark_there j l =
        sym (get_or-take e.count e.marks j 0 (rw s.count at l)) ∙ ap (λ (m : List ℕ). get_or m j 0) (sym s.marks) ∙ get_or-take d.count d.marks j 0 l

    cell_there : (j : ℕ) → j < d.count → cell_at e.cells j ≡ cell_at d.cells j
    cell_there j l =
        sym (cell_in e.cells e.count j (rw s.count at l)) ∙ ap (λ (c : List ℕ). cell_at c j) (sym s.cells) ∙ cell_in d.cells d.count j l

    same_front : front_tokens v e (ended_at v e) ≡ front_tokens v d (ended_at v d)
    unfolding front_tokens
    same_front =
        let seats = seats_same v d e (ended_at v d) (ended_at v e) v.seats (λ i l. ap (λ (b : ℕ). used_bit b i) (sym s.bits)) (λ i l u. (ap (λ (r : List Seat). seat_key (seat_at r i)) (sym s.row), ap (λ (r : List Seat). (seat_at r i).ended) (sym s.row))) in
        let cells = ap (cell_tokens v e) (sym s.count) ∙ cells_same v d e d.count mark_there cell_there in
        ap₂ (λ (a b : List Token). first ∷ (a ++ b)) seats cells

    same_page : page v d ≡ page v e
    unfolding tokens
    same_page =
        let f = same_front in
        let text : front v d ≡ front v e = sym (front_tokens_law v d) ∙ ap (write_all (code v)) (sym f) ∙ front_tokens_law v e in
        sym (page_tokens v d)
        ∙ (λ i. write_all (code v) (sym f i ++ (last (s.count i) (sum_of (text i) % sum_modulus) ∷ [])))
        ∙ page_tokens v e

  -- ---- desks with the same page agree

  module _ (d e : Memory) (gd : showable v d ≡ true) (ge : showable v e ≡ true) (p : page v d ≡ page v e) where
    dd : Showable v sound d
    dd = showable_is v sound d gd

    ee : Showable v sound e
    ee = showable_is v sound e ge

    shown : shows d ≡ shows e
    shown = (machine_reads v sound).one_each d e gd ge p

    same_row : d.row ≡ e.row
    same_row = ap (λ (x : Shown). x.row) shown

    same_bits : d.bits ≡ e.bits
    same_bits = ap (λ (x : Shown). x.bits) shown

    same_count : d.count ≡ e.count
    same_count = ap (λ (x : Shown). x.count) shown

    all_tokens : tokens v d ≡ tokens v e
    all_tokens =
        same_tokens (code v) (is_code v sound) (tokens v d) (tokens v e)
        (ran v sound d dd.facts dd.bits dd.count).fit (ran v sound e ee.facts ee.bits ee.count).fit
        (page_tokens v d ∙ p ∙ sym (page_tokens v e))

    cells_long : (m : Memory) (n : ℕ) → length (cell_tokens v m n) ≡ n
    unfolding cell_tokens
    cells_long m zero = refl
    cells_long m (suc n) = length-append (cell_tokens v m n) (cell (mark_at m.marks n) (middle (cell_at m.cells n)) ∷ []) ∙ (let k = cells_long m n in omega arith)

    same_seats : seat_tokens v d (ended_at v d) v.seats ≡ seat_tokens v e (ended_at v e) v.seats
    same_seats = seats_same v e d (ended_at v e) (ended_at v d) v.seats (λ i l. ap (λ (b : ℕ). used_bit b i) same_bits) (λ i l u. (ap (λ (r : List Seat). seat_key (seat_at r i)) same_row, ap (λ (r : List Seat). (seat_at r i).ended) same_row))

    -- the tokens of the cells, cut out of all
    cut : (m : Memory) (st : List Token) → seat_tokens v m (ended_at v m) v.seats ≡ st → take m.count (drop (suc (length st)) (tokens v m)) ≡ cell_tokens v m m.count
    unfolding tokens front_tokens
    cut m st q =
        let ct = cell_tokens v m m.count in
        let end = last m.count (sum_of (front v m) % sum_modulus) ∷ [] in
        let a : drop (suc (length st)) (tokens v m) ≡ ct ++ end =
        rw q (ap (drop (length st)) (let z : (st ++ ct) ++ end ≡ st ++ (ct ++ end) = simp append_assoc in z) ∙ drop_at st (ct ++ end) (length st) refl) in
        ap (take m.count) a ∙ take_at ct end m.count (cells_long m m.count)

    same_cells : cell_tokens v d d.count ≡ cell_tokens v e d.count
    same_cells =
        let st = seat_tokens v d (ended_at v d) v.seats in
        sym (cut d st refl) ∙ (λ i. take (same_count i) (drop (suc (length st)) (all_tokens i))) ∙ cut e st (sym same_seats) ∙ ap (cell_tokens v e) (sym same_count)

    each_cell : (n : ℕ) → cell_tokens v d n ≡ cell_tokens v e n → (j : ℕ) → j < n → (mark_at d.marks j ≡ mark_at e.marks j) × (middle (cell_at d.cells j) ≡ middle (cell_at e.cells j))
    unfolding cell_tokens
    each_cell zero q j l = absurd (omega arith)
    each_cell (suc n) q j l =
        let a = cell (mark_at d.marks n) (middle (cell_at d.cells n)) in
        let b = cell (mark_at e.marks n) (middle (cell_at e.cells n)) in
        let r = tails_same (cell_tokens v d n) (cell_tokens v e n) a b (cells_long d n ∙ sym (cells_long e n)) q in
        below-case j n l
        (λ h. each_cell n r.0 j h)
        (λ h. let c = r.1 in
        let m : mark_at d.marks n ≡ mark_at e.marks n = cc in
        let f : middle (cell_at d.cells n) ≡ middle (cell_at e.cells n) = cc in
        rw h (m, f))

    mark_same : (j : ℕ) → j < d.count → mark_at d.marks j ≡ mark_at e.marks j
    mark_same j l = (each_cell d.count same_cells j l).0

    cell_same : (j : ℕ) → j < d.count → cell_at d.cells j ≡ cell_at e.cells j
    cell_same j l =
        sym (framed_cell d dd.facts j l) ∙ ap framed (each_cell d.count same_cells j l).1 ∙ framed_cell e ee.facts j (rw same_count at l)

    cells_front : (n : ℕ) → n ≤ d.count → take (n * cell_size) d.cells ≡ take (n * cell_size) e.cells
    cells_front zero l = refl
    cells_front (suc n) l =
        let size : suc n * cell_size ≡ n * cell_size + cell_size = omega arith in
        let more = cells_front n (omega arith) in
        rw (size, take-add (n * cell_size) cell_size d.cells, take-add (n * cell_size) cell_size e.cells) (ap₂ (λ (a b : List ℕ). a ++ b) more (cell_same n (omega arith)))

    long_marks : (m : Memory) → Facts m → m.count ≤ length m.marks
    unfolding capacity_of
    long_marks m f = let h = f.fits in omega arith

    marks_front : (n : ℕ) → n ≤ d.count → take n d.marks ≡ take n e.marks
    marks_front zero l = refl
    marks_front (suc n) l =
        let a = long_marks d dd.facts in
        let b = long_marks e ee.facts in
        let c = same_count in
        rw (take-suc d.marks n 0 (omega arith), take-suc e.marks n 0 (omega arith)) (ap₂ (λ (x : List ℕ) (y : ℕ). x ++ (y ∷ [])) (marks_front n (omega arith)) (mark_same n (omega arith)))

    same_below : SameBelow d e
    same_below = record {
      row = same_row;
      bits = same_bits;
      count = same_count;
      cells = cells_front d.count (omega arith) ∙ ap (λ (n : ℕ). take (n * cell_size) e.cells) same_count;
      marks = marks_front d.count (omega arith) ∙ ap (λ (n : ℕ). take n e.marks) same_count;
      tally =
          right_once e.cells e.count d.tally e.tally
          (subst (λ (n : ℕ). Right e.cells n d.tally) same_count (right_same d.cells e.cells d.count d.tally dd.facts.tally (λ j l. sym (cell_same j l))))
          ee.facts.tally;
    }

pub pages_tell : PagesTellDesks
pages_tell v sound = record { one_page = λ d e gd ge s. same_page v sound d e s; one_desk = same_below v sound }

-- ---- what is read back is a desk

module _ (m d : Memory) (f : Facts d) (room : d.count * cell_size ≤ length m.cells) (lines : d.count ≤ length m.marks) where
  abbrev n : ℕ
  n = d.count

  store_long : n * cell_size ≤ length d.cells
  unfolding capacity_of
  store_long = let h = f.fits in omega arith

  marks_long : n ≤ length d.marks
  unfolding capacity_of
  marks_long = let h = f.fits in omega arith

  most : n ≤ most_cells
  unfolding capacity_of
  most = let h = f.fits in omega arith

  mark_back : (j : ℕ) → j < n → mark_at (restored m d).marks j ≡ mark_at d.marks j
  mark_back j l =
      let k = length-take-le n d.marks marks_long in
      get_or-append (take n d.marks) (drop n m.marks) 0 j (omega arith) ∙ get_or-take n d.marks j 0 l

  cell_back : (j : ℕ) → j < n → cell_at (restored m d).cells j ≡ cell_at d.cells j
  cell_back j l =
      let a = take (n * cell_size) d.cells in
      let b = drop (n * cell_size) m.cells in
      let k = length-take-le (n * cell_size) d.cells store_long in
      let g = length-drop (j * cell_size) a in
      ap (take cell_size) (drop-append-le (j * cell_size) a b (omega arith)) ∙ take-append-le cell_size (drop (j * cell_size) a) b (omega arith) ∙ cell_in d.cells n j l

  records_back : (s k : ℕ) → k ≤ n → records_of (restored m d).cells (restored m d).marks s k ≡ records_of d.cells d.marks s k
  records_back s k l = records_same d.cells d.marks (restored m d).cells (restored m d).marks s k (λ j h. mark_back j (omega arith)) (λ j h. cell_back j (omega arith))

  size_back : n ≤ capacity (restored m d)
  unfolding capacity_of
  size_back =
      let a = length-append (take (n * cell_size) d.cells) (drop (n * cell_size) m.cells) in
      let b = length-take-le (n * cell_size) d.cells store_long in
      let c = length-drop (n * cell_size) m.cells in
      let e = length-append (take n d.marks) (drop n m.marks) in
      let g = length-take-le n d.marks marks_long in
      let h = length-drop n m.marks in
      let k = most in
      omega arith

  restored_facts : Facts (restored m d)
  restored_facts = record {
    size = f.size;
    bits = f.bits;
    keys = f.keys;
    one = f.one;
    zeros = f.zeros;
    fits = size_back;
    rows = λ i l. rw (mark_back i l, cell_back i l, records_back (mark_at d.marks i) i (omega arith)) (f.rows i l);
    agree = λ s l u. f.agree s l u ∙ ap (replay none) (sym (records_back s n (omega arith)));
    tally = right_same d.cells (restored m d).cells n d.tally f.tally cell_back;
  }

  restored_same : SameBelow (restored m d) d
  restored_same = record {
    row = refl;
    bits = refl;
    count = refl;
    cells = take_at (take (n * cell_size) d.cells) (drop (n * cell_size) m.cells) (n * cell_size) (length-take-le (n * cell_size) d.cells store_long);
    marks = take_at (take n d.marks) (drop n m.marks) n (length-take-le n d.marks marks_long);
    tally = refl;
  }

pub restored_is_desk : RestoredIsDesk
unfolding has_room
restored_is_desk v sound m d g h =
    let a = leb d.count (length m.cells / cell_size) in
    let b = leb d.count (length m.marks) in
    let ab = and_l (a && b) (eqb (length m.row) seat_count) h in
    let c = leb-true d.count (length m.cells / cell_size) (and_l a b ab) in
    let k = leb-true d.count (length m.marks) (and_r a b ab) in
    let f = (showable_is v sound d g).facts in
    (facts_desk (restored m d) (restored_facts m d f (omega arith) k), same_page v sound (restored m d) d (restored_same m d f (omega arith) k))

-- ---- every text is judged

pub every_text_is_judged : EveryTextIsJudged
every_text_is_judged v sound text = go (verdict (machine v) text) refl
  where
    go : (x : Verdict Shown) → verdict (machine v) text ≡ x → Judged v text
    go (gives s) e = let p = ((machine_reads v sound).page_read text s).0 e in is_page p.0 (record { desk = p.1; its_page = p.2 })
    go (wrong n) e = let p = ((machine_reads v sound).line_named text n).0 e in is_none n p.0 p.1
