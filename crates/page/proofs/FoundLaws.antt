-- The line of a cell in the page of a desk: where it begins, and its seat and frame. Assumes nothing.
use Rattle.std.proofs.Common.{◌≡◌, ℕ, zero, suc, ◌+◌, ◌*◌, ◌%◌, ◌<◌, ◌≤◌, List, [], ◌∷◌, ◌++◌, length, get_or, take, drop, sym, refl, ap, ◌∙◌, append_assoc, append-nil, arith, length-append, take_at}
use lib.Seq.{slice, get_or_at, drop-append-add}
use Rattle.text.specs.Lines.{LF}
use Rattle.desk.specs.Memory.{Memory, cell_at, mark_at}
use Rattle.desk.proofs.Below.{below-case}
use Rattle.desk.proofs.ReplayLaws.{Facts, marked}
use Rattle.page.specs.Version.{one, seat_digit, digit_seat}
use Rattle.page.specs.Sum.{sum_of, sum_modulus}
use Rattle.page.specs.Page.{first_line, middle, cell_line, last_line, seat_lines, cell_lines, front, page}
use Rattle.page.specs.inside.Tokens.{middle_size, value_of, last_size}
use Rattle.page.specs.inside.Machine.{framed}
use Rattle.page.specs.inside.Stored.{line_size, cells_from, begins_at, frame_in, seat_in}
use Rattle.page.proofs.PartLaws.{part_is}
use Rattle.page.proofs.VersionLaws.{seat_back, one_shows_all}
use Rattle.page.proofs.CodeLaws.{cell_long, last_long}
use Rattle.page.proofs.MiddleLaws.{framed_cell, middle_long}

module _ (d : Memory) (facts : Facts d) where
  abbrev line_of : ℕ → List ℕ
  line_of j = cell_line one (mark_at d.marks j) (middle (cell_at d.cells j))

  pub cell_lines_long : (n : ℕ) → n ≤ d.count → length (cell_lines one d n) ≡ n * line_size
  unfolding cell_lines
  cell_lines_long zero l = refl
  cell_lines_long (suc n) l =
      let ih = cell_lines_long n (omega arith) in
      let m = cell_long one one_shows_all.sound (mark_at d.marks n) (middle (cell_at d.cells n)) (middle_long d facts n l) in
      length-append (cell_lines one d n) (line_of n) ∙ omega (arith, ih, m)

  -- line j, and what is before and after it
  cell_lines_part : (j n : ℕ) → j < n → (rest : List ℕ) × (cell_lines one d n ≡ cell_lines one d j ++ (line_of j ++ rest))
  unfolding cell_lines
  cell_lines_part j zero l = absurd (omega arith)
  cell_lines_part j (suc n) l =
      below-case j n l
      (λ h.
      let k = cell_lines_part j n h in
      (k.0 ++ line_of n, ap (λ (t : List ℕ). t ++ line_of n) k.1 ∙ simp append_assoc))
      (λ e. ([], rw (e, append-nil (line_of n))))

  -- ---- in the page

  abbrev head : List ℕ
  head = first_line one ++ seat_lines one d 16

  abbrev end : List ℕ
  end = last_line d.count (sum_of (front one d) % sum_modulus)

  parted : page one d ≡ head ++ (cell_lines one d d.count ++ end)
  unfolding page front
  parted = simp append_assoc

  page_long : length (page one d) ≡ length head + (d.count * line_size + last_size one)
  page_long =
      let e = ap length parted in
      let a = length-append head (cell_lines one d d.count ++ end) in
      let b = length-append (cell_lines one d d.count) end in
      let c = cell_lines_long d.count (omega arith) in
      let z = last_long one one_shows_all.sound d.count (sum_of (front one d) % sum_modulus) in
      omega (arith, e, a, b, c, z)

  head_long : cells_from (page one d) d.count ≡ length head
  head_long = let n = page_long in omega (arith, n)

  -- the lines of the cells are within the page
  pub lines_fit : cells_from (page one d) d.count + d.count * line_size ≤ length (page one d)
  lines_fit = let n = page_long in omega (arith, n)

  module _ (j : ℕ) (l : j < d.count) where
    abbrev text : List ℕ
    text = page one d

    abbrev from : ℕ
    from = cells_from text d.count

    -- the page up to line j has as many bytes as said, and after it comes line j
    before : List ℕ
    before = head ++ cell_lines one d j

    before_long : length before ≡ begins_at text from j
    unfolding before
    before_long =
        let a = length-append head (cell_lines one d j) in
        let b = cell_lines_long j (omega arith) in
        let h = head_long in
        omega (arith, a, b, h)

    after : List ℕ
    after = (cell_lines_part j d.count l).0 ++ end

    around : text ≡ before ++ (line_of j ++ after)
    unfolding before after
    around =
        parted
        ∙ ap (λ (t : List ℕ). head ++ (t ++ end)) (cell_lines_part j d.count l).1
        ∙ simp append_assoc

    pub seat_in_line : seat_in text from j ≡ mark_at d.marks j
    unfolding cell_line
    seat_in_line =
        let i = mark_at d.marks j in
        let e : get_or text (begins_at text from j) 0 ≡ seat_digit i = ap (λ (t : List ℕ). get_or t (begins_at text from j) 0) around ∙ get_or_at before (seat_digit i) _ 0 (begins_at text from j) before_long in
        ap (λ (b : ℕ). value_of (digit_seat b)) e ∙ ap value_of (seat_back i (marked d facts j l))

    middle_in_line : slice (begins_at text from j + 2) (begins_at text from j + 51) text ≡ middle (cell_at d.cells j)
    unfolding cell_line
    middle_in_line =
        let at = begins_at text from j in
        let m = middle (cell_at d.cells j) in
        let k : at + 2 + middle_size ≡ at + 51 = omega arith in
        let rest : drop (at + 2) text ≡ m ++ (LF ∷ after) =
        ap (drop (at + 2)) around
        ∙ ap (λ (n : ℕ). drop (n + 2) (before ++ (line_of j ++ after))) (sym before_long)
        ∙ drop-append-add before (line_of j ++ after) 2
        ∙ append_assoc m (LF ∷ []) after in
        sym (rw k at (part_is (at + 2) middle_size text)) ∙ ap (take middle_size) rest ∙ take_at m (LF ∷ after) middle_size (middle_long d facts j l)

    pub frame_in_line : frame_in text from j ≡ cell_at d.cells j
    frame_in_line = ap framed middle_in_line ∙ framed_cell d facts j l
