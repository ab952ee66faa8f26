-- What the check says of a text, in terms of desks; and what a reading leaves. Assumes nothing.
use Rattle.std.proofs.Common.{◌≡◌, ℕ, ◌+◌, ◌-◌, ◌*◌, ◌/◌, ◌%◌, ◌≤◌, Bool, true, false, ◌&&◌, ◌||◌, ltb, leb, List, ◌++◌, length, sym, refl, ap, ◌∙◌, subst, arith, length-append, ltb-false, ltb-true, eq-eqb, le-leb, Ok, Err}
use borrow.Author.Tests.{lt-leb}
use Rattle.digits.specs.Refusals.{ROOM, PAGE}
use Rattle.digits.specs.Told.{gives, refuses}
use Rattle.digits.proofs.Tests.{by-test, and_true}
use Rattle.lines.specs.Demands.{SomePage, FirstLine, PageShows}
use Rattle.desk.specs.Limits.{seat_count, cell_size}
use Rattle.desk.specs.Memory.{Memory}
use Rattle.desk.proofs.Below.{and_false_r}
use Rattle.desk.proofs.ReplayLaws.{Facts}
use Rattle.page.specs.declared.read.Checked.{Checked}
use Rattle.page.specs.Version.{one, showable}
use Rattle.page.specs.Page.{seat_lines, cell_lines, front, first_line, last_line, page}
use Rattle.page.specs.Sum.{sum_of, sum_modulus}
use Rattle.page.specs.Reading.{has_room, Writes, PageChecked, a_page, no_page, PageRead, not_read, no_room, read}
use Rattle.page.specs.inside.Machine.{Shown, shows}
use Rattle.page.specs.inside.Checking.{CheckedAs}
use Rattle.page.specs.inside.Stored.{stored_cells, stored_marks, stored_tally, cells_from, Stores}
use Rattle.page.proofs.VersionLaws.{one_shows_all}
use Rattle.page.proofs.MachineLaws.{showable_is, machine_reads}
use Rattle.page.proofs.FoundLaws.{cell_lines_long}
use Rattle.page.proofs.CodeLaws.{last_long}
use Rattle.page.proofs.StoreLaws.{facts_stored}

-- ---- the length of a page

-- the lines of the cells and the last line are part of it
pub page_long : (d : Memory) → Facts d → d.count * 52 + 11 ≤ length (page one d)
unfolding page front
page_long d f =
    let a = length-append (front one d) (last_line d.count (sum_of (front one d) % sum_modulus)) in
    let b = length-append (first_line one) (seat_lines one d 16 ++ cell_lines one d d.count) in
    let c = length-append (seat_lines one d 16) (cell_lines one d d.count) in
    let e = cell_lines_long d f d.count (omega arith) in
    let g = last_long one one_shows_all.sound d.count (sum_of (front one d) % sum_modulus) in
    omega (arith, a, b, c, e, g)

-- ---- a text that is no page

module _ (t : List ℕ) (n : ℕ) (is : CheckedAs t (Err n)) where
  bad_line : (SomePage (showable one) (page one) t → ⊥) × FirstLine (showable one) (page one) t n
  bad_line = ((machine_reads one one_shows_all.sound).line_named t n).0 (sym is)

  pub done_page : (m : Memory) → PageRead one m t (refuses (PAGE n)) m
  done_page m = let b = bad_line in not_read n b.0 b.1

  pub checked_page : PageChecked one t (Err n)
  checked_page = let b = bad_line in no_page n b.0 b.1

-- ---- a page

module _ (t : List ℕ) (r : Checked) (is : CheckedAs t (Ok r)) where
  abbrev found : Shown
  found = record { row = r.row; bits = r.desk.bits; count = r.desk.count }

  pub shown : PageShows (showable one) (page one) shows t found
  shown = ((machine_reads one one_shows_all.sound).page_read t found).0 (sym is)

  abbrev d : Memory
  d = shown.0

  writes : Writes one d t
  writes = record { desk = shown.1; its_page = shown.2 }

  facts : Facts d
  facts = (showable_is one one_shows_all.sound d shown.1).facts

  same_count : d.count ≡ r.desk.count
  same_count = ap (λ (s : Shown). s.count) shown.3

  pub checked_good : PageChecked one t (Ok tt)
  checked_good = a_page d writes

  pub fits_in : r.desk.count * 52 + 11 ≤ length t
  fits_in = let a = page_long d facts in let b = ap length shown.2 in let c = same_count in omega arith

  module _ (m : Memory) (full : length m.row ≡ seat_count) where
    abbrev short : Bool
    short = ltb (length m.cells / cell_size) r.desk.count || ltb (length m.marks) r.desk.count

    room_is : has_room m d ≡ leb r.desk.count (length m.cells / cell_size) && leb r.desk.count (length m.marks)
    unfolding has_room
    room_is = rw (same_count, eq-eqb _ _ full) (keep (leb r.desk.count (length m.cells / cell_size) && leb r.desk.count (length m.marks)))
      where
        keep : (a : Bool) → a && true ≡ a
        keep true = refl
        keep false = refl

    pub done_room : short ≡ true → PageRead one m t (refuses ROOM) m
    done_room e = no_room d writes (room_is ∙ none)
      where
        none : leb r.desk.count (length m.cells / cell_size) && leb r.desk.count (length m.marks) ≡ false
        none =
            by-test (ltb (length m.cells / cell_size) r.desk.count)
            (λ a. let l = ltb-true (length m.cells / cell_size) r.desk.count a in rw (lt-leb r.desk.count (length m.cells / cell_size) l))
            (λ a. let b : ltb (length m.marks) r.desk.count ≡ true = rw a at e in
            let l = ltb-true (length m.marks) r.desk.count b in and_false_r (leb r.desk.count (length m.cells / cell_size)) (lt-leb r.desk.count (length m.marks) l))

    pub record Room : Type 0 where
      pub cells : r.desk.count * cell_size ≤ length m.cells
      pub marks : r.desk.count ≤ length m.marks
      pub both : has_room m d ≡ true

    pub has_room_law : short ≡ false → Room
    has_room_law e =
        by-test (ltb (length m.cells / cell_size) r.desk.count)
        (λ a. let no : true ≡ false = rw a at e in absurd (let y : ◌≡◌ {A = ℕ} 0 1 = cc in omega arith))
        (λ a.
        let c = ltb-false (length m.cells / cell_size) r.desk.count a in
        let b : ltb (length m.marks) r.desk.count ≡ false = rw a at e in
        let k = ltb-false (length m.marks) r.desk.count b in
        record { cells = omega arith; marks = k; both = room_is ∙ and_true (le-leb _ _ c) (le-leb _ _ k) })

    pub done_read : short ≡ false → (cells' marks' : List ℕ) (tally' : List (List ℕ)) (from : ℕ) → from ≡ length t - 11 - r.desk.count * 52
        → cells' ≡ stored_cells t from m.cells r.desk.count → marks' ≡ stored_marks t from m.marks r.desk.count → tally' ≡ stored_tally t from r.desk.count
        → PageRead one m t (gives tt) (record { row = r.row; bits = r.desk.bits; count = r.desk.count; cells = cells'; marks = marks'; tally = tally' })
    done_read e cells' marks' tally' from f a b c =
        let room = has_room_law e in
        let stores : Stores d t m.cells m.marks =
        subst (λ (x : List ℕ). Stores d x m.cells m.marks) shown.2 (facts_stored d facts m.cells m.marks (let k = room.marks in let n = same_count in omega arith)) in
        let place : from ≡ cells_from t d.count = rw same_count f in
        let ec = a ∙ (λ i. stored_cells t (place i) m.cells (sym same_count i)) ∙ stores.cells_are in
        let em = b ∙ (λ i. stored_marks t (place i) m.marks (sym same_count i)) ∙ stores.marks_are in
        let et = c ∙ (λ i. stored_tally t (place i) (sym same_count i)) ∙ stores.tally_is in
        let whole = shown.3 in
        subst (λ (x : Memory). PageRead one m t (gives tt) x)
        (λ i. record { row = (whole i).row; bits = (whole i).bits; count = (whole i).count; cells = sym ec i; marks = sym em i; tally = sym et i })
        (read d writes room.both)
