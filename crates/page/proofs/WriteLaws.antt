-- How the steps of writing a page make up its promise. Assumes nothing.
use Rattle.std.proofs.Common.{◌≡◌, ℕ, ◌+◌, ◌-◌, ◌%◌, ◌<◌, ◌≤◌, true, false, List, length, take, drop, ap, ◌∙◌, append_assoc, arith, length-append, take_at, le-leb, Ok, Err}
use borrow.Author.Tests.{lt-leb}
use Rattle.digits.specs.Text.{codes}
use Rattle.text.specs.Put.{most_place, Put}
use Rattle.text.proofs.PutLaws.{put_all, put_then}
use Rattle.desk.specs.Memory.{Memory}
use Rattle.desk.specs.Calls.{seats_in_use}
use Rattle.desk.specs.Desk.{is_desk}
use Rattle.desk.proofs.ReplayLaws.{Facts, desk_facts, marked}
use Rattle.desk.proofs.ClauseLaws.{cap_room}
use Rattle.desk.proofs.ColumnLaws.{legal_keyed}
use Rattle.page.specs.declared.write.WriteRefusal.TheVariants.{Desk, Room}
use Rattle.page.specs.Version.{one, showable}
use Rattle.page.specs.Sum.{sum_of, sum_modulus}
use Rattle.page.specs.Page.{first_line, last_line, seat_lines, cell_lines, front, page}
use Rattle.page.specs.Writing.{write_tried, PageWritten}
use Rattle.page.specs.Sizes.{page_size}
use Rattle.page.specs.inside.Writing.{SeatsFit, CellsFit, of_seats, of_cells}
use Rattle.page.proofs.EndingLaws.{ended_most}
use Rattle.page.proofs.VersionLaws.{one_shows_all}
use Rattle.page.proofs.RowLaws.{seats_alone, cells_alone}
use Rattle.page.proofs.CodeLaws.{last_long}
use Rattle.page.proofs.SizeLaws.{page_length}

module _ (m : Memory) (out : List ℕ) where
  -- ---- refused

  pub no_desk_case : is_desk m ≡ false → PageWritten one m out (Err Desk) out
  unfolding write_tried
  no_desk_case d = let s = one_shows_all.all m ∙ d in record { told = rw s; bytes = rw s }

  module _ (d : is_desk m ≡ true) where
    shows : showable one m ≡ true
    shows = one_shows_all.all m ∙ d

    pub no_room : (size : ℕ) → size ≡ page_size (seats_in_use m.bits) m.count → length out < size → PageWritten one m out (Err Room) out
    unfolding write_tried
    no_room size e l =
        let n = page_length m d in
        let r = lt-leb (length (page one m)) (length out) (omega (arith, n, e)) in
        record { told = rw (shows, r); bytes = rw (shows, r) }

    -- ---- what the steps need of a desk

    facts : Facts m
    facts = desk_facts m d

    pub seats_fit : SeatsFit m.row m.bits
    seats_fit i l u =
        let k = (legal_keyed _ (facts.keys i l u)).short in
        record { key = record { address = omega (arith, k.address); requester = k.requester }; ended = ended_most m i facts l u }

    pub cells_fit : CellsFit m.cells m.marks m.count
    cells_fit =
        let r = cap_room (length m.cells) (length m.marks) m.count facts.fits in
        record { celled = r.1.1; marked = r.1.0; seats = λ j l. marked m facts j l }

    -- ---- written

    module _ (room : length out < most_place) (size : ℕ) (e : size ≡ page_size (seats_in_use m.bits) m.count) (fits : size ≤ length out) (p : ℕ) (o : List ℕ) (q : ℕ) (o' : List ℕ) (r : ℕ) (o'' : List ℕ)
        (first : Put out 0 (codes "page\t1\n") p o) (seats : Put o p (seat_lines one (of_seats m.row m.bits) 16) q o')
        (cells : Put o' q (cell_lines one (of_cells m.cells m.marks) m.count) r o'') where
      all_but_last : Put out 0 (front one m) r o''
      unfolding front first_line
      all_but_last =
          rw (← append_assoc (first_line one) (seat_lines one m 16) (cell_lines one m m.count))
          (put_then out 0 _ q o' _ r o'' (omega arith) (put_then out 0 _ p o _ q o' (omega arith) first (rw (seats_alone one m 16) at seats)) (rw (cells_alone one m m.count) at cells))

      long : length (front one m) + 11 ≡ size
      unfolding page
      long =
          let a = length-append (front one m) (last_line m.count (sum_of (front one m) % sum_modulus)) in
          let b = last_long one one_shows_all.sound m.count (sum_of (front one m) % sum_modulus) in
          let n = page_length m d in
          omega (arith, a, b, n, e)

      -- the place of the last line is on the output, and what is before it is summed
      pub place : r ≡ length (front one m)
      place = let n = long in let x = all_but_last.next in omega (arith, n, x)

      pub within : r ≤ length out
      within = let n = long in let x = place in omega (arith, n, x)

      summed : take (r - 0) o'' ≡ front one m
      summed =
          let n = long in
          let x = place in
          ap (λ (l : List ℕ). take (r - 0) l) (put_all out (front one m) r o'' all_but_last (omega (arith, n)))
          ∙ take_at (front one m) (drop (length (front one m)) out) (r - 0) (omega (arith, x))

      pub written_page : (sum end : ℕ) (out' : List ℕ) → sum ≡ sum_of (take (r - 0) o'') % sum_modulus → Put o'' r (last_line m.count sum) end out' → PageWritten one m out (Ok size) out'
      unfolding write_tried page
      written_page sum end out' s last =
          let t : sum ≡ sum_of (front one m) % sum_modulus = s ∙ ap (λ (l : List ℕ). sum_of l % sum_modulus) summed in
          let n = page_length m d in
          let b = le-leb (length (page one m)) (length out) (omega (arith, n, e)) in
          let w : Put out 0 (page one m) end out' = put_then out 0 (front one m) r o'' _ end out' (omega arith) all_but_last (rw t at last) in
          record {
            told = rw (shows, b, n, e);
            bytes = rw (shows, b) (put_all out (page one m) end out' w (omega (arith, n, e)));
          }
