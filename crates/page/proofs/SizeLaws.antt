-- How long pages are. Assumes nothing.
use Rattle.std.proofs.Common.{◌≡◌, ℕ, zero, suc, ◌+◌, ◌*◌, ◌%◌, ◌≤◌, cond, List, [], ◌++◌, length, sym, ◌∙◌, suc-mul, arith, length-append}
use lib.Seq.{length-slice}
use Rattle.digits.proofs.Tests.{by-test}
use Rattle.desk.specs.Limits.{cell_size}
use Rattle.desk.specs.Below.{count_below}
use Rattle.desk.specs.Key.{seat_key}
use Rattle.desk.specs.Seats.{seat_at, used_bit}
use Rattle.desk.specs.Memory.{Memory, cell_at, mark_at}
use Rattle.desk.specs.Calls.{seats_in_use}
use Rattle.desk.proofs.Below.{count_most}
use Rattle.desk.proofs.Bits.{ones_count}
use Rattle.desk.proofs.ReplayLaws.{desk_facts}
use Rattle.desk.proofs.ClauseLaws.{cap_room}
use Rattle.page.specs.Version.{Version, one, Sound}
use Rattle.page.specs.Sum.{sum_of, sum_modulus}
use Rattle.page.specs.Page.{first_line, seat_line, middle, cell_line, last_line, seat_lines, cell_lines, front, page}
use Rattle.page.specs.Sizes.{PageLength, LongestPage}
use Rattle.page.proofs.RowLaws.{cell_long as frame_long}
use Rattle.page.proofs.CodeLaws.{first_long, seat_long, cell_long, last_long}
use Rattle.page.proofs.VersionLaws.{one_shows_all}

module _ (v : Version) (h : Sound v) where
  -- ---- all lines

  module _ (m : Memory) where
    pub seats_length : (n : ℕ) → length (seat_lines v m n) ≡ count_below n (used_bit m.bits) * (v.seat.width + 11)
    unfolding seat_lines count_below
    seats_length zero = omega arith
    seats_length (suc i) =
        let line : List ℕ = seat_line v i (seat_key (seat_at m.row i)) (seat_at m.row i).ended in
        let r = seats_length i in
        let a = length-append (seat_lines v m i) (cond (used_bit m.bits i) line []) in
        let s = seat_long v h i (seat_key (seat_at m.row i)) (seat_at m.row i).ended in
        let c = suc-mul (count_below i (used_bit m.bits)) (v.seat.width + 11) in
        by-test (used_bit m.bits i)
        (λ u. let b = rw u at a in rw u (omega (arith, r, b, s, c)))
        (λ u. let b = rw u at a in rw u (omega (arith, r, b)))

    pub cells_length : (n : ℕ) → n * cell_size ≤ length m.cells → length (cell_lines v m n) ≡ n * (v.seat.width + 51)
    unfolding cell_lines
    cells_length zero l = omega arith
    cells_length (suc j) l =
        let r = cells_length j (omega arith) in
        let f = frame_long m.cells j (omega arith) in
        let i = length-slice 1 50 (cell_at m.cells j) (omega (arith, f)) in
        let s = cell_long v h (mark_at m.marks j) (middle (cell_at m.cells j)) i in
        let a = length-append (cell_lines v m j) (cell_line v (mark_at m.marks j) (middle (cell_at m.cells j))) in
        let c = suc-mul j (v.seat.width + 51) in
        omega (arith, r, s, a, c)

    pub page_long : m.count * cell_size ≤ length m.cells
        → length (page v m) ≡ 7 + count_below v.seats (used_bit m.bits) * (v.seat.width + 11) + m.count * (v.seat.width + 51) + 11
    unfolding page front
    page_long l =
        let a = length-append (front v m) (last_line m.count (sum_of (front v m) % sum_modulus)) in
        let b = length-append (first_line v) (seat_lines v m v.seats ++ cell_lines v m m.count) in
        let c = length-append (seat_lines v m v.seats) (cell_lines v m m.count) in
        omega (arith, a, b, c, first_long v h, seats_length v.seats, cells_length m.count l, last_long v h m.count (sum_of (front v m) % sum_modulus))

-- ---- a desk's page

pub page_length : PageLength
unfolding seats_in_use
page_length m d =
    let f = desk_facts m d in
    let r = cap_room (length m.cells) (length m.marks) m.count f.fits in
    let p = page_long one one_shows_all.sound m r.1.1 in
    let u : count_below 64 (used_bit m.bits) ≡ count_below 16 (used_bit m.bits) = sym (ones_count 64 m.bits (omega (arith, f.bits))) ∙ ones_count 16 m.bits f.bits in
    omega (arith, p, u)

pub longest_page_law : LongestPage
unfolding seats_in_use
longest_page_law m d =
    let f = desk_facts m d in
    let r = cap_room (length m.cells) (length m.marks) m.count f.fits in
    let p = page_long one one_shows_all.sound m r.1.1 in
    let u = count_most 16 (used_bit m.bits) in
    omega (arith, p, u, r.0)
