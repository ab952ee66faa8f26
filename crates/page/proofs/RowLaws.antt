-- Laws of lines one after the other: those of the seats, and those of the cells. Assumes nothing.
use Rattle.std.proofs.Common.{◌≡◌, ℕ, zero, suc, ◌+◌, ◌-◌, ◌*◌, ◌≤◌, cond, List, [], ◌++◌, length, take, drop, refl, ap, add-one, arith, length-drop, length-take}
use Rattle.text.specs.Put.{most_place, Put}
use Rattle.text.proofs.PutLaws.{put_then}
use Rattle.desk.specs.declared.state.Seat.{Seat}
use Rattle.desk.specs.Limits.{cell_size}
use Rattle.desk.specs.Key.{seat_key}
use Rattle.desk.specs.Seats.{seat_at, used_bit}
use Rattle.desk.specs.Memory.{Memory, cell_at, mark_at}
use Rattle.desk.proofs.ClauseLaws.{part_cell}
use Rattle.page.specs.Version.{Version, one}
use Rattle.page.specs.Page.{seat_line, middle, cell_line, seat_lines, cell_lines}
use Rattle.page.specs.inside.Writing.{of_seats, of_cells}

-- a cell within the memory has its full length
pub cell_long : (cells : List ℕ) (j : ℕ) → j * cell_size + cell_size ≤ length cells → length (cell_at cells j) ≡ cell_size
cell_long cells j l =
    let a = length-take cell_size (drop (j * cell_size) cells) in
    let b = length-drop (j * cell_size) cells in
    omega (arith, a, b)

-- one more seat, and one more cell
module _ (out : List ℕ) (at p : ℕ) (mid : List ℕ) (q : ℕ) (out' : List ℕ) (l : length out ≤ most_place) where
  pub seats_more : (row : List Seat) (bits s : ℕ) → Put out at (seat_lines one (of_seats row bits) s) p mid
      → Put mid p (cond (used_bit bits s) (seat_line one s (seat_key (seat_at row s)) (seat_at row s).ended) []) q out'
      → Put out at (seat_lines one (of_seats row bits) (s + 1)) q out'
  unfolding seat_lines
  seats_more row bits s x y = rw (add-one s) (put_then out at _ p mid _ q out' l x y)

  pub cells_more : (cells marks : List ℕ) (j : ℕ) → Put out at (cell_lines one (of_cells cells marks) j) p mid
      → Put mid p (cell_line one (mark_at marks j) (middle (take (j * cell_size + cell_size - j * cell_size) (drop (j * cell_size) cells)))) q out'
      → Put out at (cell_lines one (of_cells cells marks) (j + 1)) q out'
  unfolding cell_lines
  cells_more cells marks j x y = rw (add-one j) (put_then out at _ p mid _ q out' l x (rw (part_cell cells j) at y))

-- a memory's lines are those of its seats and of its cells
pub seats_alone : (v : Version) (m : Memory) (n : ℕ) → seat_lines v (of_seats m.row m.bits) n ≡ seat_lines v m n
unfolding seat_lines
seats_alone v m zero = refl
seats_alone v m (suc i) = ap (λ (l : List ℕ). l ++ cond (used_bit m.bits i) (seat_line v i (seat_key (seat_at m.row i)) (seat_at m.row i).ended) []) (seats_alone v m i)

pub cells_alone : (v : Version) (m : Memory) (n : ℕ) → cell_lines v (of_cells m.cells m.marks) n ≡ cell_lines v m n
unfolding cell_lines
cells_alone v m zero = refl
cells_alone v m (suc j) = ap (λ (l : List ℕ). l ++ cell_line v (mark_at m.marks j) (middle (cell_at m.cells j))) (cells_alone v m j)
