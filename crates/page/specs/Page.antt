-- The page of a desk: a first line, a line for each used seat, a line for each held cell, and a last line.
use Rattle.std.specs.Prelude.{ℕ, zero, suc, ◌+◌, ◌%◌, cond, List, [], ◌∷◌, ◌++◌}
use Rattle.std.proofs.Math.Seq.{slice}
use Rattle.digits.specs.Text.{codes}
use Rattle.digits.specs.Digits.{digits}
use Rattle.text.specs.Lines.{TAB, LF}
use Rattle.text.specs.Address.{address_shown}
use Rattle.desk.specs.declared.key.Key.{Key}
use Rattle.desk.specs.Key.{seat_key}
use Rattle.desk.specs.Seats.{seat_at, used_bit}
use Rattle.desk.specs.Memory.{Memory, cell_at, mark_at}
use Rattle.page.specs.Version.{Version}
use Rattle.page.specs.Sum.{sum_of, sum_modulus}

-- ---- the lines

unfoldable pub first_line : Version → List ℕ
first_line v = codes "page" ++ (TAB ∷ v.name ∷ LF ∷ [])

-- seat, address, requester, number, and 1 or 0 for ended or not
unfoldable pub seat_line : Version → ℕ → Key → ℕ → List ℕ
seat_line v i k ended =
    v.seat.put i
    ++ (TAB ∷ address_shown k.address ∷ TAB ∷ k.requester ∷ TAB ∷ (digits 3 k.number ++ (TAB ∷ (48 + ended) ∷ LF ∷ [])))

-- a frame without its lead byte and its CR: bytes 1 to 49
abbrev pub middle : List ℕ → List ℕ
middle f = slice 1 50 f

-- seat, and the middle of the frame
unfoldable pub cell_line : Version → ℕ → List ℕ → List ℕ
cell_line v i bytes = v.seat.put i ++ (TAB ∷ (bytes ++ (LF ∷ [])))

-- the number of cells, and the sum of all bytes before this line
unfoldable pub last_line : ℕ → ℕ → List ℕ
last_line count sum = digits 4 count ++ (TAB ∷ (digits 5 sum ++ (LF ∷ [])))

-- ---- the page

module _ (v : Version) (m : Memory) where
  -- the lines of the used seats below n, the lowest first; nothing else of the state is in them
  unfoldable pub seat_lines : ℕ → List ℕ
  seat_lines zero = []
  seat_lines (suc i) = seat_lines i ++ cond (used_bit m.bits i) (seat_line v i (seat_key (seat_at m.row i)) (seat_at m.row i).ended) []

  -- the lines of the first n cells, in the order of the store
  unfoldable pub cell_lines : ℕ → List ℕ
  cell_lines zero = []
  cell_lines (suc j) = cell_lines j ++ cell_line v (mark_at m.marks j) (middle (cell_at m.cells j))

  -- all lines but the last
  unfoldable pub front : List ℕ
  front = first_line v ++ (seat_lines v.seats ++ cell_lines m.count)

  unfoldable pub page : List ℕ
  page = front ++ last_line m.count (sum_of front % sum_modulus)
