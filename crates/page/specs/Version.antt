-- The versions of a page, and which desks a version can show.
use Rattle.std.specs.Prelude.{◌≡◌, ℕ, ◌+◌, ◌-◌, ◌^◌, ◌≤◌, Bool, true, cond, not, ◌&&◌, ltb, [], ◌∷◌, ◌==◌, nat_le, nat_lt, slice_index, Option, Some, None}
use Rattle.digits.specs.Digits.{is_digit}
use Rattle.digits.specs.Form.{Form, Inverse}
use Rattle.text.specs.Lines.{LF}
use Rattle.lines.specs.Lines.{every}
use Rattle.desk.specs.Limits.{seat_count, most_cells}
use Rattle.desk.specs.Memory.{Memory}
use Rattle.desk.specs.Desk.{is_desk}

pub record Version : Type 0 where
  -- one byte, on the first line
  pub name : ℕ
  -- how the number of a seat is written
  pub seat : Form
  -- how many seats and how many cells a page can show
  pub seats : ℕ
  pub cells : ℕ

-- ---- version 1: a seat is one digit, 0 to 9 and A to F

unfoldable pub seat_digit : ℕ → ℕ
seat_digit n = cond (nat_lt n 10) (48 + n) (55 + n)

unfoldable pub digit_seat : ℕ → Option ℕ
digit_seat b = cond (is_digit b) (Some (b - 48)) (cond (nat_le 65 b && nat_le b 70) (Some (b - 55)) None)

abbrev pub one_digit : Form
one_digit = record { width = 1; got = λ s p. digit_seat (slice_index s p); put = λ n. seat_digit n ∷ [] }

-- its limits are those of the text, and stay if a desk grows
abbrev pub one : Version
one = record { name = 49; seat = one_digit; seats = 16; cells = 256 }

-- ---- every version

-- a byte that does not end a line
abbrev pub within : ℕ → Bool
within b = not (b == LF)

-- what is proved of pages holds for every version that meets this: its name is within a line, a seat that it can show is written within a line and read back, and it shows no more than a desk can have
pub record Sound (v : Version) : Type 0 where
  pub named : within v.name ≡ true
  -- a seat takes at least one byte
  pub some : 1 ≤ v.seat.width
  pub inverse : Inverse v.seat (λ i. ltb i v.seats)
  pub inside : (i : ℕ) → nat_lt i v.seats ≡ true → every within (v.seat.put i) ≡ true
  pub seats : v.seats ≤ seat_count
  pub cells : v.cells ≤ most_cells

-- a desk that a page of version v can show
unfoldable pub showable : Version → Memory → Bool
showable v m = is_desk m && nat_lt m.bits (2 ^ v.seats) && nat_le m.count v.cells

-- version 1 is sound, and it can show every desk
pub record OneShowsAll : Type 0 where
  pub sound : Sound one
  pub all : (m : Memory) → showable one m ≡ is_desk m
