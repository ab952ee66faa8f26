-- How long a list can be, how many rows it has, and that its numbers are shown whole.
use Rattle.std.specs.Prelude.{ℕ, zero, suc, ◌+◌, ◌-◌, ◌*◌, ◌<◌, ◌≤◌, List, [], ◌∷◌, ◌≡◌, length}
use Rattle.text.specs.Decimal.{width, Whole}
use Rattle.text.specs.Lines.{lines}
use Rattle.desk.specs.Limits.{seat_count, most_cells}
use Rattle.desk.specs.Memory.{Memory, held_by}
use Rattle.listing.specs.Text.{Column, columns, heading, end}
use Rattle.listing.specs.Listing.{most_input, after, counts, list_of}

-- how many bytes these columns take in a row, each with the tab in front of it
abbrev pub columns_size : List Column → ℕ
columns_size [] = 0
columns_size (c ∷ cs) = 1 + (c.to - c.from) + columns_size cs

-- the length of the longest row: the digits of the last seat, the columns, and the LF
unfoldable pub longest_row : ℕ
longest_row = width (seat_count - 1) + columns_size columns + 1

-- the length of the longest end line: the word end, four counts, each with the tab in front of it, and the LF
unfoldable pub longest_end : ℕ
longest_end = length end + 4 * (1 + width most_input) + 1

-- the length of the longest list: an output of so many bytes has room for every list
abbrev pub longest_list : ℕ
longest_list = length heading + most_cells * longest_row + longest_end

abbrev pub ListFits : Type 0
ListFits = (cells marks s : List ℕ) → length (list_of cells marks s) ≤ longest_list

-- how many rows a list has for the seats below n
unfoldable pub rows_in : Memory → ℕ → ℕ
rows_in m zero = 0
rows_in m (suc n) = rows_in m n + length (held_by m n)

-- a list has as many rows as it reports replies collected
abbrev pub RowsAreCollected : Type 0
RowsAreCollected = (cells marks s : List ℕ) → rows_in (after cells marks s) seat_count ≡ (counts cells marks s).collected

-- so a list has as many lines as replies collected, and two more: the heading and the end line
abbrev pub LinesAreRows : Type 0
LinesAreRows = (cells marks s : List ℕ) → length s ≤ most_input → lines (list_of cells marks s) ≡ 1 + (counts cells marks s).collected + 1

-- the numbers of a list that are not copied from a frame are shown whole: its counts, and its seats
pub record NumbersAreWhole : Type 0 where
  pub opened : (cells marks s : List ℕ) → length s ≤ most_input → Whole (counts cells marks s).opened
  pub collected : (cells marks s : List ℕ) → length s ≤ most_input → Whole (counts cells marks s).collected
  pub dynamic : (cells marks s : List ℕ) → length s ≤ most_input → Whole (counts cells marks s).dynamic
  pub refused : (cells marks s : List ℕ) → length s ≤ most_input → Whole (counts cells marks s).refused
  pub seat : (s : ℕ) → s < seat_count → Whole s
