-- How long a page is.
use Rattle.std.specs.Prelude.{◌≡◌, ℕ, ◌+◌, ◌*◌, ◌≤◌, true, length}
use Rattle.desk.specs.Limits.{seat_count, most_cells}
use Rattle.desk.specs.Memory.{Memory}
use Rattle.desk.specs.Calls.{seats_in_use}
use Rattle.desk.specs.Desk.{is_desk}
use Rattle.page.specs.Version.{one}
use Rattle.page.specs.Page.{page}

-- the length of the page of a desk with so many seats in use and so many cells: the first line has 7 bytes, the line of a seat 12, that of a cell 52, and the last line 11
abbrev pub page_size : ℕ → ℕ → ℕ
page_size seats cells = 7 + seats * 12 + cells * 52 + 11

abbrev pub PageLength : Type 0
PageLength = (m : Memory) → is_desk m ≡ true → length (page one m) ≡ page_size (seats_in_use m.bits) m.count

-- the length of the longest page: an output of so many bytes has room for every page
abbrev pub longest_page : ℕ
longest_page = page_size seat_count most_cells

abbrev pub LongestPage : Type 0
LongestPage = (m : Memory) → is_desk m ≡ true → length (page one m) ≤ longest_page
