-- Reading a page: what is answered, and the state and memory afterwards. All of it is said of desks and their pages.
use Rattle.std.specs.Prelude.{◌≡◌, ℕ, ◌*◌, ◌/◌, Bool, true, false, ◌&&◌, List, ◌++◌, length, take, drop, ◌==◌, nat_le, Result, Ok, Err}
use Rattle.digits.specs.declared.refusal.Refusal.{Refusal}
use Rattle.digits.specs.Refusals.{ROOM, PAGE}
use Rattle.digits.specs.Told.{Told, gives, refuses}
use Rattle.lines.specs.Demands.{SomePage, FirstLine}
use Rattle.desk.specs.Limits.{seat_count, cell_size}
use Rattle.desk.specs.Memory.{Memory}
use Rattle.page.specs.declared.read.ReadRefusal.{ReadRefusal}
use Rattle.page.specs.declared.read.ReadRefusal.TheVariants.{Page, Room}
use Rattle.page.specs.Version.{Version, showable}
use Rattle.page.specs.Page.{page}

-- the lent memory m has a cell and a mark for each cell of the desk d, and its row has all seats
unfoldable pub has_room : Memory → Memory → Bool
has_room m d = nat_le d.count (length m.cells / cell_size) && nat_le d.count (length m.marks) && length m.row == seat_count

-- the memory m after desk d was read into it: cells and marks beyond the count stay
abbrev pub restored : Memory → Memory → Memory
restored m d =
    record {
      row = d.row;
      bits = d.bits;
      count = d.count;
      cells = take (d.count * cell_size) d.cells ++ drop (d.count * cell_size) m.cells;
      marks = take d.count d.marks ++ drop d.count m.marks;
      tally = d.tally;
    }

-- a desk that writes this text
pub record Writes (v : Version) (d : Memory) (text : List ℕ) : Type 0 where
  pub desk : showable v d ≡ true
  pub its_page : page v d ≡ text

-- what is promised of the check alone
pub data PageChecked (v : Version) (text : List ℕ) : Result (Unit {0}) ℕ → Type 0 where
  a_page : (d : Memory) → Writes v d text → PageChecked v text (Ok tt)
  no_page : (n : ℕ) → (SomePage (showable v) (page v) text → ⊥) → FirstLine (showable v) (page v) text n → PageChecked v text (Err n)

-- what the answers of the code mean, and the number of a refusal in the table
abbrev pub page_refused : ReadRefusal → Refusal
page_refused (Page n) = PAGE n
page_refused Room = ROOM

abbrev pub read_told : Result (Unit {0}) ReadRefusal → Told (Unit {0})
read_told (Ok u) = gives u
read_told (Err f) = refuses (page_refused f)

-- what is promised of reading a text into the memory m: the answer, and the memory afterwards
pub data PageRead (v : Version) (m : Memory) (text : List ℕ) : Told (Unit {0}) → Memory → Type 0 where
  -- no desk writes it, and n is the number of the first line up to which no desk's page begins so
  not_read : (n : ℕ) → (SomePage (showable v) (page v) text → ⊥) → FirstLine (showable v) (page v) text n → PageRead v m text (refuses (PAGE n)) m
  -- desk d writes it, and there is no room for d
  no_room : (d : Memory) → Writes v d text → has_room m d ≡ false → PageRead v m text (refuses ROOM) m
  -- desk d writes it, and d is read
  read : (d : Memory) → Writes v d text → has_room m d ≡ true → PageRead v m text (gives tt) (restored m d)
