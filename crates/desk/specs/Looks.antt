-- What is demanded of the tally: a look gives its number; on a desk this is how many records are held with that letter and status; and every call keeps it so.
use Rattle.std.specs.Prelude.{ℕ, zero, suc, ◌+◌, ◌*◌, ◌<◌, List, [], ◌∷◌, Bool, true, false, cond, ◌&&◌, ◌↔◌, ◌≡◌, get_or, eqb}
use Rattle.digits.specs.Text.{codes, one_of}
use Rattle.digits.specs.Refusals.{plain}
use Rattle.digits.specs.Told.{Told, gives, refuses}
use Rattle.frames.specs.Kind.{read}
use Rattle.frames.specs.Reply.{reply}
use Rattle.frames.specs.declared.reply.StaticReply.{StaticReply}
use Rattle.desk.specs.Limits.{seat_count}
use Rattle.desk.specs.Rule.{Frame}
use Rattle.desk.specs.Memory.{Memory, held_by}
use Rattle.desk.specs.Tally.{Table, looks}
use Rattle.desk.specs.Desk.{is_desk}
use Rattle.desk.specs.Calls.{opens, replies, emptied}
use Rattle.desk.specs.Events.{Event, run}

-- ---- the lists, spelled

abbrev pub all_letters : List ℕ
all_letters = codes "0123456789AQPaSsTKRGHhIiJjpkugWwX"

abbrev pub all_statuses : List ℕ
all_statuses = codes "REZ"

abbrev pub is_listed : ℕ → ℕ → Bool
is_listed letter status = one_of all_letters letter && one_of all_statuses status

-- ---- the count, in two ways

-- by the bytes of the first n cells: 29 is the place of a reply's letter, 5 that of its status, and a cell has 51 bytes
unfoldable pub by_bytes : List ℕ → ℕ → ℕ → ℕ → ℕ
by_bytes cells letter status zero = 0
by_bytes cells letter status (suc n) =
    cond (eqb (get_or cells (n * 51 + 29) 0) letter && eqb (get_or cells (n * 51 + 5) 0) status) (suc (by_bytes cells letter status n)) (by_bytes cells letter status n)

-- by the records that seats hold: a frame shows a letter and a status if the reader gives a record with them
abbrev pub in_record : ℕ → ℕ → Told StaticReply → Bool
in_record letter status (gives r) = eqb r.head.information letter && eqb r.head.status status
in_record letter status (refuses why) = false

abbrev pub shows : ℕ → ℕ → Frame → Bool
shows letter status f = in_record letter status (read reply f)

unfoldable pub among : (Frame → Bool) → List Frame → ℕ
among p [] = 0
among p (f ∷ fs) = cond (p f) (suc (among p fs)) (among p fs)

-- over the seats below n
unfoldable pub by_seats : Memory → ℕ → ℕ → ℕ → ℕ
by_seats m letter status zero = 0
by_seats m letter status (suc n) = by_seats m letter status n + among (shows letter status) (held_by m n)

-- ---- the statements

pub record LooksAreRight : Type 0 where
  -- NO SUCH, which is 17, exactly if the letter or the status is not in its list
  pub refused : (t : Table) (letter status : ℕ) → (looks t letter status ≡ refuses (plain 17)) ↔ (is_listed letter status ≡ false)
  -- otherwise the number in the row of the letter and the column of the status
  pub given : (t : Table) (i j : ℕ) → i < 33 → j < 3 → looks t (get_or all_letters i 0) (get_or all_statuses j 0) ≡ gives (get_or (get_or t i []) j 0)
  -- on a desk it is the count over the cells held
  pub on_desk : (m : Memory) (letter status n : ℕ) → is_desk m ≡ true → looks m.tally letter status ≡ gives n → n ≡ by_bytes m.cells letter status m.count
  -- and the count over the records of all seats
  pub at_seats : (m : Memory) (letter status n : ℕ) → is_desk m ≡ true → looks m.tally letter status ≡ gives n → n ≡ by_seats m letter status seat_count
  -- also after openings and replies, mixed in any way
  pub after_events : (m : Memory) (es : List Event) (letter status n : ℕ) → is_desk m ≡ true → looks (run m es).tally letter status ≡ gives n → n ≡ by_seats (run m es) letter status seat_count
  -- a reset leaves zeros
  pub after_reset : (m : Memory) (letter status n : ℕ) → looks (emptied m).tally letter status ≡ gives n → n ≡ 0
  -- a taken reply adds one at its letter and status, and nowhere else
  pub after_reply : (m : Memory) (f : Frame) (s letter status n : ℕ) → (replies m f).answer ≡ gives s → looks m.tally letter status ≡ gives n
      → looks (replies m f).after.tally letter status ≡ gives (cond (eqb (get_or f 29 0) letter && eqb (get_or f 5 0) status) (n + 1) n)
  -- an opening leaves all numbers
  pub after_opening : (m : Memory) (f : Frame) → (opens m f).after.tally ≡ m.tally
