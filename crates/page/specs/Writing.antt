-- Writing a page: what is answered, and the output afterwards.
use Rattle.std.specs.Prelude.{◌≡◌, ℕ, List, ◌++◌, length, drop, nat_le, Result, Ok, Err}
use Rattle.digits.specs.declared.refusal.Refusal.{Refusal}
use Rattle.digits.specs.Refusals.{DESK, ROOM}
use Rattle.digits.specs.Told.{Told, gives, refuses, tried}
use Rattle.desk.specs.Memory.{Memory}
use Rattle.page.specs.declared.write.WriteRefusal.{WriteRefusal}
use Rattle.page.specs.declared.write.WriteRefusal.TheVariants.{Desk, Room}
use Rattle.page.specs.Version.{Version, showable}
use Rattle.page.specs.Page.{page}

module _ (v : Version) (m : Memory) (out : List ℕ) where
  -- DESK, then ROOM; otherwise the length of the page
  unfoldable pub write_tried : Told ℕ
  write_tried = tried (showable v m) DESK (tried (nat_le (length (page v m)) (length out)) ROOM (gives (length (page v m))))

  -- the page takes the first bytes; nothing else changes, and nothing at all if it was refused
  abbrev pub written : Told ℕ → List ℕ
  written (gives n) = page v m ++ drop n out
  written (refuses f) = out

-- what the answers of the code mean, and the number of a refusal in the table
abbrev pub write_refused : WriteRefusal → Refusal
write_refused Desk = DESK
write_refused Room = ROOM

abbrev pub write_told : Result ℕ WriteRefusal → Told ℕ
write_told (Ok n) = gives n
write_told (Err f) = refuses (write_refused f)

-- what is promised of writing a desk to an output
pub record PageWritten (v : Version) (m : Memory) (out : List ℕ) (answer : Result ℕ WriteRefusal) (out' : List ℕ) : Type 0 where
  pub told : write_told answer ≡ write_tried v m out
  pub bytes : out' ≡ written v m out (write_tried v m out)
