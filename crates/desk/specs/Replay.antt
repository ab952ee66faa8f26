-- The rows of a desk can be replayed: its held cells, in the order of the store, are replies that their seats take one after the other, and each used seat is where they bring it.
use Rattle.std.specs.Prelude.{ℕ, List, Bool, true, cond, ◌&&◌, ◌≡◌, eqb}
use Rattle.desk.specs.declared.state.Seat.{Seat}
use Rattle.desk.specs.declared.step.Progress.{Progress}
use Rattle.desk.specs.Limits.{seat_count}
use Rattle.desk.specs.Below.{all_below}
use Rattle.desk.specs.Hearing.{heard, status_in}
use Rattle.desk.specs.Step.{none, replay, goes, step}
use Rattle.desk.specs.Seats.{seat_at, used_bit}
use Rattle.desk.specs.Memory.{Memory, cell_at, mark_at, records_of}
use Rattle.desk.specs.Desk.{mark_good, cell_keyed, marks_name, cells_are_replies, held_is_named, ends_last, ended_is_last}

-- how far the first n rows bring the request at seat s
abbrev pub replayed : List ℕ → List ℕ → ℕ → ℕ → Progress
replayed cells marks s n = replay none (records_of cells marks s n)

-- the seat that its mark names takes row i, after the rows before it
abbrev pub taken_at : List ℕ → List ℕ → ℕ → Bool
taken_at cells marks i = goes (step (replayed cells marks (mark_at marks i) i) true (status_in (heard (cell_at cells i))))

-- row i: its mark names a used seat, its cell is a reply with that seat's key, and the seat takes it
abbrev pub row_good : List Seat → ℕ → List ℕ → List ℕ → ℕ → Bool
row_good row bits cells marks i = mark_good bits marks i && (cell_keyed row cells marks i && taken_at cells marks i)

-- a used seat is where the rows bring it
unfoldable pub agrees : Progress → Seat → ℕ → ℕ → Bool
agrees p seat bits s = cond (used_bit bits s) (eqb seat.held p.held && eqb seat.ended p.ended) true

unfoldable pub replays : List Seat → ℕ → ℕ → List ℕ → List ℕ → Bool
replays row bits count cells marks =
    all_below count (row_good row bits cells marks)
    && all_below seat_count (λ s. agrees (replayed cells marks s count) (seat_at row s) bits s)

-- clauses 7 to 11 of a desk are this replay
abbrev pub DeskIsReplay : Type 0
DeskIsReplay = (m : Memory) → marks_name m && cells_are_replies m && held_is_named m && ends_last m && ended_is_last m ≡ replays m.row m.bits m.count m.cells m.marks
