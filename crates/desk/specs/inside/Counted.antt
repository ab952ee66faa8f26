-- The tally during the test of a desk: each row takes one from a copy, and nothing may be left of it.
use Rattle.std.specs.Prelude.{ℕ, ◌+◌, ◌-◌, ◌<◌, List, [], Bool, ◌&&◌, ◌≡◌, length, get_or, set, eqb, ltb, cond, Option, Some, None}
use Rattle.frames.specs.Reply.{letters, is_letter, letter_place}
use Rattle.frames.specs.Status.{statuses, is_status, status_place}
use Rattle.desk.specs.Below.{all_below}
use Rattle.desk.specs.Memory.{cell_at}
use Rattle.desk.specs.Tally.{letter_count, status_count, Table, entry_at, entry_of, letter_at, status_at, held_of}
use Rattle.desk.specs.inside.Clauses.{row_taken}

-- where a letter and a status are counted
abbrev pub entry_found : ℕ → ℕ → Option (ℕ × ℕ)
entry_found letter status = cond (is_letter letter && is_status status) (Some (letter_place letter, status_place status)) None

-- one less at a letter and a status
abbrev pub uncounted : Table → ℕ → ℕ → Table
uncounted t letter status =
    set t (letter_place letter) (set (get_or t (letter_place letter) []) (status_place status) (entry_of t letter status - 1))

abbrev pub zero_at : Table → ℕ → ℕ → Bool
zero_at t i j = eqb (entry_at t i j) 0

abbrev pub row_clear : Table → ℕ → Bool
row_clear t i = zero_at t i 0 && zero_at t i 1 && zero_at t i 2

unfoldable pub is_clear : Table → Bool
is_clear t = all_below letter_count (row_clear t)

-- of the tally, one is left for row i after the rows before it
unfoldable pub row_counted : Table → List ℕ → ℕ → Bool
row_counted t cells i =
    ltb (held_of cells i (letter_at (cell_at cells i)) (status_at (cell_at cells i))) (entry_of t (letter_at (cell_at cells i)) (status_at (cell_at cells i)))

abbrev pub row_passes : List ℕ → Table → List ℕ → List ℕ → ℕ → Bool
row_passes keys t cells marks i = row_taken keys cells marks i && row_counted t cells i

-- a table of 33 rows of three numbers
pub record Whole (t : Table) : Type 0 where
  pub size : length t ≡ letter_count
  pub rows : (i : ℕ) → i < letter_count → length (get_or t i []) ≡ status_count

-- what the first n rows leave of a tally
pub record Leaves (t : Table) (cells : List ℕ) (n : ℕ) (left : Table) : Type 0 where
  pub whole : Whole left
  pub each : (i j : ℕ) → i < letter_count → j < status_count → entry_at left i j + held_of cells n (get_or letters i 0) (get_or statuses j 0) ≡ entry_at t i j
