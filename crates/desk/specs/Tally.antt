-- The tally: how many records are held, for each letter of a reply and each status; and a look at it.
use Rattle.std.specs.Prelude.{ℕ, ◌+◌, List, [], Bool, cond, ◌&&◌, ◌≡◌, length, get_or, set, replicate, eqb, ltb, Result, Ok, Err}
use Rattle.digits.specs.declared.refusal.Refusal.{Refusal}
use Rattle.digits.specs.Refusals.{NO_SUCH}
use Rattle.digits.specs.Told.{Told, gives, refuses, tried}
use Rattle.frames.specs.Reply.{letters, is_letter, letter_place}
use Rattle.frames.specs.Status.{statuses, is_status, status_place}
use Rattle.desk.specs.declared.tally.LookRefusal.{LookRefusal}
use Rattle.desk.specs.declared.tally.LookRefusal.TheVariants.{NoSuch}
use Rattle.desk.specs.Below.{all_below, count_below}
use Rattle.desk.specs.Memory.{cell_at}

-- a row for each of the 33 letters, and in it a number for each of the three statuses
abbrev pub letter_count : ℕ
letter_count = 33

abbrev pub status_count : ℕ
status_count = 3

abbrev pub Table : Type 0
Table = List (List ℕ)

abbrev pub entry_at : Table → ℕ → ℕ → ℕ
entry_at t i j = get_or (get_or t i []) j 0

abbrev pub entry_of : Table → ℕ → ℕ → ℕ
entry_of t letter status = entry_at t (letter_place letter) (status_place status)

abbrev pub empty_tally : Table
empty_tally = replicate letter_count (replicate status_count 0)

-- one more at a letter and a status
abbrev pub counted : Table → ℕ → ℕ → Table
counted t letter status =
    set t (letter_place letter) (set (get_or t (letter_place letter) []) (status_place status) (entry_of t letter status + 1))

-- the same for any letter and status: nothing is counted without a place for it, or beyond the largest number of 32 bits
unfoldable pub counted_in : Table → ℕ → ℕ → Table
counted_in t letter status = cond (is_letter letter && is_status status && ltb (entry_of t letter status) 4294967295) (counted t letter status) t

-- ---- the count over the cells held

-- the letter and the status of a reply
abbrev pub letter_at : List ℕ → ℕ
letter_at f = get_or f 29 0

abbrev pub status_at : List ℕ → ℕ
status_at f = get_or f 5 0

abbrev pub is_of : ℕ → ℕ → List ℕ → Bool
is_of letter status f = eqb (letter_at f) letter && eqb (status_at f) status

-- how many of the first n cells have this letter and this status
unfoldable pub held_of : List ℕ → ℕ → ℕ → ℕ → ℕ
held_of cells n letter status = count_below n (λ i. is_of letter status (cell_at cells i))

-- row i of the tally has three numbers, and each is the count for its letter and status
unfoldable pub entry_right : List ℕ → ℕ → Table → ℕ → ℕ → Bool
entry_right cells n t i j = eqb (entry_at t i j) (held_of cells n (get_or letters i 0) (get_or statuses j 0))

abbrev pub row_right : List ℕ → ℕ → Table → ℕ → Bool
row_right cells n t i = eqb (length (get_or t i [])) status_count && all_below status_count (entry_right cells n t i)

-- the tally has 33 rows, and they are right
unfoldable pub tally_right : List ℕ → ℕ → Table → Bool
tally_right cells n t = eqb (length t) letter_count && all_below letter_count (row_right cells n t)

-- ---- a look

-- NO SUCH if the letter is not one of the 33 or the status is not one of the three; nothing else is tested
unfoldable pub looks : Table → ℕ → ℕ → Told ℕ
looks t letter status = tried (is_letter letter && is_status status) NO_SUCH (gives (entry_of t letter status))

abbrev pub look_refused : LookRefusal → Refusal
look_refused NoSuch = NO_SUCH

abbrev pub look_told : Result ℕ LookRefusal → Told ℕ
look_told (Ok n) = gives n
look_told (Err f) = refuses (look_refused f)

-- what is promised of a look
abbrev pub LookAs : Table → ℕ → ℕ → Result ℕ LookRefusal → Type 0
LookAs t letter status r = look_told r ≡ looks t letter status
