-- The seats as the code holds them during a call: a column of keys, one of records held, and one of `ended`.
use Rattle.std.specs.Prelude.{ℕ, ◌+◌, ◌*◌, ◌/◌, ◌%◌, ◌<◌, List, [], ◌∷◌, Bool, true, cond, ◌≡◌, eqb, ltb, length, get_or, Option, Some, None}
use Rattle.desk.specs.declared.state.Seat.{Seat}
use Rattle.desk.specs.declared.key.Key.{Key}
use Rattle.desk.specs.declared.step.Progress.{Progress}
use Rattle.desk.specs.Limits.{seat_count}
use Rattle.desk.specs.Below.{count_below}

-- a key whose parts fit into one number
pub record Short (k : Key) : Type 0 where
  pub address : k.address < 128
  pub requester : k.requester < 256
  pub number : k.number < 100000

-- a key as one number
abbrev pub key_number : Key → ℕ
key_number k = (k.address * 256 + k.requester) * 100000 + k.number

-- the seat that three numbers show; its key is the one of the first number
abbrev pub seat_of : ℕ → ℕ → ℕ → Seat
seat_of key held ended = record { address = key / 100000 / 256; requester = key / 100000 % 256; number = key % 100000; held = held; ended = ended }

-- the row that the columns show
unfoldable pub row_of : List ℕ → List ℕ → List ℕ → List Seat
row_of [] held ended = []
row_of (k ∷ keys) [] ended = []
row_of (k ∷ keys) (h ∷ held) [] = []
row_of (k ∷ keys) (h ∷ held) (e ∷ ended) = seat_of k h e ∷ row_of keys held ended

-- each column has a number for every seat
pub record Sized (keys held ended : List ℕ) : Type 0 where
  pub all_keys : length keys ≡ seat_count
  pub all_held : length held ≡ seat_count
  pub all_ended : length ended ≡ seat_count

-- how far the request at a seat has come
abbrev pub progress_at : List ℕ → List ℕ → ℕ → Progress
progress_at held ended i = record { held = get_or held i 0; ended = get_or ended i 0 }

-- ---- tests of a column

-- the seat that a search found, if it found one
abbrev pub found_seat : ℕ → Option ℕ
found_seat n = cond (ltb n seat_count) (Some n) None

abbrev pub key_is : List ℕ → ℕ → ℕ → Bool
key_is keys key i = eqb (get_or keys i 0) key

-- no key, or a key that is at one seat only
abbrev pub is_alone : List ℕ → ℕ → Bool
is_alone keys key = cond (eqb key 0) true (eqb (count_below seat_count (key_is keys key)) 1)

abbrev pub alone : List ℕ → ℕ → Bool
alone keys i = is_alone keys (get_or keys i 0)

abbrev pub same_at : List ℕ → List ℕ → ℕ → Bool
same_at a b i = eqb (get_or a i 0) (get_or b i 0)
