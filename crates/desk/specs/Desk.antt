-- What makes a desk: a definition for each of the eleven clauses, all of them in the paper's order, and then the tally.
use Rattle.std.specs.Prelude.{ℕ, zero, suc, ◌^◌, List, Bool, true, cond, not, ◌&&◌, length, eqb, leb, ltb}
use Rattle.frames.specs.Status.{is_z}
use Rattle.desk.specs.declared.state.Seat.{Seat}
use Rattle.desk.specs.Limits.{seat_count}
use Rattle.desk.specs.Below.{all_below, count_below}
use Rattle.desk.specs.Key.{seat_key, is_key}
use Rattle.desk.specs.Hearing.{heard, has_key, status_in, ended_in}
use Rattle.desk.specs.Seats.{seat_at, used_bit, keyed_at}
use Rattle.desk.specs.Memory.{Memory, capacity, cell_at, mark_at}
use Rattle.desk.specs.Tally.{tally_right}

-- clause 3: seat i, if used, has a key that a static request can have
abbrev pub key_legal : List Seat → ℕ → ℕ → Bool
key_legal row bits i = cond (used_bit bits i) (is_key (seat_key (seat_at row i))) true

-- clause 4: seats i and j, if both are used, do not share a key
abbrev pub apart_at : List Seat → ℕ → ℕ → ℕ → Bool
apart_at row bits i j = cond (used_bit bits i) (not (keyed_at row bits (seat_key (seat_at row i)) j)) true

abbrev pub apart_below : List Seat → ℕ → ℕ → Bool
apart_below row bits i = all_below i (apart_at row bits i)

unfoldable pub is_zero : Seat → Bool
is_zero s = eqb s.address 0 && eqb s.requester 0 && eqb s.number 0 && eqb s.held 0 && eqb s.ended 0

-- clause 5: seat i, if unused, is all zero
abbrev pub unused_zero : List Seat → ℕ → ℕ → Bool
unused_zero row bits i = cond (used_bit bits i) true (is_zero (seat_at row i))

-- clause 7: a mark names a used seat
unfoldable pub mark_names : ℕ → ℕ → Bool
mark_names bits mark = ltb mark seat_count && used_bit bits mark

abbrev pub mark_good : ℕ → List ℕ → ℕ → Bool
mark_good bits marks i = mark_names bits (mark_at marks i)

-- clause 8: cell i is a well formed reply with the key of the seat that its mark names
abbrev pub cell_keyed : List Seat → List ℕ → List ℕ → ℕ → Bool
cell_keyed row cells marks i = has_key (seat_key (seat_at row (mark_at marks i))) (heard (cell_at cells i))

-- how many of the first n marks name seat s
abbrev pub named : List ℕ → ℕ → ℕ → ℕ
named marks s n = count_below n (λ i. eqb (mark_at marks i) s)

-- clause 9: seat s, if used, holds as many records as marks below the count name it
abbrev pub held_right : List Seat → ℕ → ℕ → List ℕ → ℕ → Bool
held_right row bits count marks s = cond (used_bit bits s) (eqb (seat_at row s).held (named marks s count)) true

-- clause 10: of two cells j < i of one seat the earlier is neither E nor Z, and the later is no Z
abbrev pub placed_after : List ℕ → List ℕ → ℕ → ℕ → Bool
placed_after cells marks i j =
    cond (eqb (mark_at marks j) (mark_at marks i))
    (eqb (ended_in (heard (cell_at cells j))) 0 && not (is_z (status_in (heard (cell_at cells i)))))
    true

abbrev pub placed : List ℕ → List ℕ → ℕ → Bool
placed cells marks i = all_below i (placed_after cells marks i)

-- 1 if the last cell of seat s among the first n cells is E or Z, otherwise 0
unfoldable pub last_ends : List ℕ → List ℕ → ℕ → ℕ → ℕ
last_ends cells marks s zero = 0
last_ends cells marks s (suc n) = cond (eqb (mark_at marks n) s) (ended_in (heard (cell_at cells n))) (last_ends cells marks s n)

-- clause 11: seat s, if used, has ended (1) if its last cell is E or Z, and otherwise not (0)
abbrev pub ended_right : List Seat → ℕ → ℕ → List ℕ → List ℕ → ℕ → Bool
ended_right row bits count cells marks s = cond (used_bit bits s) (eqb (seat_at row s).ended (last_ends cells marks s count)) true

module _ (m : Memory) where
  -- clause 1: there are sixteen seats
  abbrev pub all_seats : Bool
  all_seats = eqb (length m.row) seat_count

  -- clause 2: no bit above them is set
  abbrev pub no_bit_above : Bool
  no_bit_above = ltb m.bits (2 ^ seat_count)

  abbrev pub keys_legal : Bool
  keys_legal = all_below seat_count (key_legal m.row m.bits)

  abbrev pub no_key_shared : Bool
  no_key_shared = all_below seat_count (apart_below m.row m.bits)

  abbrev pub unused_all_zero : Bool
  unused_all_zero = all_below seat_count (unused_zero m.row m.bits)

  -- clause 6: the count is at most the capacity
  abbrev pub count_fits : Bool
  count_fits = leb m.count (capacity m)

  abbrev pub marks_name : Bool
  marks_name = all_below m.count (mark_good m.bits m.marks)

  abbrev pub cells_are_replies : Bool
  cells_are_replies = all_below m.count (cell_keyed m.row m.cells m.marks)

  abbrev pub held_is_named : Bool
  held_is_named = all_below seat_count (held_right m.row m.bits m.count m.marks)

  abbrev pub ends_last : Bool
  ends_last = all_below m.count (placed m.cells m.marks)

  abbrev pub ended_is_last : Bool
  ended_is_last = all_below seat_count (ended_right m.row m.bits m.count m.cells m.marks)

  -- clause 12: each number of the tally is how many cells below the count have its letter and status
  abbrev pub tally_is_count : Bool
  tally_is_count = tally_right m.cells m.count m.tally

  unfoldable pub is_desk : Bool
  is_desk =
      all_seats
      && no_bit_above
      && keys_legal
      && no_key_shared
      && unused_all_zero
      && count_fits
      && marks_name
      && cells_are_replies
      && held_is_named
      && ends_last
      && ended_is_last
      && tally_is_count
