-- Reading records back: calls of `next_held`, one after the other, return a seat's records in order.
use Rattle.std.specs.Prelude.{ℕ, suc, List, [], ◌∷◌, true, ◌≡◌, Some, None}
use Rattle.desk.specs.Memory.{Memory, cell_at, records_of, held_by}
use Rattle.desk.specs.Desk.{is_desk}
use Rattle.desk.specs.Calls.{held_cells, next_held}

-- the cells that calls return, each call starting after the cell that the last one returned, until one returns None
pub data ReadBack (m : Memory) (s : ℕ) : ℕ → List (List ℕ) → Type 0 where
  over : {from : ℕ} → next_held m.count m.cells m.marks s from ≡ None → ReadBack m s from []
  tells : {from i : ℕ} {fs : List (List ℕ)} → next_held m.count m.cells m.marks s from ≡ Some i → ReadBack m s (suc i) fs → ReadBack m s from (cell_at m.cells i ∷ fs)

pub record ReadsBack : Type 0 where
  -- on a desk these are the records that the seat holds
  pub from_desk : (m : Memory) (s : ℕ) → is_desk m ≡ true → ReadBack m s 0 (held_by m s)
  -- memory that is not a desk is not refused: the calls return each cell that is counted and present and whose mark is s
  pub from_any : (m : Memory) (s : ℕ) → ReadBack m s 0 (records_of m.cells m.marks s (held_cells m.count m.cells m.marks))
