-- `page::store::store` meets its contract.
use Rattle.std.proofs.Common.{◌≡◌, ℕ, List}
use Rattle.desk.specs.Tally.{Table}
use Rattle.page.specs.inside.Stored.{stored_cells, stored_marks, stored_tally}
use Rattle.page.proofs.store.store.Given as goal

-- what the first j lines store
pub record StoredTo (text : List ℕ) (from : ℕ) (cells₀ marks₀ cells marks : List ℕ) (tally : Table) (j : ℕ) : Type 0 where
  pub cells_are : cells ≡ stored_cells text from cells₀ j
  pub marks_are : marks ≡ stored_marks text from marks₀ j
  pub tally_is : tally ≡ stored_tally text from j

abbrev pub invariant-loop-j : goal.invariant-loop-j
invariant-loop-j l = StoredTo l.text l.from l.initial.cells l.initial.marks l.cells l.marks l.tally l.j
