-- A list has as many rows as it reports replies collected: each held cell is one row, for the seat that its mark names. Assumes nothing.
use Prim.Native.Nat.{ℕ, zero, suc, ◌+◌}
use mathlib.Core.Path.{◌≡◌, refl, ap, ◌∙◌}
use native.Mathlib.Omega.{arith}
use lib.ListN.{length}
use Rattle.finder.specs.Pieces.{pieces}
use Rattle.desk.specs.Limits.{seat_count}
use Rattle.desk.specs.Memory.{Memory, held_by}
use Rattle.desk.proofs.ReplayLaws.{desk_facts}
use Rattle.desk.proofs.SumLaws.{sum, all_records}
use Rattle.desk.proofs.LeavesLaws.{all_desk}
use Rattle.desk.proofs.CellLaws.{all_cells}
use Rattle.listing.specs.Listing.{store, after, counts}
use Rattle.listing.specs.Sizes.{rows_in, RowsAreCollected}
use Rattle.listing.proofs.StoreLaws.{store_desk}

rows_sum : (m : Memory) (n : ℕ) → rows_in m n ≡ sum n (λ k. length (held_by m k))
unfolding rows_in sum
rows_sum m zero = refl
rows_sum m (suc n) = ap (λ (x : ℕ). x + length (held_by m n)) (rows_sum m n)

pub rows_are_collected : RowsAreCollected
rows_are_collected cells marks s =
    let m = after cells marks s in
    let facts = desk_facts m (all_desk (store cells marks) (pieces s) (store_desk cells marks s)) in
    let rows : rows_in m seat_count ≡ m.count = rows_sum m seat_count ∙ all_records m facts in
    let held : m.count ≡ 0 + (counts cells marks s).collected = all_cells (store cells marks) (pieces s) in
    omega (arith, rows, held)
