-- `listing::line::put_row` meets its contract.
use native.Mathlib.Omega.{arith}
use Prim.Native.Nat.{ℕ}
use lib.ListN.{replicate, length-replicate}
use Rattle.text.proofs.PutLaws.{put_beyond}
use Rattle.text.proofs.DecimalLaws.{width_some}
use Rattle.listing.proofs.ColumnLaws.{row_whole, put_together}
use Rattle.listing.proofs.line.put_row.Goals as goal

pub overflow_add-width_of : goal.overflow_add-width_of
overflow_add-width_of c = let w = width_some c.args.seat in omega (arith, w.1, c.width_of.ensures)

pub returns-then-out-at : goal.returns-then-out-at
returns-then-out-at c =
    let a = c.args in
    let l = row_whole a.seat a.frame.now c.requires in
    put_beyond a.out.now a.at _ _ c.if-out-at.true (rw (l, ← c.width_of.ensures) c.place_after.ensures)

pub returns : goal.returns
returns c =
    let a = c.args in
    put_together a.seat a.frame.now (replicate 55 0) _ _ _ _ c.requires (length-replicate {A = ℕ} 55 0) a.out.now a.at _ _ _ _ (omega arith)
    c.put_columns-q.ensures c.put_one.ensures c.put_decimal-p.ensures c.put_text.ensures
