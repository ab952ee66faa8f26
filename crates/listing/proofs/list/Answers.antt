-- `listing::list` meets its contract.
use lib.ListN.{replicate, length-replicate}
use Rattle.listing.proofs.ListLaws.{taken_fits, cells_back, marks_back, listed_room, listed_written, listed_long}
use Prim.Native.Nat.{ℕ}
use native.Mathlib.Omega.{arith}
use Rattle.desk.specs.Limits.{most_cells, store_size}
use Rattle.listing.proofs.list.Goals as goal

pub returns-then-capture-gt-MOST_INPUT : goal.returns-then-capture-gt-MOST_INPUT
returns-then-capture-gt-MOST_INPUT c = let a = c.args in listed_long a.cells.now a.marks.now a.capture.now a.out.now _ _ c.if-capture-gt-MOST_INPUT.true c.write_all.ensures

pub put_list-size-requires : goal.put_list-size-requires
put_list-size-requires c = let a = c.args in taken_fits a.cells.now a.marks.now a.capture.now _ _ _ c.take-t.ensures

pub returns-then-out-size : goal.returns-then-out-size
returns-then-out-size c =
    let a = c.args in
    let k = c.take-t.ensures in
    listed_room a.cells.now a.marks.now a.capture.now c.if-capture-gt-MOST_INPUT.false a.out.now _ _ _ _ _ _ _ _ k c.put_list-size.ensures c.if-out-size.true
    (cells_back a.cells.now a.marks.now a.capture.now _ _ _ k (replicate store_size 0) _ _ (length-replicate {A = ℕ} store_size 0) c.put_all.ensures c.put_all-then-out-size.ensures)
    (marks_back a.cells.now a.marks.now a.capture.now _ _ _ k (replicate most_cells 0) _ _ (length-replicate {A = ℕ} most_cells 0) c.put_all-2.ensures c.put_all-then-out-size-2.ensures)

pub put_list-requires : goal.put_list-requires
put_list-requires c = let a = c.args in taken_fits a.cells.now a.marks.now a.capture.now _ _ _ c.take-t.ensures

pub returns : goal.returns
returns c =
    let a = c.args in
    listed_written a.cells.now a.marks.now a.capture.now c.if-capture-gt-MOST_INPUT.false a.out.now _ _ _ _ _ _ _ _ (omega arith) c.take-t.ensures c.put_list-size.ensures c.if-out-size.false c.put_list.ensures
