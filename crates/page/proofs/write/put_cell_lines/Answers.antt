-- `page::write::put_cell_lines` meets its contract.
use Rattle.std.proofs.Common.{arith, rules}
use Rattle.desk.proofs.ClauseLaws.{part_cell}
use Rattle.page.proofs.RowLaws.{cell_long, cells_more}
use Rattle.page.proofs.write.put_cell_lines.Goals as goal

pub overflow_cast-marks : goal.overflow_cast-marks
overflow_cast-marks c = let h = c.requires.seats c.loop-j.j (search rules) in omega (arith, h)

pub put_cell_line-p-requires : goal.put_cell_line-p-requires
put_cell_line-p-requires c =
    let l = c.loop-j in
    (c.requires.seats l.j (search rules), rw (part_cell c.args.cells.now l.j) (cell_long c.args.cells.now l.j (omega (arith, c.requires))))

pub loop-j-preserved : goal.loop-j-preserved
loop-j-preserved c =
    let a = c.args in
    let l = c.loop-j in
    cells_more a.out.now a.at l.p _ _ _ (omega arith) a.cells.now a.marks.now l.j l.invariant c.put_cell_line-p.ensures
