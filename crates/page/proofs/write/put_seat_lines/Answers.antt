-- `page::write::put_seat_lines` meets its contract.
use Rattle.std.proofs.Common.{arith}
use Rattle.page.proofs.RowLaws.{seats_more}
use Rattle.page.proofs.write.put_seat_lines.Goals as goal

pub loop-s-preserved : goal.loop-s-preserved
loop-s-preserved c =
    let a = c.args in
    let l = c.loop-s in
    seats_more a.out.now a.at l.p _ _ _ (omega arith) _ a.bits l.s l.invariant c.put_used-p.ensures
