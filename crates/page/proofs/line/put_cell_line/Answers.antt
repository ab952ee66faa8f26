-- `page::line::put_cell_line` meets its contract.
use Rattle.std.proofs.Common.{arith}
use Rattle.page.proofs.LineLaws.{put_cell_together}
use Rattle.page.proofs.line.put_cell_line.Goals as goal

pub returns : goal.returns
returns c =
    let a = c.args in
    put_cell_together a.out.now a.at _ _ a.seat a.frame.now _ _ _ _ _ (omega arith) c.seat_digit.ensures c.put_text-p.ensures c.put_text-p-2.ensures c.put_one.ensures
