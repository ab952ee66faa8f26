-- `page::line::put_last_line` meets its contract.
use Rattle.page.proofs.LineLaws.{put_last_together}
use Rattle.page.proofs.line.put_last_line.Goals as goal

pub returns : goal.returns
returns c =
    let a = c.args in
    put_last_together a.out.now a.at _ _ a.count a.sum _ _ c.put_number.ensures c.put_number-2.ensures c.put_text.ensures
