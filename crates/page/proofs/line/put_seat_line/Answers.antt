-- `page::line::put_seat_line` meets its contract.
use Rattle.page.proofs.LineLaws.{put_seat_together}
use Rattle.page.proofs.line.put_seat_line.Goals as goal

pub returns : goal.returns
returns c =
    let a = c.args in
    put_seat_together a.out.now a.at _ _ a.seat a.k a.ended _ _ _ c.seat_digit.ensures c.address_shown.ensures c.put_number.ensures c.put_text.ensures
