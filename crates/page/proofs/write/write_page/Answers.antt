-- `page::write::write_page` meets its contract.
use Rattle.std.proofs.Common.{arith}
use Rattle.desk.proofs.Below.{not_came, not_left}
use Rattle.page.proofs.WriteLaws.{no_desk_case, no_room, seats_fit, cells_fit, within, written_page}
use Rattle.page.proofs.write.write_page.Goals as goal

pub returns-then-not-makes_desk : goal.returns-then-not-makes_desk
returns-then-not-makes_desk c = no_desk_case _ _ (not_came c.makes_desk.ensures c.if-not-makes_desk.true)

pub returns-then-out-size : goal.returns-then-out-size
returns-then-out-size c =
    no_room _ _ (not_left c.makes_desk.ensures c.if-not-makes_desk.false) _ (omega (arith, c.seats_in_use-seats.ensures)) c.if-out-size.true

pub put_seat_lines-p-requires : goal.put_seat_lines-p-requires
put_seat_lines-p-requires c = seats_fit _ c.args.out.now (not_left c.makes_desk.ensures c.if-not-makes_desk.false)

pub put_cell_lines-p-requires : goal.put_cell_lines-p-requires
put_cell_lines-p-requires c = cells_fit _ c.args.out.now (not_left c.makes_desk.ensures c.if-not-makes_desk.false)

pub slice_bounds-page_sum-end : goal.slice_bounds-page_sum-end
slice_bounds-page_sum-end c =
    let l = within _ c.args.out.now (not_left c.makes_desk.ensures c.if-not-makes_desk.false) (omega arith) _ (omega (arith, c.seats_in_use-seats.ensures)) c.if-out-size.false _ _ _ _ _ _
    c.put_text-p.ensures c.put_seat_lines-p.ensures c.put_cell_lines-p.ensures in
    omega (arith, l, c.put_cell_lines-p.auto.out, c.put_seat_lines-p.auto.out, c.put_text-p.auto.out)

pub returns : goal.returns
returns c =
    written_page _ c.args.out.now (not_left c.makes_desk.ensures c.if-not-makes_desk.false) (omega arith) _ (omega (arith, c.seats_in_use-seats.ensures)) c.if-out-size.false _ _ _ _ _ _
    c.put_text-p.ensures c.put_seat_lines-p.ensures c.put_cell_lines-p.ensures
    _ _ _ c.page_sum-sum.ensures c.put_last_line.ensures
