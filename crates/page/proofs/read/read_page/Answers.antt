-- `page::read::read_page` meets its contract: no page, no room, or the desk that writes the text.
use Rattle.std.proofs.Common.{refl, arith, rules}
use Rattle.desk.specs.Memory.{memory}
use Rattle.page.proofs.DoneLaws.{fits_in, done_page, done_room, has_room_law, done_read}
use Rattle.page.proofs.read.read_page.Goals as goal

pub returns-in-Err : goal.returns-in-Err
returns-in-Err c = done_page _ _ c.in-Err.ensures _

pub returns-then-cells-count : goal.returns-then-cells-count
returns-then-cells-count c = done_room _ _ c.in-Ok.ensures _ (search rules) c.if-cells-count.true

pub store-requires : goal.store-requires
store-requires c =
    let a = c.args in
    let h = fits_in _ _ c.in-Ok.ensures in
    let r = has_room_law _ _ c.in-Ok.ensures (memory a.desk a.row a.cells.now a.marks.now a.tally.now) (search rules) c.if-cells-count.false in
    (omega arith, (r.cells, r.marks))

pub returns : goal.returns
returns c =
    let a = c.args in
    let s = c.store.ensures in
    done_read _ _ c.in-Ok.ensures (memory a.desk a.row a.cells.now a.marks.now a.tally.now) (search rules) c.if-cells-count.false _ _ _ _ refl s.0 s.1.0 s.1.1
