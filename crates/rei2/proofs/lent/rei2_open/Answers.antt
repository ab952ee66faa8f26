-- A row that does not have sixteen seats is no desk.
use Rattle.rei2.proofs.LentLaws.{no_opening}
use Rattle.rei2.proofs.lent.rei2_open.Goals as goal

pub returns-in_default : goal.returns-in_default
returns-in_default c =
    let a = c.args in
    rw (c.refused.ensures, c.plain.ensures) (no_opening a.seats.now a.desk c.in_default.ensures.1 a.cells.now a.marks.now a.tally.now a.frame.now)
