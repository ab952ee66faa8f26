-- `desk::opening::tried` meets its contract.
use mathlib.Core.Path.{refl, ◌∙◌}
use Rattle.desk.specs.Memory.{memory}
use Rattle.desk.proofs.Below.{not_came, not_left}
use Rattle.desk.proofs.OutcomeLaws.{open_off}
use Rattle.desk.proofs.JudgeLaws.{open_row}
use Rattle.desk.proofs.opening.tried.Goals as goal

pub returns-then-not-shows_desk : goal.returns-then-not-shows_desk
returns-then-not-shows_desk c =
    let a = c.args in
    open_off (memory a.desk a.row.now a.cells.now a.marks.now a.tally.now) a.frame.now (not_came c.shows_desk.ensures.desk c.if-not-shows_desk.true)

pub returns : goal.returns
returns c =
    let a = c.args in
    c.judged.ensures ∙ open_row a.desk a.row.now c.shows_desk.new.columns a.cells.now a.marks.now a.tally.now (c.shows_desk.ensures.shown (not_left refl c.if-not-shows_desk.false)) (not_left c.shows_desk.ensures.desk c.if-not-shows_desk.false) a.frame.now
