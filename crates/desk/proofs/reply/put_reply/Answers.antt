-- `desk::reply::put_reply` meets its contract.
use Prim.Native.Nat.{◌*◌}
use mathlib.Core.Path.{refl, ◌∙◌}
use Rattle.desk.specs.Limits.{cell_size}
use Rattle.desk.proofs.WrittenLaws.{with_cell_law}
use Rattle.desk.proofs.reply.put_reply.Goals as goal

pub returns : goal.returns
returns c =
    let a = c.args in
    let p = c.requires in
    record { bits = refl; count = refl; cells = c.put_all.ensures ∙ with_cell_law a.cells.now (a.desk.count * cell_size) a.frame.now p.cell p.frame; marks = refl }
