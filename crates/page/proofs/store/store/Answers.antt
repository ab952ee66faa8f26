-- `page::store::store` meets its contract.
use Rattle.std.proofs.Common.{refl, ap, ◌∙◌, arith}
use Rattle.page.specs.inside.Tokens.{value_of}
use Rattle.page.proofs.TurnLaws.{frame_here, cells_more, marks_more, tally_more}
use Rattle.page.proofs.store.store.Goals as goal

pub loop-j-preserved : goal.loop-j-preserved
loop-j-preserved c =
    let a = c.args in
    let l = c.loop-j in
    let i = l.invariant in
    let text = a.text.now in
    let e = c.framed-frame.ensures ∙ frame_here text a.from l.j _ refl in
    record {
      cells_are = cells_more text a.from l.j _ e a.cells.now l.cells _ _ (omega arith) c.copy_from_slice.ensures.after i.cells_are (omega (arith, c.requires));
      marks_are = marks_more text a.from l.j a.marks.now l.marks _ i.marks_are (c.unwrap_or.ensures ∙ ap value_of c.seat_value.ensures.named);
      tally_is = c.count.ensures ∙ tally_more text a.from l.j _ e l.tally i.tally_is;
    }
