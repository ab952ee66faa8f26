-- A row that does not have sixteen seats is no desk; otherwise it is the call by value, stored back.
use Rattle.rei2.proofs.LentLaws.{reset_is, no_reset}
use Rattle.rei2.proofs.lent.rei2_reset.Goals as goal
use Rattle.rei2.proofs.lent.rei2_reset.Goals.{then-seats-eq-SEATS, else-seats-eq-SEATS}

pub returns : goal.returns
returns c =
    let a = c.args in
    elim c.if-seats-eq-SEATS.branch [
      | then-seats-eq-SEATS w ↦
          rw (w.seats-is, w.tally-is, w.refusal-is, w.copy_from_slice.ensures.after)
          (reset_is a.seats.now a.desk a.tally.now w.reset-emptied.result _ w.if-seats-eq-SEATS.true w.reset-emptied.ensures)
      | else-seats-eq-SEATS w ↦ rw (w.seats-is, w.tally-is, w.refusal-is) (no_reset a.seats.now a.desk w.if-seats-eq-SEATS.false a.tally.now)
    ]
