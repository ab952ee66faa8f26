-- `listing::take` meets its contract.
use Rattle.listing.proofs.ListLaws.{taken_as, never_no_desk}
use mathlib.Core.Path.{refl}
use Rattle.listing.proofs.take.Goals as goal

pub returns-in-Ok : goal.returns-in-Ok
returns-in-Ok c =
    let a = c.args in
    let r = c.reset-e.ensures in
    let k = rw (r.empty, r.zero) at c.take_capture-d.ensures in
    taken_as a.cells.now a.marks.now a.capture.now _ _ (rw c.in-Ok.is at k) refl

pub returns-in-Err : goal.returns-in-Err
returns-in-Err c =
    let a = c.args in
    let r = c.reset-e.ensures in
    let k = rw (r.empty, r.zero) at c.take_capture-d.ensures in
    never_no_desk a.cells.now a.marks.now a.capture.now _ _ (rw c.in-Err.is at k)
