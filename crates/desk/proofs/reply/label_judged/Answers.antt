-- `desk::reply::label_judged` meets its contract.
use mathlib.Core.Path.{ap, ◌∙◌}
use borrow.Author.Tests.{ltb-true}
use native.Mathlib.Omega.{arith}
use Rattle.desk.specs.Limits.{seat_count}
use Rattle.desk.specs.inside.Columns.{key_number}
use Rattle.desk.specs.inside.Judging.{step_tried, column_tried}
use Rattle.desk.specs.Calls.{reply_refused}
use Rattle.desk.proofs.ColumnLaws.{found_some, found_none}
use Rattle.desk.proofs.OutcomeLaws.{handed_on, of_step_told}
use Rattle.desk.proofs.reply.label_judged.Goals as goal

pub key_number-requires : goal.key_number-requires
key_number-requires c = rw c.key_in.ensures c.requires

pub returns-in_default : goal.returns-in_default
unfolding column_tried
returns-in_default c =
    let a = c.args in
    rw (found_none a.columns.now.keys _ c.find.ensures (c.key_number.ensures ∙ ap key_number c.key_in.ensures) c.in_default.is)

pub progress-requires : goal.progress-requires
progress-requires c =
    let a = c.args in
    let f = found_some a.columns.now.keys _ c.find.ensures (c.key_number.ensures ∙ ap key_number c.key_in.ensures) c.in-Some.seat c.in-Some.is in
    let l = ltb-true _ seat_count f.1 in
    let q = f.0 in
    omega (arith, l, q)

pub returns-in_err-step : goal.returns-in_err-step
unfolding column_tried step_tried
returns-in_err-step c =
    let a = c.args in
    let f = found_some a.columns.now.keys _ c.find.ensures (c.key_number.ensures ∙ ap key_number c.key_in.ensures) c.in-Some.seat c.in-Some.is in
    rw (f.1, f.0, ← c.progress.ensures, ← c.in_err-step.ensures) (handed_on reply_refused _ _ (λ g e. ap reply_refused e ∙ of_step_told _) _ c.from_residual.ensures.1)

pub returns : goal.returns
unfolding column_tried step_tried
returns c =
    let a = c.args in
    let f = found_some a.columns.now.keys _ c.find.ensures (c.key_number.ensures ∙ ap key_number c.key_in.ensures) c.in-Some.seat c.in-Some.is in
    rw (f.1, f.0, ← c.progress.ensures, ← c.in_ok-step.ensures)
