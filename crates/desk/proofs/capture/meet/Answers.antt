-- `desk::capture::meet` meets its contract.
use mathlib.Core.Path.{refl, sym, ◌∙◌}
use Rattle.desk.specs.Memory.{memory}
use Rattle.desk.specs.inside.Shown.{shown}
use Rattle.desk.proofs.CaptureLaws.{meets_request, meets_reply, meets_other}
use Rattle.desk.proofs.capture.meet.Goals as goal

pub returns-then-lead-eq-REQUEST_LEAD : goal.returns-then-lead-eq-REQUEST_LEAD
returns-then-lead-eq-REQUEST_LEAD c =
    let a = c.args in
    let m = memory a.desk.now (shown a.columns.now) a.cells.now a.marks.now a.tally.now in
    meets_request m a.frame.now _ _ (sym c.byte_at-lead.ensures ∙ c.if-lead-eq-REQUEST_LEAD.true) (c.meet_request.ensures a.cells.now a.marks.now a.tally.now c.requires)

pub returns-then-lead-eq-REPLY_LEAD : goal.returns-then-lead-eq-REPLY_LEAD
returns-then-lead-eq-REPLY_LEAD c =
    let a = c.args in
    let m = memory a.desk.now (shown a.columns.now) a.cells.now a.marks.now a.tally.now in
    meets_reply m a.frame.now _ _ (λ e. c.if-lead-eq-REQUEST_LEAD.false (c.byte_at-lead.ensures ∙ e)) (sym c.byte_at-lead.ensures ∙ c.if-lead-eq-REPLY_LEAD.true) c.meet_reply.ensures

pub returns : goal.returns
returns c =
    let a = c.args in
    let m = memory a.desk.now (shown a.columns.now) a.cells.now a.marks.now a.tally.now in
    meets_other m a.frame.now _ _ (λ e. c.if-lead-eq-REQUEST_LEAD.false (c.byte_at-lead.ensures ∙ e)) (λ e. c.if-lead-eq-REPLY_LEAD.false (c.byte_at-lead.ensures ∙ e)) c.dynamic_fate.ensures refl

pub meet_request-requires : goal.meet_request-requires
meet_request-requires c = let a = c.args in record { cells = a.cells.now; marks = a.marks.now; tally = a.tally.now; desk = c.requires }
