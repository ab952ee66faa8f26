-- `desk::opening::judged` meets its contract.
use mathlib.Core.Path.{sym, ap, ◌∙◌}
use Rattle.frames.specs.Kind.{read}
use Rattle.frames.specs.Request.{request}
use Rattle.desk.specs.Calls.{open_refused}
use Rattle.desk.specs.Key.{request_key}
use Rattle.desk.specs.inside.Judging.{column_asked}
use Rattle.desk.proofs.KeyLaws.{request_legal}
use Rattle.desk.proofs.ColumnLaws.{legal_keyed}
use Rattle.desk.proofs.JudgeLaws.{same_frame}
use Rattle.desk.proofs.OutcomeLaws.{given_on, handed_on}
use Rattle.desk.proofs.opening.judged.Goals as goal

pub returns-in_err-r : goal.returns-in_err-r
returns-in_err-r c =
    let a = c.args in
    handed_on open_refused _ _ (λ g e. ap open_refused e) _ c.from_residual.ensures.1 ∙ given_on (column_asked a.columns.now.keys a.bits) (c.in_err-r.ensures ∙ ap (read request) (same_frame a.frame.now))

pub request_judged-requires : goal.request_judged-requires
request_judged-requires c =
    let r = c.in_ok-r.r in
    let f = c.args.frame.now in
    (legal_keyed (request_key r) (request_legal f r (sym (c.in_ok-r.ensures ∙ ap (read request) (same_frame f))))).short

pub returns : goal.returns
returns c =
    let a = c.args in
    c.request_judged.ensures ∙ given_on (column_asked a.columns.now.keys a.bits) (c.in_ok-r.ensures ∙ ap (read request) (same_frame a.frame.now))
