-- `desk::clauses::one_more` meets its contract.
use mathlib.Core.Bool.{Bool, true, cond, ◌&&◌}
use mathlib.Core.Path.{sym, ap, ap₂, ◌∙◌}
use lib.Dec.{eqb}
use Rattle.std.proofs.Common.{Some, None}
use Rattle.digits.specs.Told.{gives}
use Rattle.frames.specs.declared.reply.ReplyLabel.{ReplyLabel}
use Rattle.frames.specs.Reply.{label_at}
use Rattle.desk.specs.declared.step.Progress.{Progress}
use Rattle.desk.specs.inside.Columns.{key_number}
use Rattle.desk.specs.inside.Clauses.{turn_of}
use Rattle.desk.proofs.ClauseLaws.{taken_goes, some_if, turn_refused, turn_taken}
use Rattle.desk.proofs.ColumnLaws.{heard_keyed}
use Rattle.desk.proofs.HearingLaws.{good_heard}
use Rattle.desk.proofs.clauses.one_more.Goals as goal

pub returns-then-not-is_reply : goal.returns-then-not-is_reply
returns-then-not-is_reply c = let a = c.args in turn_refused a.p a.key a.cell.now (sym c.is_reply.ensures ∙ c.if-not-is_reply.true)

pub key_number-requires : goal.key_number-requires
key_number-requires c =
    let f = c.args.cell.now in
    let g = sym c.is_reply.ensures ∙ c.if-not-is_reply.false in
    rw (c.key_in.ensures, c.label_at-label.ensures) (heard_keyed f (label_at f) (good_heard f g)).short

pub returns : goal.returns
unfolding turn_of
returns c =
    let a = c.args in
    let l : ReplyLabel = c.label_at-label.result in
    let g = sym c.is_reply.ensures ∙ c.if-not-is_reply.false in
    let own = c.key_number.ensures ∙ ap key_number c.key_in.ensures in
    let takes = c.is_ok-takes.ensures.value ∙ taken_goes a.p true l.status c.step.result c.step.ensures in
    let turn = ap₂ (λ (b : Bool) (q : Progress). cond b (Some q) None) (ap₂ (λ (x y : Bool). x && y) (ap (eqb a.key) own) takes) c.advanced.ensures in
    turn_taken a.p a.key a.cell.now g
    (c.then_some.ensures ∙ some_if (eqb a.key c.key_number.result && c.is_ok-takes.result) c.advanced.result ∙ turn ∙ ap (λ (l : ReplyLabel). turn_of a.p a.key (gives l)) c.label_at-label.ensures)
