-- `desk::reply::judged` meets its contract.
use mathlib.Core.Path.{◌≡◌, sym, ap, ◌∙◌}
use mathlib.Core.List.{List}
use Prim.Native.Nat.{ℕ}
use Rattle.frames.specs.Kind.{read}
use Rattle.frames.specs.Reply.{reply, is_good, label_at, labelled}
use Rattle.desk.specs.Calls.{reply_refused}
use Rattle.desk.specs.Hearing.{heard}
use Rattle.desk.specs.inside.Judging.{column_tried}
use Rattle.desk.proofs.HearingLaws.{good_heard, bad_heard}
use Rattle.desk.proofs.ColumnLaws.{heard_keyed}
use Rattle.desk.proofs.JudgeLaws.{same_frame}
use Rattle.desk.proofs.OutcomeLaws.{given_on, handed_on}
use Rattle.desk.proofs.reply.judged.Goals as goal

pub label_judged-requires : goal.label_judged-requires
label_judged-requires c =
    let good : c.is_reply.result ≡ is_good (read reply c.args.frame.now) = c.is_reply.ensures ∙ ap (λ (s : List ℕ). is_good (read reply s)) (same_frame c.args.frame.now) in
    let label : c.label_at.result ≡ label_at c.args.frame.now = c.label_at.ensures ∙ ap label_at (same_frame c.args.frame.now) in
    let f = c.args.frame.now in
    let g = sym (good) ∙ c.if-is_reply.true in
    rw (label) (heard_keyed f (label_at f) (good_heard f g)).short

pub returns-then-is_reply : goal.returns-then-is_reply
returns-then-is_reply c =
    let good : c.is_reply.result ≡ is_good (read reply c.args.frame.now) = c.is_reply.ensures ∙ ap (λ (s : List ℕ). is_good (read reply s)) (same_frame c.args.frame.now) in
    let label : c.label_at.result ≡ label_at c.args.frame.now = c.label_at.ensures ∙ ap label_at (same_frame c.args.frame.now) in
    let a = c.args in
    let f = a.frame.now in
    let g = sym (good) ∙ c.if-is_reply.true in
    let tries = column_tried a.columns.now.keys a.columns.now.held a.columns.now.ended a.free in
    c.label_judged.ensures ∙ ap tries (label) ∙ given_on tries (sym (good_heard f g))

pub returns-in_err-check_reply : goal.returns-in_err-check_reply
unfolding heard
returns-in_err-check_reply c =
    let a = c.args in
    let f = a.frame.now in
    handed_on reply_refused _ _ (λ g e. ap reply_refused e) _ c.from_residual.ensures.1
    ∙ given_on (column_tried a.columns.now.keys a.columns.now.held a.columns.now.ended a.free) (c.in_err-check_reply.ensures ∙ ap (λ (s : List ℕ). labelled (read reply s)) (same_frame f))

pub returns : goal.returns
unfolding heard
returns c =
    let f = c.args.frame.now in
    let good : c.is_reply.result ≡ is_good (read reply f) = c.is_reply.ensures ∙ ap (λ (s : List ℕ). is_good (read reply s)) (same_frame f) in
    absurd (bad_heard f (sym (good) ∙ c.if-is_reply.false) _ (c.in_ok-check_reply.ensures ∙ ap (λ (s : List ℕ). labelled (read reply s)) (same_frame f)))
