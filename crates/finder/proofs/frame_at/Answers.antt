-- `finder::frame_at` meets its contract: the answer is the same, seen from each byte that was passed.
use mathlib.Core.Path.{sym, ◌∙◌}
use native.Mathlib.Omega.{arith}
use Rattle.finder.proofs.Search.{begun, end_cuts, lead_cuts, ends, runs_on}
use Rattle.finder.proofs.Quiet.{ends_within, run_inside}
use Rattle.finder.proofs.frame_at.Goals as goal

pub loop-i-init : goal.loop-i-init
loop-i-init c =
    let a = c.args in
    let s = a.s.now in
    let q = c.quiet_until-i.ensures in
    let p = c.requires in
    (omega arith, ends_within q (omega arith), begun s a.start p.0 p.1 ∙ run_inside (omega arith) q)

pub returns-then-is_lead : goal.returns-then-is_lead
returns-then-is_lead c =
    let a = c.args in
    let e = sym c.is_lead.ensures ∙ c.if-is_lead.true in
    sym (c.loop-i.invariant.2 ∙ lead_cuts a.s.now a.start c.loop-i.i (omega arith) (omega arith) e)

pub returns-then-b-eq-CR : goal.returns-then-b-eq-CR
returns-then-b-eq-CR c =
    let a = c.args in
    let e = sym c.is_lead.ensures ∙ c.if-is_lead.false in
    sym (c.loop-i.invariant.2 ∙ ends a.s.now a.start c.loop-i.i (omega arith) (omega arith) e c.if-b-eq-CR.true)

pub loop-i-preserved : goal.loop-i-preserved
loop-i-preserved c =
    let a = c.args in
    let e = sym c.is_lead.ensures ∙ c.if-is_lead.false in
    (omega arith, omega arith, c.loop-i.invariant.2 ∙ runs_on a.s.now a.start c.loop-i.i (omega arith) (omega arith) e c.if-b-eq-CR.false)

pub returns : goal.returns
returns c =
    let a = c.args in
    sym (c.loop-i.invariant.2 ∙ end_cuts a.s.now a.start c.loop-i.i (omega arith) (omega arith))
