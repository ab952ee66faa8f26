-- `finder::next` meets its contract: no frame begins at the bytes that were passed.
use mathlib.Core.Path.{sym, ◌∙◌}
use native.Mathlib.Omega.{arith}
use Rattle.finder.proofs.Search.{skipped, none}
use Rattle.finder.proofs.Quiet.{run_skipped}
use Rattle.finder.proofs.next.Goals as goal

pub loop-i-init : goal.loop-i-init
loop-i-init c = run_skipped c.quiet_until-i.ensures

pub frame_at-requires : goal.frame_at-requires
frame_at-requires c = (omega arith, sym c.is_lead.ensures ∙ c.if-is_lead.true)

pub returns-then-is_lead : goal.returns-then-is_lead
returns-then-is_lead c = c.frame_at.ensures ∙ sym c.loop-i.invariant

pub loop-i-preserved : goal.loop-i-preserved
loop-i-preserved c =
    c.loop-i.invariant ∙ skipped c.args.s.now c.loop-i.i (omega arith) (sym c.is_lead.ensures ∙ c.if-is_lead.false)

pub returns : goal.returns
returns c = sym (c.loop-i.invariant ∙ none c.args.s.now c.loop-i.i (omega arith))
