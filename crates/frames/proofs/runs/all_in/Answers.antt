-- `frames::runs::all_in` meets its contract: `good` says whether the bytes so far meet the rule.
use Rattle.std.proofs.Common.{refl, rules}
use Rattle.frames.proofs.RunLaws.{run_goes, run_done}
use Rattle.frames.proofs.runs.all_in.Goals as goal

pub loop-b-preserved : goal.loop-b-preserved
loop-b-preserved g c = λ test h.
    run_goes test c.args.bytes.now c.loop-b.b-index _ _ c.loop-b-test.true refl _ c.loop-b.good _ (c.loop-b.invariant test h)
    (h _ _ (search rules) c.rule-good.ensures)

pub returns : goal.returns
returns g c = λ test h. run_done test c.args.bytes.now c.loop-b.b-index _ _ c.loop-b.good c.loop-b-test.false (c.loop-b.invariant test h)
