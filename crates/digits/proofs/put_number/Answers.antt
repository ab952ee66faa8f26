-- `digits::put_number` meets its contract: each turn is one step of `put_from`.
use native.Mathlib.Omega.{arith}
use mathlib.Core.Path.{sym, ◌∙◌}
use Rattle.digits.proofs.Writing.{put_step, put_done, some_text}
use Rattle.digits.proofs.put_number.Goals as goal

pub loop-k-preserved : goal.loop-k-preserved
loop-k-preserved c = c.loop-k.invariant ∙ put_step _ _ _ _ _ c.loop-k-test.true c.put_past.ensures

pub returns : goal.returns
returns c =
    sym (sym (some_text _ _ _ _ (omega arith) (omega arith)) ∙ c.loop-k.invariant ∙ put_done _ _ _ _ c.loop-k-test.false)
