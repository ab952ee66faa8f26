-- `text::width_of` meets its contract: each turn counts one digit.
use native.Mathlib.Omega.{arith}
use Rattle.text.proofs.DecimalLaws.{counted_one, counted_more, counted_all}
use Rattle.text.proofs.width_of.Goals as goal

pub loop-m-init : goal.loop-m-init
loop-m-init c = counted_one _ (omega arith)

pub overflow_add-w : goal.overflow_add-w
overflow_add-w c = omega (arith, c.loop-m.invariant.most)

pub loop-m-preserved : goal.loop-m-preserved
loop-m-preserved c = counted_more _ _ _ c.loop-m-test.true c.loop-m.invariant

pub returns : goal.returns
returns c = counted_all _ _ _ c.loop-m-test.false c.loop-m.invariant
