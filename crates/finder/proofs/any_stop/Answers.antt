-- `finder::any_stop` meets its contract: while `any` is false, none of the bytes passed is a stop.
use mathlib.Core.Path.{◌≡◌, sym, ◌∙◌}
use native.Mathlib.Omega.{arith}
use Rattle.frames.proofs.RuleLaws.{or_false}
use Rattle.finder.specs.inside.Quiet.{block_size}
use Rattle.finder.proofs.Quiet.{empty, one, joined}
use Rattle.finder.proofs.any_stop.Goals as goal

pub loop-i-init : goal.loop-i-init
loop-i-init c = λ e. empty

pub loop-i-preserved : goal.loop-i-preserved
loop-i-preserved c =
    λ e. let o = or_false c.loop-i.any c.is_stop-any.result e in
    joined (c.loop-i.invariant o.0) (one (omega arith) (sym c.is_stop-any.ensures ∙ o.1))

pub returns : goal.returns
returns c = λ e. let m : c.loop-i.i ≡ block_size = omega arith in rw m at (c.loop-i.invariant e)
