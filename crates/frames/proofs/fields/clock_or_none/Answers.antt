-- `frames::fields::clock_or_none` meets its contract: the ticks of a day fit in 32 bits.
use mathlib.Core.Path.{◌∙◌, sym}
use native.Mathlib.Omega.{arith}
use Rattle.times.proofs.ClockLaws.{time_below}
use Rattle.frames.proofs.RuleLaws.{if_found}
use Rattle.frames.proofs.fields.clock_or_none.Goals as goal

pub or_none-requires : goal.or_none-requires
or_none-requires c = if_found _ (λ v e. let h = time_below _ _ _ (sym c.clock_at.ensures ∙ e) in omega (arith, h))
