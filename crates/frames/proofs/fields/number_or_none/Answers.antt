-- `frames::fields::number_or_none` meets its contract: a number of nine digits fits in 32 bits.
use mathlib.Core.Path.{◌∙◌, sym}
use native.Mathlib.Omega.{arith}
use Rattle.digits.proofs.Laws.{small_number}
use Rattle.frames.proofs.RuleLaws.{if_found}
use Rattle.frames.proofs.fields.number_or_none.Goals as goal

pub or_none-requires : goal.or_none-requires
or_none-requires c = if_found _ (λ v e. let h = small_number _ _ _ _ c.requires (sym c.number_at.ensures ∙ e) in omega (arith, h))
