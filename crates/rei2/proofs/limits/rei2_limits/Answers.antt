-- `rei2::limits::rei2_limits` meets its contract.
use mathlib.Core.Path.{refl}
use Rattle.text.specs.Decimal.{width_within, width}
use Rattle.listing.specs.Text.{columns}
use Rattle.listing.specs.Sizes.{longest_row, longest_end}
use Rattle.rei2.proofs.limits.rei2_limits.Goals as goal

pub returns : goal.returns
unfolding width_within width columns longest_row longest_end
returns c = refl
