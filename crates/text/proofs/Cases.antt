-- The worked cases hold. Assumes nothing.
use mathlib.Core.Path.{refl}
use Rattle.digits.specs.Digits.{digits}
use Rattle.text.specs.Decimal.{width_within, width, decimal}
use Rattle.text.specs.Cases.{TextWorked}

pub text_worked : TextWorked
unfolding decimal width width_within digits
text_worked = record {
  zero = refl;
  nine = refl;
  ten = refl;
  ninety_nine = refl;
  hundred = refl;
  largest = refl;
  next_place = refl;
  last_place = refl;
  past_places = refl;
  ends = refl;
  two_lines = refl;
}
