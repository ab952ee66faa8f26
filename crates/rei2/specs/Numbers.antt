-- What an answer means, in numbers: 0 if the call was done, otherwise the number of the refusal with its offset and the offset of the spoiled byte.
use Rattle.std.specs.Prelude.{ℕ}
use Rattle.digits.specs.declared.refusal.Refusal.{Refusal}
use Rattle.digits.specs.Refusals.{plain}
use Rattle.digits.specs.Told.{Told, gives, refuses}

module _ {A : Type 0} where
  abbrev pub refusal_in : Told A → Refusal
  refusal_in (gives a) = plain 0
  refusal_in (refuses f) = f

  abbrev pub number_in : Told A → ℕ
  number_in t = (refusal_in t).number

  abbrev pub offset_in : Told A → ℕ
  offset_in t = (refusal_in t).offset

  abbrev pub spoiled_in : Told A → ℕ
  spoiled_in t = (refusal_in t).spoiled

  -- what is given, or the zero that comes with a refusal
  abbrev pub value_in : A → Told A → A
  value_in zero (gives a) = a
  value_in zero (refuses f) = zero
