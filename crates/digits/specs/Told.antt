-- What an answer means: its values, or a refusal.
use Rattle.std.specs.Prelude.{Bool, true, false, ◌≡◌}
use Rattle.digits.specs.declared.refusal.Refusal.{Refusal}
use Rattle.digits.specs.Refusals.{is_refusal}

pub data Told (A : Type 0) : Type 0 where
  gives : A → Told A
  refuses : Refusal → Told A

-- a test: if it fails, the answer is this refusal; otherwise it is the rest
module _ {A : Type 0} where
  abbrev pub tried : Bool → Refusal → Told A → Told A
  tried true f rest = rest
  tried false f rest = refuses f

-- if this answer is a refusal, it is one of the table
abbrev pub Sure : {A : Type 0} → Told A → Type 0
Sure t = (f : Refusal) → t ≡ refuses f → is_refusal f ≡ true
