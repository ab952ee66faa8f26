-- A promise that only one outcome meets: any two outcomes that meet it are equal.
use Rattle.std.specs.Prelude.{◌≡◌}

module _ {A : Type 0} where
  abbrev pub Once : (A → Type 0) → Type 0
  Once Promised = (a b : A) → Promised a → Promised b → a ≡ b
