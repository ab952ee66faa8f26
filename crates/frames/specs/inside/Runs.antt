-- What a call of a closure answers of a byte.
use Rattle.std.specs.Prelude.{ℕ, Bool, ◌<◌, ◌≡◌}

-- its answers are those of the test
abbrev pub Answers : (ℕ → Bool → Type 0) → (ℕ → Bool) → Type 0
Answers post test = (b : ℕ) (r : Bool) → b < 256 → post b r → r ≡ test b
