-- Only one outcome meets the promise of a call that puts text. The outcome is the place after the text, and the output.
use Rattle.std.specs.Prelude.{ℕ, List, [], ◌∷◌}
use Rattle.digits.specs.Once.{Once}
use Rattle.text.specs.Put.{Put}
use Rattle.text.specs.Decimal.{decimal}

pub record OneOutcome : Type 0 where
  pub put_text : (out : List ℕ) (at : ℕ) (text : List ℕ) → Once (λ (o : ℕ × List ℕ). Put out at text o.0 o.1)
  pub put_one : (out : List ℕ) (at b : ℕ) → Once (λ (o : ℕ × List ℕ). Put out at (b ∷ []) o.0 o.1)
  pub put_decimal : (out : List ℕ) (at n : ℕ) → Once (λ (o : ℕ × List ℕ). Put out at (decimal n) o.0 o.1)
