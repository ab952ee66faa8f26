-- Only one outcome meets the promise of a call that puts text. Assumes nothing.
use Prim.Native.Nat.{ℕ}
use mathlib.Core.List.{List, [], ◌∷◌}
use mathlib.Core.Path.{sym, ◌∙◌}
use Rattle.digits.specs.Once.{Once}
use Rattle.text.specs.Put.{Put}
use Rattle.text.specs.Decimal.{decimal}
use Rattle.text.specs.Unique.{OneOutcome}

put_once : (out : List ℕ) (at : ℕ) (text : List ℕ) → Once (λ (o : ℕ × List ℕ). Put out at text o.0 o.1)
put_once out at text o p d e =
    let n = d.next ∙ sym e.next in
    let b = d.bytes ∙ sym e.bytes in
    λ i. (n i, b i)

pub one_outcome : OneOutcome
one_outcome = record {
  put_text = put_once;
  put_one = λ out at b. put_once out at (b ∷ []);
  put_decimal = λ out at n. put_once out at (decimal n);
}
