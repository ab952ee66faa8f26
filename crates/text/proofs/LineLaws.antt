-- Lines of texts. Assumes nothing.
use Prim.Native.Nat.{ℕ, zero, suc, ◌+◌, ◌/◌, ◌%◌}
use mathlib.Core.List.{List, [], ◌∷◌, ◌++◌}
use mathlib.Core.Path.{◌≡◌, refl, ◌∙◌}
use native.Mathlib.Omega.{arith}
use lib.Dec.{eqb}
use borrow.Author.Tests.{ne_eqb}
use Rattle.digits.specs.Digits.{digits}
use Rattle.digits.proofs.Tests.{by-test}
use Rattle.text.specs.Decimal.{width, decimal}
use Rattle.text.specs.Lines.{LF, lines}

pub lines_both : (a b : List ℕ) → lines (a ++ b) ≡ lines a + lines b
lines_both [] b = omega arith
lines_both (x ∷ a) b =
    let h = lines_both a b in
    by-test (eqb x LF) (λ e. rw e (omega (arith, h))) (λ e. rw e (omega (arith, h)))

digits_none : (w n : ℕ) → lines (digits w n) ≡ 0
unfolding digits
digits_none zero n = refl
digits_none (suc w) n =
    lines_both (digits w (n / 10)) ((48 + n % 10) ∷ [])
    ∙ rw (digits_none w (n / 10), ne_eqb (48 + n % 10) LF (λ q. omega arith))

-- a number in decimal has no LF
pub decimal_none : (n : ℕ) → lines (decimal n) ≡ 0
unfolding decimal
decimal_none n = digits_none (width n) n
