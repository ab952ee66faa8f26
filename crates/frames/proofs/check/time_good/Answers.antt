-- `frames::check::time_good` meets its contract.
use mathlib.Core.Path.{subst, ◌∙◌}
use Prim.Native.Nat.{ℕ, ◌≤◌, ◌<◌}
use borrow.Author.Tests.{lt-leb}
use Rattle.digits.specs.Digits.{is_digit}
use Rattle.frames.proofs.DigitLaws.{parted}
use Rattle.frames.proofs.CheckLaws.{time_stops, time_goes_on}
use Rattle.frames.proofs.check.time_good.Goals as goal

pub number-requires-clause-digits : goal.number-requires-clause-digits
number-requires-clause-digits c = (parted _ is_digit 30 2 8 c.requires).0

pub returns-then-number-le23 : goal.returns-then-number-le23
returns-then-number-le23 c =
    time_goes_on _ c.requires (subst (λ (n : ℕ). n ≤ 23) c.number.ensures c.if-number-le23.true)

pub returns-else-number-le23 : goal.returns-else-number-le23
returns-else-number-le23 c =
    lt-leb _ 23 c.if-number-le23.false ∙ time_stops _ c.requires (subst (λ (n : ℕ). 23 < n) c.number.ensures c.if-number-le23.false)
