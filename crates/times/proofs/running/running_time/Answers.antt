-- `times::running::running_time` meets its contract.
use mathlib.Core.Path.{◌≡◌, sym, ◌∙◌}
use borrow.Author.Rules.{rules}
use mir.Syntax.{w64}
use mir.Val.{to_z, of_z}
use Rattle.times.proofs.RunningLaws.{out_of_range, with_minus, with_plus}
use Rattle.times.proofs.running.running_time.Goals as goal

pub returns-then-not-in_range : goal.returns-then-not-in_range
returns-then-not-in_range c = out_of_range _ (sym c.in_range.ensures ∙ c.if-not-in_range.true)

pub returns-then-of-eq1 : goal.returns-then-of-eq1
returns-then-of-eq1 c =
    let r : to_z w64 (of_z w64 c.diff.result) ≡ c.diff.result = search rules in
    rw r (with_minus _ (sym c.in_range.ensures ∙ c.if-not-in_range.false) _ c.if-of-eq1.true c.diff.ensures)

pub returns-else-of-eq1 : goal.returns-else-of-eq1
returns-else-of-eq1 c =
    let r : to_z w64 (of_z w64 c.diff-else-of-eq1.result) ≡ c.diff-else-of-eq1.result = search rules in
    rw r (with_plus _ (sym c.in_range.ensures ∙ c.if-not-in_range.false) _ c.if-of-eq1.false c.diff-else-of-eq1.ensures)
