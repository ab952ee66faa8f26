-- `rei2::reply::left_over` meets its contract.
use mir.Syntax.{w64}
use mir.Val.{to_z, of_z}
use mathlib.Core.Bool.{not, ◌&&◌}
use mathlib.Core.Path.{◌≡◌, ap, ap₂, ◌∙◌}
use native.Mathlib.Omega.{arith}
use borrow.Author.Rules.{rules}
use Rattle.rei2.specs.Reply.{is_nothing, left_over}
use Rattle.rei2.proofs.TimingLaws.{left_raw}
use Rattle.rei2.proofs.reply.left_over.Goals as goal

pub returns-in-1 : goal.returns-in-1
unfolding left_over
returns-in-1 c =
    let a = c.args.n in
    let r : to_z w64 (of_z w64 a.net) ≡ a.net = search rules in
    ap not (c.is_nothing-nothing.ensures ∙ ap is_nothing r) ∙ rw c.in-1.is

pub returns-in-2 : goal.returns-in-2
unfolding left_over
returns-in-2 c = rw (c.no_date-dateless.ensures, c.in-2.is)

pub returns-in_default : goal.returns-in_default
returns-in_default c =
    let a = c.args.n in
    let r : to_z w64 (of_z w64 a.net) ≡ a.net = search rules in
    ap not (ap₂ ◌&&◌ (c.is_nothing-nothing.ensures ∙ ap is_nothing r) c.no_date-dateless.ensures) ∙ left_raw a (λ e. omega (arith, e)) (λ e. omega (arith, e))
