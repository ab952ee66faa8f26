-- `times::net::net_value` meets its contract: the values of net times fit in 63 bits.
use mathlib.Core.Path.{◌≡◌, sym, ◌∙◌}
use borrow.Author.Rules.{rules}
use mir.Syntax.{w64}
use mir.Val.{to_z, of_z}
use Rattle.times.proofs.NetLaws.{net_is, value_wrong, value_minus, value_plus}
use Rattle.times.proofs.net.net_value.Goals as goal

pub returns-then-not-is_net : goal.returns-then-not-is_net
returns-then-not-is_net c = value_wrong _ (sym c.is_net.ensures ∙ c.if-not-is_net.true)

pub overflow_mul-days : goal.overflow_mul-days
overflow_mul-days c =
    let h = net_is c.args.parts (sym c.is_net.ensures ∙ c.if-not-is_net.false) in search rules

pub overflow_add-days : goal.overflow_add-days
overflow_add-days c =
    let h = net_is c.args.parts (sym c.is_net.ensures ∙ c.if-not-is_net.false) in search rules

pub diff-requires : goal.diff-requires
diff-requires c =
    let h = net_is c.args.parts (sym c.is_net.ensures ∙ c.if-not-is_net.false) in search rules

pub overflow_add-days-else-parts : goal.overflow_add-days-else-parts
overflow_add-days-else-parts c =
    let h = net_is c.args.parts (sym c.is_net.ensures ∙ c.if-not-is_net.false) in search rules

pub diff-requires-else-parts : goal.diff-requires-else-parts
diff-requires-else-parts c =
    let h = net_is c.args.parts (sym c.is_net.ensures ∙ c.if-not-is_net.false) in search rules

pub returns-then-parts : goal.returns-then-parts
returns-then-parts c =
    let r : to_z w64 (of_z w64 c.diff.result) ≡ c.diff.result = search rules in
    rw r (value_minus _ (sym c.is_net.ensures ∙ c.if-not-is_net.false) _ c.if-parts.true c.diff.ensures)

pub returns-else-parts : goal.returns-else-parts
returns-else-parts c =
    let r : to_z w64 (of_z w64 c.diff-else-parts.result) ≡ c.diff-else-parts.result = search rules in
    rw r (value_plus _ (sym c.is_net.ensures ∙ c.if-not-is_net.false) _ c.if-parts.false c.diff-else-parts.ensures)
