-- `desk::columns::Columns::count` meets its contract.
use Prim.Native.Nat.{◌<◌}
use mathlib.Core.Bool.{Bool, true, false, cond}
use mathlib.Core.Path.{◌≡◌, refl, ◌∙◌}
use native.Mathlib.Omega.{arith}
use mir.Val.{bool_byte}
use borrow.Author.Rules.{rules}
use Rattle.desk.specs.Below.{count_below}
use Rattle.desk.specs.Limits.{seat_count}
use Rattle.desk.specs.inside.Columns.{key_is}
use Rattle.desk.proofs.Below.{count_on, count_to}
use Rattle.desk.proofs.columns.Columns.count.Goals as goal

one : (b : Bool) → bool_byte b ≡ cond b 1 0
one true = refl
one false = refl

pub loop-k-init : goal.loop-k-init
unfolding count_below
loop-k-init c = (search rules, refl)

pub overflow_add-n : goal.overflow_add-n
overflow_add-n c =
    let t : c.loop-k.k-index < seat_count = search rules in
    let h = (count_on c.loop-k.k-index (key_is c.args.self.now.keys c.args.key) c.loop-k.invariant.1 (c.from-n.ensures ∙ one _)).0 in omega (arith, h, c.loop-k.invariant.0, t)

pub loop-k-preserved : goal.loop-k-preserved
loop-k-preserved c =
    let h = count_on c.loop-k.k-index (key_is c.args.self.now.keys c.args.key) c.loop-k.invariant.1 (c.from-n.ensures ∙ one _) in
    (omega (arith, h.0, c.loop-k.invariant.0), h.1)

pub returns : goal.returns
returns c = count_to c.loop-k.k-index seat_count (key_is c.args.self.now.keys c.args.key) (search rules) c.loop-k.invariant.1
