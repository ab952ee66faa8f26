-- `desk::opening::opened_state` meets its contract.
use Rattle.desk.specs.Limits.{seat_count}
use Rattle.desk.proofs.Bits.{shl_one, set_below}
use native.Mathlib.Omega.{arith}
use mathlib.Core.Path.{refl, ap}
use Prim.Native.Nat.{ℕ, ◌+◌}
use borrow.Author.Rules.{rules}
use Rattle.desk.proofs.opening.opened_state.Goals as goal

pub overflow_add-result : goal.overflow_add-result
overflow_add-result c =
    let a = shl_one c.args.seat (search rules) in
    let p = c.requires in
    let b = set_below seat_count c.args.desk.bits c.args.seat p.1.0 p.0 p.1.1 in
    omega (arith, a, b)

pub returns : goal.returns
returns c = let a = shl_one c.args.seat (search rules) in (ap (λ (x : ℕ). c.args.desk.bits + x) a, refl)
