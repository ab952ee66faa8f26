-- `digits::put_all` meets its contract: each turn adds one item to the run.
use mathlib.Core.List.{List}
use mathlib.Core.Path.{◌≡◌, refl, sym, ap, ◌∙◌}
use Prim.Native.Nat.{◌+◌}
use native.Mathlib.Omega.{arith}
use lib.ListN.{set}
use Rattle.digits.proofs.Writing.{sets_beyond, run_more, run_whole}
use Rattle.digits.proofs.put_all.Goals as goal

pub returns-then-out-at : goal.returns-then-out-at
returns-then-out-at g c = let a = c.args in sym (sets_beyond a.out.now a.at a.items.now c.if-out-at.true)

pub loop-i-preserved : goal.loop-i-preserved
loop-i-preserved g c =
    let a = c.args in
    let l = c.loop-i in
    ap (λ x. set x (a.at + l.i) c.index-items-i.result) l.invariant
    ∙ run_more a.out.now a.at a.items.now l.i c.index-items-i.result (omega (arith, c.least-n.ensures, c.loop-i-test.true)) c.index-items-i.is

pub returns : goal.returns
returns g c =
    let a = c.args in
    let e : c.loop-i.i ≡ c.least-n.result = omega (arith, c.loop-i-test.false, c.loop-i.auto.i-end) in
    rw e at c.loop-i.invariant ∙ run_whole a.out.now a.at a.items.now c.least-n.result c.least-n.ensures c.if-out-at.false
