-- `frames::spoiled::first_off` meets its contract: each turn of the loop is one look.
use native.Mathlib.Omega.{arith}
use mathlib.Core.Path.{refl, sym, ◌∙◌}
use Rattle.frames.proofs.ClassLaws.{look_on, look_off, look_done, look_first}
use Rattle.frames.proofs.spoiled.first_off.Goals as goal

pub loop-i-init : goal.loop-i-init
loop-i-init c = let a = c.args in (look_first a.s.now a.at a.text.now, omega arith)

pub returns-then-not-in_class : goal.returns-then-not-in_class
returns-then-not-in_class c =
    let a = c.args in
    sym (c.loop-i.invariant.0 ∙ look_off a.s.now a.at a.text.now c.loop-i.i _ _ _ refl c.byte_at.ensures c.in_class.ensures c.loop-i-test.true c.if-not-in_class.true)

pub loop-i-preserved : goal.loop-i-preserved
loop-i-preserved c =
    let a = c.args in
    (c.loop-i.invariant.0 ∙ look_on a.s.now a.at a.text.now c.loop-i.i _ _ _ refl c.byte_at.ensures c.in_class.ensures c.loop-i-test.true c.if-not-in_class.false, omega arith)

pub returns : goal.returns
returns c =
    let a = c.args in
    sym (c.loop-i.invariant.0 ∙ look_done a.s.now a.at a.text.now c.loop-i.i c.loop-i-test.false)
