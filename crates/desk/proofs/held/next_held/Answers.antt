-- `desk::held::next_held` meets its contract.
use Rattle.desk.specs.Memory.{capacity_of}
use Rattle.desk.specs.Calls.{held_cells, next_held}
use Rattle.desk.proofs.HeldLaws.{from_none, not_here, found_cell, none_found}
use native.Mathlib.Omega.{arith}
use mathlib.Core.Path.{ap, ◌∙◌}
use Prim.Native.Nat.{min}
use borrow.Author.Rules.{rules}
use Rattle.desk.proofs.held.next_held.Goals as goal

pub loop-i-init : goal.loop-i-init
unfolding capacity_of
loop-i-init c =
    let a = c.args in
    let e = c.least-limit.ensures in
    let f = c.capacity.ensures in
    (rw (e, f) (omega arith), from_none a.marks.now a.seat a.from)

pub returns-then-marks-i : goal.returns-then-marks-i
unfolding next_held
returns-then-marks-i c =
    let a = c.args in
    found_cell a.marks.now a.seat a.from (held_cells a.desk.count a.cells.now a.marks.now) c.least-limit.result
    (c.least-limit.ensures ∙ ap (min a.desk.count) c.capacity.ensures) c.loop-i.i (search rules) (search rules) c.loop-i.invariant.1 c.if-marks-i.true

pub loop-i-preserved : goal.loop-i-preserved
loop-i-preserved c =
    let a = c.args in
    let v = c.loop-i.invariant in
    (v.0, not_here a.marks.now a.seat a.from c.loop-i.i v.1 c.if-marks-i.false)

pub returns : goal.returns
unfolding next_held
returns c =
    let a = c.args in
    none_found a.marks.now a.seat a.from (held_cells a.desk.count a.cells.now a.marks.now) c.least-limit.result
    (c.least-limit.ensures ∙ ap (min a.desk.count) c.capacity.ensures) c.loop-i.i (search rules) c.loop-i.invariant.1
