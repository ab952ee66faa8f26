-- `lines::next_line` meets its contract: the line ends where the line from the byte at i on ends.
use mathlib.Core.Path.{◌≡◌, sym, ◌∙◌}
use native.Mathlib.Omega.{arith}
use Rattle.lines.proofs.PlaceLaws.{begun_here, past_byte, at_LF, at_end}
use Rattle.lines.proofs.next_line.Goals as goal

pub loop-i-init : goal.loop-i-init
loop-i-init c = (omega arith, begun_here _ _)

pub returns-then-s-i-eq-LF : goal.returns-then-s-i-eq-LF
returns-then-s-i-eq-LF c =
    let a = c.args in
    sym (c.loop-i.invariant.1 ∙ at_LF a.s.now a.at c.loop-i.i (omega arith) c.if-s-i-eq-LF.true)

pub loop-i-preserved : goal.loop-i-preserved
loop-i-preserved c =
    let a = c.args in
    (omega arith, c.loop-i.invariant.1 ∙ past_byte a.s.now a.at c.loop-i.i (omega arith) c.if-s-i-eq-LF.false)

pub returns : goal.returns
returns c =
    let a = c.args in
    let e : c.loop-i.i ≡ c.max.result = omega arith in
    sym (rw e at (c.loop-i.invariant.1 ∙ at_end a.s.now a.at c.loop-i.i (omega arith)))
