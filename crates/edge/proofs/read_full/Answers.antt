-- `edge::read_full` meets its contract: each turn is one more read.
use Rattle.std.proofs.Common.{◌∙◌}
use native.Mathlib.Omega.{arith}
use Rattle.std.proofs.lemmas.List.{length-drop}
use Rattle.edge.specs.Filling.{full, ended, failed, more}
use Rattle.edge.proofs.FillingLaws.{put_rest, length_laid}
use Rattle.edge.proofs.read_full.Goals as goal

pub loop-done-preserved : goal.loop-done-preserved
loop-done-preserved g c =
    let l = c.loop-done in
    let n = length-drop l.done l.buf in
    let k = length_laid l.buf l.done c.read.new.buf l.invariant.1 (omega (arith, n, c.read.auto.buf)) in
    rw (put_rest l.buf l.done c.read.new.buf) (
      k ∙ l.invariant.0,
      omega (arith, k, n, c.read.auto.buf, c.in-Ok.ensures.bound.0, c.loop-done-test.true),
      λ answer s out f. l.invariant.2 answer s out
          (more c.loop-done-test.true (omega (arith, n, c.read.auto.buf), c.in-Ok.ensures.bound, c.in-Ok.ensures.bytes) (omega (arith, c.in-Ok.more-test.1)) f),
    )

pub returns-in-Err-clause-filled : goal.returns-in-Err-clause-filled
returns-in-Err-clause-filled g c =
    let l = c.loop-done in
    let n = length-drop l.done l.buf in
    rw (put_rest l.buf l.done c.read.new.buf)
    (l.invariant.2 _ _ _ (failed c.loop-done-test.true (omega (arith, n, c.read.auto.buf), c.in-Err.ensures.bound, c.in-Err.ensures.bytes)))

pub returns-after-loop-done-clause-filled : goal.returns-after-loop-done-clause-filled
returns-after-loop-done-clause-filled g c = c.loop-done.invariant.2 _ _ _ (full (omega (arith, c.loop-done-test.false)))

pub returns-in-Ok-eq0-clause-filled : goal.returns-in-Ok-eq0-clause-filled
returns-in-Ok-eq0-clause-filled g c =
    let l = c.loop-done in
    let n = length-drop l.done l.buf in
    let z = c.in-Ok-eq0.field-0-test in
    rw (put_rest l.buf l.done c.read.new.buf)
    (l.invariant.2 _ _ _ (ended c.loop-done-test.true (omega (arith, n, c.read.auto.buf), rw z at c.in-Ok-eq0.ensures.bound, rw z at c.in-Ok-eq0.ensures.bytes)))
