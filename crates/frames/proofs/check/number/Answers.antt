-- `frames::check::number` meets its contract: what is read so far and the digits that are left are the number.
use native.Mathlib.Omega.{arith}
use Rattle.frames.proofs.DigitLaws.{digit_there, number_goes, number_fits, number_done}
use Rattle.frames.proofs.check.number.Goals.{In-loop-k}
use Rattle.frames.proofs.check.number.Goals as goal

pub overflow_mul-n : goal.overflow_mul-n
overflow_mul-n g c =
    let d = number_fits c.args.s.now c.args.at c.loop-k.k _ c.loop-k.n c.loop-k-test.true c.requires.digits c.loop-k.invariant c.requires.width.1 in
    omega (arith, d)

pub overflow_add-n-in-loop-k : goal.overflow_add-n-in-loop-k
overflow_add-n-in-loop-k g c =
    let d = number_fits c.args.s.now c.args.at c.loop-k.k _ c.loop-k.n c.loop-k-test.true c.requires.digits c.loop-k.invariant c.requires.width.1 in
    omega (arith, d)

pub overflow_sub-n : goal.overflow_sub-n
overflow_sub-n g c = omega (arith, (digit_there c.args.s.now c.args.at c.loop-k.k _ c.loop-k.n c.loop-k-test.true c.requires.digits).0)

pub loop-k-preserved : goal.loop-k-preserved
loop-k-preserved g c = number_goes c.args.s.now c.args.at c.loop-k.k _ c.loop-k.n c.loop-k-test.true c.requires.digits c.loop-k.invariant

pub returns : goal.returns
returns g c = number_done c.args.s.now c.args.at c.loop-k.k _ c.loop-k.n c.loop-k-test.false c.requires.width.0 c.requires.width.1 c.requires.digits c.loop-k.invariant
