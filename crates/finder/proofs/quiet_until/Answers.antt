-- `finder::quiet_until` meets its contract: the blocks passed are quiet.
use Prim.Native.Nat.{◌+◌, ◌-◌}
use mathlib.Core.Path.{◌≡◌}
use native.Mathlib.Omega.{arith}
use Rattle.finder.specs.inside.Quiet.{block_size}
use Rattle.finder.proofs.Quiet.{empty, joined, in_part}
use Rattle.finder.proofs.quiet_until.Goals as goal

pub returns-then-s-lt-BLOCK : goal.returns-then-s-lt-BLOCK
returns-then-s-lt-BLOCK c = empty

pub loop-i-init : goal.loop-i-init
loop-i-init c = empty

pub returns-then-any_stop : goal.returns-then-any_stop
returns-then-any_stop c = c.loop-i.invariant

pub loop-i-preserved : goal.loop-i-preserved
loop-i-preserved c =
    let i = c.loop-i.i in
    let n : i + block_size - i ≡ block_size = omega arith in
    joined c.loop-i.invariant (in_part i block_size (omega arith) (rw n at (c.any_stop.ensures c.if-any_stop.false)))

pub returns : goal.returns
returns c = c.loop-i.invariant
