-- `digits::in_set` meets its contract.
use borrow.Author.Tests.{lt-ltb, le-ltb}
use native.Mathlib.Omega.{arith}
use Rattle.digits.specs.Text.{in_set}
use Rattle.digits.proofs.in_set.Goals as goal

pub returns-in-0-to-63 : goal.returns-in-0-to-63
unfolding in_set
returns-in-0-to-63 c = rw (lt-ltb c.args.b 64 (omega arith))

pub returns-in-64-to-127 : goal.returns-in-64-to-127
unfolding in_set
returns-in-64-to-127 c = let b = c.args.b in rw (le-ltb b 64 (omega arith), lt-ltb b 128 (omega arith))

pub returns-in_default : goal.returns-in_default
unfolding in_set
returns-in_default c = let b = c.args.b in rw (le-ltb b 64 (omega arith), le-ltb b 128 (omega arith))
