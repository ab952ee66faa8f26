-- `frames::check::number` meets its contract: what is read so far and the digits that are left are the number.
use Rattle.std.proofs.Common.{◌≡◌, ◌+◌, ◌-◌}
use Rattle.frames.proofs.DigitLaws.{value_from}
use Rattle.frames.proofs.check.number.Given as goal

abbrev pub invariant-loop-k : goal.invariant-loop-k
invariant-loop-k g l = value_from l.s (l.at + l.k) (l.k-end - l.k) l.n ≡ value_from l.s l.at l.k-end 0
