-- `times::clock::put_parts` meets its contract.
use Rattle.times.proofs.ClockLaws.{stored_in_parts}
use Rattle.times.proofs.clock.put_parts.Goals as goal

pub returns : goal.returns
returns c = rw (c.put_number-4.ensures, c.put_number-3.ensures, c.put_number-2.ensures, c.put_number.ensures) (stored_in_parts _ _ _)
