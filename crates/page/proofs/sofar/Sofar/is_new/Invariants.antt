-- `page::sofar::Sofar::is_new` meets its contract.
use Rattle.std.proofs.Common.{◌≡◌}
use Rattle.desk.specs.Below.{first}
use Rattle.desk.specs.Seats.{keyed_at}
use Rattle.page.proofs.sofar.Sofar.is_new.Given as goal

abbrev pub invariant-loop-i : goal.invariant-loop-i
invariant-loop-i l = first l.i (keyed_at l.self.row l.self.bits l.k) ≡ l.i
