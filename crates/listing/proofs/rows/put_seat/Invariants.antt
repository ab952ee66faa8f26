-- `listing::rows::put_seat` meets its contract.
use Rattle.desk.specs.Memory.{records_of}
use Rattle.text.specs.Put.{Put}
use Rattle.listing.specs.Text.{rows_text}
use Rattle.listing.proofs.rows.put_seat.Given as goal

abbrev pub invariant-loop-i : goal.invariant-loop-i
invariant-loop-i l = Put l.initial.out l.at (rows_text l.seat (records_of l.cells l.marks l.seat l.i)) l.p l.out
