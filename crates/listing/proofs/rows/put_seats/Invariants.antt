-- `listing::rows::put_seats` meets its contract.
use Rattle.text.specs.Put.{Put}
use Rattle.listing.specs.inside.Rows.{seats_of}
use Rattle.listing.proofs.rows.put_seats.Given as goal

abbrev pub invariant-loop-s : goal.invariant-loop-s
invariant-loop-s l = Put l.initial.out l.at (seats_of l.cells l.marks l.count l.s) l.p l.out
