-- `page::write::put_seat_lines` meets its contract.
use Rattle.text.specs.Put.{Put}
use Rattle.page.specs.Version.{one}
use Rattle.page.specs.Page.{seat_lines}
use Rattle.page.specs.inside.Writing.{of_seats}
use Rattle.page.proofs.write.put_seat_lines.Given as goal

abbrev pub invariant-loop-s : goal.invariant-loop-s
invariant-loop-s l = Put l.initial.out l.at (seat_lines one (of_seats l.row l.bits) l.s) l.p l.out
