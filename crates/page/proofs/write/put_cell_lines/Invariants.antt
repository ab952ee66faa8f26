-- `page::write::put_cell_lines` meets its contract.
use Rattle.text.specs.Put.{Put}
use Rattle.page.specs.Version.{one}
use Rattle.page.specs.Page.{cell_lines}
use Rattle.page.specs.inside.Writing.{of_cells}
use Rattle.page.proofs.write.put_cell_lines.Given as goal

abbrev pub invariant-loop-j : goal.invariant-loop-j
invariant-loop-j l = Put l.initial.out l.at (cell_lines one (of_cells l.cells l.marks) l.j) l.p l.out
