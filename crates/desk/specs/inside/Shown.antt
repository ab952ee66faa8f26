-- The row that the columns of a call show.
use Rattle.std.specs.Prelude.{List}
use Rattle.desk.specs.declared.state.Seat.{Seat}
use Rattle.desk.specs.declared.columns.Columns.{Columns}
use Rattle.desk.specs.inside.Columns.{row_of}

abbrev pub shown : Columns → List Seat
shown c = row_of c.keys c.held c.ended
