-- `desk::clauses::shows_desk` meets its contract.
use mathlib.Core.Bool.{false≢true}
use mathlib.Core.List.{List}
use mathlib.Core.Path.{refl, ap, ◌∙◌}
use Rattle.desk.specs.declared.state.Seat.{Seat}
use Rattle.desk.specs.Limits.{seat_count}
use Rattle.desk.specs.Below.{all_below}
use Rattle.desk.specs.Memory.{memory}
use Rattle.desk.specs.Desk.{is_desk}
use Rattle.desk.specs.inside.Clauses.{seat_good_at}
use Rattle.desk.proofs.Below.{not_came, not_left}
use Rattle.desk.proofs.ClauseLaws.{no_desk_case}
use Rattle.desk.proofs.clauses.shows_desk.Goals as goal

pub returns-then-not-show : goal.returns-then-not-show
returns-then-not-show c =
    let a = c.args in
    record {
      desk = no_desk_case (memory a.desk a.row.now a.cells.now a.marks.now a.tally.now) c.requires (not_came c.show.ensures.good c.if-not-show.true);
      shown = λ e. absurd (false≢true e);
    }

pub is_desk-requires : goal.is_desk-requires
is_desk-requires c =
    let shows = c.show.ensures.shown (not_left refl c.if-not-show.false) in
    ap (λ (r : List Seat). all_below seat_count (seat_good_at r c.args.desk.bits)) shows ∙ not_left c.show.ensures.good c.if-not-show.false

pub returns : goal.returns
returns c =
    let a = c.args in
    let shows = c.show.ensures.shown (not_left refl c.if-not-show.false) in
    record { desk = c.is_desk.ensures ∙ ap (λ (r : List Seat). is_desk (memory a.desk r a.cells.now a.marks.now a.tally.now)) shows; shown = λ _. shows }
