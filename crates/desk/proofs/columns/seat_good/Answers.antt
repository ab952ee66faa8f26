-- `desk::columns::seat_good` meets its contract.
use mathlib.Core.Path.{◌≡◌, refl, ap, ◌∙◌}
use mathlib.Core.Bool.{Bool, true, false, ◌&&◌}
use Rattle.desk.specs.inside.Clauses.{seat_good}
use Rattle.desk.specs.Key.{is_key}
use Rattle.desk.specs.Desk.{is_zero}
use Rattle.desk.specs.Seats.{zero_seat}
use lib.Dec.{eqb}
use borrow.Author.Rules.{rules}
use Rattle.desk.proofs.ClauseLaws.{if_yes, if_no}
use Rattle.desk.proofs.columns.seat_good.Goals as goal

regrouped : (a b c d e : Bool) → a && (b && (c && (d && e))) ≡ a && b && c && d && e
regrouped false b c d e = refl
regrouped true false c d e = refl
regrouped true true false d e = refl
regrouped true true true d e = refl

pub returns-then-used : goal.returns-then-used
unfolding seat_good
returns-then-used c = if_yes _ c.used.ensures c.if-used.true (c.is_key.ensures ∙ ap is_key c.key_of.ensures)

pub returns-else-used : goal.returns-else-used
unfolding seat_good is_zero
returns-else-used c =
    let s = c.args.s in
    let d : c.default.result ≡ zero_seat = search rules in
    let z : c.eq.result ≡ is_zero s = rw d at c.eq.ensures ∙ regrouped (eqb s.address 0) (eqb s.requester 0) (eqb s.number 0) (eqb s.held 0) (eqb s.ended 0) in
    if_no _ c.used.ensures c.if-used.false z
