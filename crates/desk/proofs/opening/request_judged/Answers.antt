-- `desk::opening::request_judged` meets its contract.
use mathlib.Core.Path.{◌≡◌, sym, ap, ◌∙◌}
use mathlib.Core.Bool.{true, false}
use lib.Dec.{ltb}
use Rattle.std.proofs.lemmas.Option.{cond_some}
use borrow.Author.Tests.{eq-eqb, ne_eqb, lt-leb, le-leb, ltb-true, ltb-false}
use Rattle.desk.specs.Limits.{seat_count}
use Rattle.desk.specs.Key.{request_key}
use Rattle.desk.specs.inside.Columns.{key_number}
use Rattle.desk.specs.inside.Judging.{seat_with_key, column_asked, number_tried}
use Rattle.desk.proofs.ColumnLaws.{found_tested}
use Rattle.desk.proofs.TallyLaws.{none_if}
use Rattle.desk.proofs.opening.request_judged.Goals as goal

pub returns-then-r-eq113 : goal.returns-then-r-eq113
unfolding column_asked
returns-then-r-eq113 c = rw (eq-eqb _ 113 c.if-r-eq113.true)

pub key_number-requires : goal.key_number-requires
key_number-requires c = rw c.key_asked-key.ensures c.requires

pub returns-then-is_some : goal.returns-then-is_some
unfolding column_asked number_tried
returns-then-is_some c =
    let a = c.args in
    let k = request_key a.r in
    let t : ltb (seat_with_key a.columns.now.keys k) seat_count ≡ true = sym (found_tested a.columns.now.keys k c.find.ensures (c.key_number.ensures ∙ ap key_number c.key_asked-key.ensures)) ∙ sym c.is_some.ensures ∙ c.if-is_some.true in
    rw (ne_eqb _ 113 c.if-r-eq113.false, lt-leb seat_count (seat_with_key a.columns.now.keys k) (ltb-true _ seat_count t))

pub returns-in_default : goal.returns-in_default
unfolding column_asked number_tried
returns-in_default c =
    let a = c.args in
    let k = request_key a.r in
    let t : ltb (seat_with_key a.columns.now.keys k) seat_count ≡ false = sym (found_tested a.columns.now.keys k c.find.ensures (c.key_number.ensures ∙ ap key_number c.key_asked-key.ensures)) ∙ sym c.is_some.ensures ∙ c.if-is_some.false in
    rw (ne_eqb _ 113 c.if-r-eq113.false, le-leb seat_count (seat_with_key a.columns.now.keys k) (ltb-false _ seat_count t), none_if _ _ (sym c.free_seat.ensures ∙ c.in_default.is))

pub returns : goal.returns
unfolding column_asked number_tried
returns c =
    let a = c.args in
    let k = request_key a.r in
    let t : ltb (seat_with_key a.columns.now.keys k) seat_count ≡ false = sym (found_tested a.columns.now.keys k c.find.ensures (c.key_number.ensures ∙ ap key_number c.key_asked-key.ensures)) ∙ sym c.is_some.ensures ∙ c.if-is_some.false in
    let f = cond_some _ _ _ (sym c.free_seat.ensures ∙ c.in-Some.is) in
    rw (c.key_asked-key.ensures, ne_eqb _ 113 c.if-r-eq113.false, le-leb seat_count (seat_with_key a.columns.now.keys k) (ltb-false _ seat_count t), f.0, f.1)
