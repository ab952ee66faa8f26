-- `desk::columns::Columns::row` meets its contract.
use Prim.Native.Nat.{ℕ, ◌+◌, ◌<◌}
use mathlib.Core.Path.{◌≡◌, refl, sym, ◌∙◌}
use native.Mathlib.Omega.{arith}
use mathlib.Core.List.{List}
use lib.ListN.{length, set, length-set}
use lib.Seq.{ext_get_or, get_or-set_same, get_or-set_other}
use Rattle.desk.specs.declared.state.Seat.{Seat}
use Rattle.desk.proofs.Below.{eq-case}
use Rattle.desk.proofs.ColumnLaws.{length_row, seat_at_law}
use Rattle.desk.specs.Limits.{seat_count}
use Rattle.desk.specs.Seats.{zero_seat, seat_at}
use Rattle.desk.specs.inside.Columns.{row_of}
use borrow.Author.Rules.{rules}
use Rattle.desk.proofs.columns.Columns.row.Goals as goal

-- one more seat of the row is as the columns show it
more : (row shown : List Seat) (i : ℕ) (s : Seat) → length row ≡ seat_count → i < seat_count → s ≡ seat_at shown i → ((j : ℕ) → j < i → seat_at row j ≡ seat_at shown j) → (j : ℕ) → j < i + 1 → seat_at (set row i s) j ≡ seat_at shown j
more row shown i s n l here before j m =
    eq-case j i
    (λ q. rw q (get_or-set_same row i s zero_seat (omega arith) ∙ here))
    (λ d. get_or-set_other row i j s zero_seat d ∙ before j (omega (arith, d, m)))

pub loop-i-init : goal.loop-i-init
loop-i-init c = (refl, λ j l. absurd (omega arith))

pub loop-i-preserved : goal.loop-i-preserved
loop-i-preserved c =
    let k = c.args.self.now in
    let v = c.loop-i.invariant in
    (length-set c.loop-i.row c.loop-i.i c.seat_of.result ∙ v.0, more c.loop-i.row (row_of k.keys k.held k.ended) c.loop-i.i c.seat_of.result v.0 (search rules) (c.seat_of.ensures ∙ sym (seat_at_law k.keys k.held k.ended k.sized c.loop-i.i)) v.1)

pub returns : goal.returns
returns c =
    let k = c.args.self.now in
    let v = c.loop-i.invariant in
    let e : c.loop-i.i ≡ seat_count = search rules in
    let n = v.0 in
    ext_get_or zero_seat _ _ (v.0 ∙ sym (length_row k.keys k.held k.ended k.sized)) (λ j m. v.1 j (omega (arith, m, n, e)))
