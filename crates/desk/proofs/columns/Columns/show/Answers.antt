-- `desk::columns::Columns::show` meets its contract.
use Prim.Native.Nat.{ℕ}
use native.Mathlib.Omega.{arith}
use mathlib.Core.Path.{◌≡◌, refl, sym, ap, ◌∙◌}
use Rattle.desk.specs.Below.{all_below}
use Rattle.desk.specs.Limits.{seat_count}
use Rattle.desk.specs.Seats.{seat_at}
use Rattle.desk.specs.declared.state.Seat.{Seat}
use Rattle.desk.specs.Key.{seat_key}
use Rattle.desk.specs.inside.Columns.{key_number}
use mathlib.Core.Path.{ap₂}
use mathlib.Core.Bool.{false≢true}
use mathlib.Core.List.{List}
use lib.ListN.{set}
use Rattle.desk.specs.declared.key.Key.{Key}
use Rattle.desk.specs.declared.step.Progress.{Progress}
use Rattle.desk.specs.inside.Columns.{row_of}
use Rattle.desk.proofs.Below.{all_more, all_fails, all_to, not_came, not_left}
use Rattle.desk.proofs.ColumnLaws.{shown_next, shown_all, good_short, seat_back}
use borrow.Author.Rules.{rules}
use Rattle.desk.proofs.columns.Columns.show.Goals as goal

pub loop-i-init : goal.loop-i-init
unfolding all_below
loop-i-init c = record { good = refl; shown = λ j l. absurd (omega arith) }

pub returns-then-not-seat_good : goal.returns-then-not-seat_good
returns-then-not-seat_good c = record { good = sym (all_fails seat_count c.loop-i.i _ (search rules) (not_came c.seat_good.ensures c.if-not-seat_good.true)); shown = λ e. absurd (false≢true e) }

pub set_key-requires : goal.set_key-requires
set_key-requires c = (search rules, rw c.key_of.ensures (good_short _ _ _ (not_left c.seat_good.ensures c.if-not-seat_good.false)))

pub loop-i-preserved : goal.loop-i-preserved
loop-i-preserved c =
    let g = not_left c.seat_good.ensures c.if-not-seat_good.false in
    let a = c.args in
    let i : ℕ = c.loop-i.i in
    let s : Seat = seat_at a.row.now i in
    let v = c.loop-i.invariant in
    let k = c.loop-i.self in
    let one = c.set_key.ensures in
    let two = c.set_progress.ensures in
    let keys : c.set_progress.new.self.keys ≡ set k.keys i (key_number (seat_key s)) = two.keys ∙ one.keys ∙ ap (λ (x : Key). set k.keys i (key_number x)) c.key_of.ensures in
    let held : c.set_progress.new.self.held ≡ set k.held i s.held = two.held ∙ ap₂ (λ (l : List ℕ) (p : Progress). set l i p.held) one.held c.progress_of.ensures in
    let ended : c.set_progress.new.self.ended ≡ set k.ended i s.ended = two.ended ∙ ap₂ (λ (l : List ℕ) (p : Progress). set l i p.ended) one.ended c.progress_of.ensures in
    record {
      good = all_more _ _ v.good g;
      shown = λ j l. (λ x. seat_at (row_of (keys x) (held x) (ended x)) j) ∙ shown_next k.keys k.held k.ended k.sized a.row.now i (key_number (seat_key s)) s.held s.ended (search rules) (seat_back s a.bits i g) v.shown j l;
    }

pub returns : goal.returns
returns c =
    let e : c.loop-i.i ≡ seat_count = search rules in
    let v = c.loop-i.invariant in
    let k = c.loop-i.self in
    record { good = sym (all_to c.loop-i.i seat_count _ e v.good); shown = λ _. shown_all k.keys k.held k.ended k.sized c.args.row.now c.loop-i.i e c.requires v.shown }
