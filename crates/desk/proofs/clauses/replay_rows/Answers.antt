-- `desk::clauses::replay_rows` meets its contract: all rows so far pass, the columns are where they bring the seats, and the tally is less by them.
use Prim.Native.Nat.{ℕ, ◌<◌}
use mathlib.Core.Bool.{false≢true}
use mathlib.Core.Path.{◌≡◌, refl, sym, ap, ap₂, subst, ◌∙◌}
use native.Mathlib.Numerals.{add-one}
use lib.Dec.{ltb}
use native.Mathlib.Omega.{arith}
use borrow.Author.Tests.{lt-ltb, le-ltb, ltb-true}
use Rattle.desk.specs.Below.{all_below}
use Rattle.desk.specs.Limits.{seat_count}
use Rattle.desk.specs.Memory.{mark_at, cell_at}
use Rattle.desk.specs.inside.Clauses.{row_taken, Tracks}
use Rattle.desk.specs.Tally.{entry_of, letter_at, status_at}
use Rattle.desk.specs.inside.Counted.{uncounted, Leaves}
use Rattle.digits.proofs.Tests.{and_true}
use Rattle.desk.proofs.Below.{all_more, all_fails, all_to, not_came, not_left, out, and_false_r}
use Rattle.desk.proofs.ReplayLaws.{replayed_most}
use Rattle.desk.proofs.ClauseLaws.{part_cell, row_turn, cell_byte, row_listed, tracks_start, tracks_next, turn_good, turn_bad}
use Rattle.desk.proofs.TallyLaws.{leaves_all, row_left, leaves_next}
use Rattle.desk.specs.declared.step.Progress.{Progress}
use borrow.Author.Rules.{rules}
use Rattle.desk.proofs.clauses.replay_rows.Goals as goal

pub loop-i-init : goal.loop-i-init
unfolding all_below
loop-i-init c =
    let p = c.requires in
    record { keys = refl; passed = refl; tracks = tracks_start _ _ _ _ p.none_held.0 p.none_held.1; leaves = leaves_all _ _ p.whole }

pub returns-then-m : goal.returns-then-m
returns-then-m c = (sym (all_fails _ c.loop-i.i _ (search rules) (sym (out _ (sym (out _ (le-ltb _ seat_count c.if-m.true)))))), λ e. absurd (false≢true e))

pub one_more-requires : goal.one_more-requires
one_more-requires c =
    let a = c.args in
    let i : ℕ = c.loop-i.i in
    let m = c.requires.memory in
    let l : mark_at a.marks.now i < seat_count = c.if-m.false in
    let e = ap (λ (p : Progress). p.held) (c.progress.ensures ∙ c.loop-i.invariant.tracks.each (mark_at a.marks.now i) l) in
    let n = replayed_most a.cells.now a.marks.now (mark_at a.marks.now i) i in
    rw e (omega arith)

pub returns-in_default : goal.returns-in_default
returns-in_default c =
    let a = c.args in
    let i : ℕ = c.loop-i.i in
    let v = c.loop-i.invariant in
    let r = c.loop-i.reached in
    let l : mark_at a.marks.now i < seat_count = c.if-m.false in
    let e = row_turn a.reached.now.keys a.cells.now a.marks.now r.held r.ended i c.one_more.ensures c.progress.ensures v.keys (part_cell a.cells.now i) in
    let bad = turn_bad a.reached.now.keys a.cells.now a.marks.now i r.held r.ended v.tracks l c.one_more.result e c.in_default.is in
    (sym (all_fails _ i _ (search rules) (sym (out _ (and_false_r (ltb (mark_at a.marks.now i) seat_count) bad)))), λ x. absurd (false≢true x))

pub take_one-requires : goal.take_one-requires
take_one-requires c =
    let a = c.args in
    let i : ℕ = c.loop-i.i in
    let v = c.loop-i.invariant in
    let r = c.loop-i.reached in
    let l : mark_at a.marks.now i < seat_count = c.if-m.false in
    let e = row_turn a.reached.now.keys a.cells.now a.marks.now r.held r.ended i c.one_more.ensures c.progress.ensures v.keys (part_cell a.cells.now i) in
    let good = turn_good a.reached.now.keys a.cells.now a.marks.now i r.held r.ended v.tracks l c.one_more.result e c.in-Some.p c.in-Some.is in
    let g = and_true (lt-ltb (mark_at a.marks.now i) seat_count l) good in
    let w = row_listed a.reached.now.keys a.cells.now a.marks.now i g in
    let cells = a.cells.now in
    let f = cell_at cells i in
    let x = cell_byte cells i 29 (omega arith) in
    let y = cell_byte cells i 5 (omega arith) in
    rw (x, y) (w.letter, w.status)

pub returns-then-not-take_one : goal.returns-then-not-take_one
returns-then-not-take_one c =
    let a = c.args in
    let i : ℕ = c.loop-i.i in
    let v = c.loop-i.invariant in
    let r = c.loop-i.reached in
    let l : mark_at a.marks.now i < seat_count = c.if-m.false in
    let e = row_turn a.reached.now.keys a.cells.now a.marks.now r.held r.ended i c.one_more.ensures c.progress.ensures v.keys (part_cell a.cells.now i) in
    let good = turn_good a.reached.now.keys a.cells.now a.marks.now i r.held r.ended v.tracks l c.one_more.result e c.in-Some.p c.in-Some.is in
    let g = and_true (lt-ltb (mark_at a.marks.now i) seat_count l) good in
    let w = row_listed a.reached.now.keys a.cells.now a.marks.now i g in
    let cells = a.cells.now in
    let f = cell_at cells i in
    let x = cell_byte cells i 29 (omega arith) in
    let y = cell_byte cells i 5 (omega arith) in
    let some = c.take_one.ensures.0 ∙ ap₂ (λ (m n : ℕ). ltb 0 (entry_of c.loop-i.left m n)) x y in
    let same = row_left a.left.now cells i c.loop-i.left v.leaves f refl w in
    (sym (all_fails _ i _ (search rules) (and_false_r (row_taken a.reached.now.keys cells a.marks.now i) (same ∙ not_came some c.if-not-take_one.true))), λ z. absurd (false≢true z))

pub loop-i-preserved : goal.loop-i-preserved
loop-i-preserved c =
    let a = c.args in
    let i : ℕ = c.loop-i.i in
    let v = c.loop-i.invariant in
    let r = c.loop-i.reached in
    let l : mark_at a.marks.now i < seat_count = c.if-m.false in
    let e = row_turn a.reached.now.keys a.cells.now a.marks.now r.held r.ended i c.one_more.ensures c.progress.ensures v.keys (part_cell a.cells.now i) in
    let good = turn_good a.reached.now.keys a.cells.now a.marks.now i r.held r.ended v.tracks l c.one_more.result e c.in-Some.p c.in-Some.is in
    let g = and_true (lt-ltb (mark_at a.marks.now i) seat_count l) good in
    let w = row_listed a.reached.now.keys a.cells.now a.marks.now i g in
    let cells = a.cells.now in
    let f = cell_at cells i in
    let x = cell_byte cells i 29 (omega arith) in
    let y = cell_byte cells i 5 (omega arith) in
    let some = c.take_one.ensures.0 ∙ ap₂ (λ (m n : ℕ). ltb 0 (entry_of c.loop-i.left m n)) x y in
    let same = row_left a.left.now cells i c.loop-i.left v.leaves f refl w in
    let one = not_left some c.if-not-take_one.false in
    let next = leaves_next a.left.now cells i c.loop-i.left v.leaves f refl w (ltb-true 0 (entry_of c.loop-i.left (letter_at f) (status_at f)) one) in
    let after = c.take_one.ensures.1 (not_left refl c.if-not-take_one.false) ∙ ap₂ (λ (m n : ℕ). uncounted c.loop-i.left m n) x y in
    let to = c.set_progress.ensures in
    record {
      keys = to.keys ∙ v.keys;
      passed = all_more _ _ v.passed (and_true g (same ∙ one));
      tracks = rw (to.held, to.ended) (tracks_next a.reached.now.keys cells a.marks.now i r.held r.ended v.tracks l c.one_more.result e c.in-Some.p c.in-Some.is);
      leaves = rw (after, add-one i) next;
    }

pub returns : goal.returns
returns c =
    let a = c.args in
    let v = c.loop-i.invariant in
    let r = c.loop-i.reached in
    let n : c.loop-i.i ≡ a.count = search rules in (
      sym (all_to c.loop-i.i _ _ n v.passed),
      λ _. (subst (λ (k : ℕ). Tracks a.cells.now a.marks.now k r.held r.ended) n v.tracks, subst (λ (k : ℕ). Leaves a.left.now a.cells.now k c.loop-i.left) n v.leaves),
    )
