-- `desk::clauses::is_desk` meets its contract.
use Prim.Native.Nat.{ℕ, ◌^◌}
use native.Mathlib.Omega.{arith}
use mathlib.Core.Bool.{◌&&◌}
use mathlib.Core.List.{List}
use mathlib.Core.Path.{◌≡◌, refl, sym, ap, ◌∙◌}
use borrow.Author.Tests.{lt-ltb, le-ltb, le-leb, lt-leb}
use Rattle.desk.specs.Limits.{seat_count}
use Rattle.desk.specs.Below.{all_below}
use Rattle.desk.specs.Memory.{memory, capacity}
use Rattle.desk.specs.Replay.{replays}
use Rattle.desk.specs.Tally.{tally_right}
use Rattle.desk.specs.inside.Shown.{shown}
use Rattle.desk.specs.inside.Counted.{row_passes}
use Rattle.desk.proofs.Below.{never, not_came, not_left, past, out}
use Rattle.desk.proofs.ColumnLaws.{length_row, keys_apart}
use Rattle.desk.proofs.TallyLaws.{leaves_all}
use Rattle.desk.proofs.ClauseLaws.{desk_by, cap_room, passes_good, tracks_start, rows_pass, rows_fail}
use Rattle.desk.proofs.clauses.is_desk.Goals as goal

pub returns-then-desk-gt-ALL : goal.returns-then-desk-gt-ALL
returns-then-desk-gt-ALL c =
    let a = c.args in
    let k = a.columns.now in
    let m = memory a.desk (shown k) a.cells.now a.marks.now a.tally.now in
    desk_by m (length_row k.keys k.held k.ended k.sized) (out _ (le-ltb m.bits (2 ^ seat_count) (omega arith)))

pub returns-then-not-all_apart : goal.returns-then-not-all_apart
returns-then-not-all_apart c =
    let a = c.args in
    let p = c.requires in
    let k = a.columns.now in
    let m = memory a.desk (shown k) a.cells.now a.marks.now a.tally.now in
    let small = lt-ltb m.bits (2 ^ seat_count) (omega arith) in
    desk_by m (length_row k.keys k.held k.ended k.sized)
    (past small (past p (out _ (not_came (c.all_apart.ensures ∙ keys_apart k.keys k.held k.ended k.sized m.bits p) c.if-not-all_apart.true))))

pub returns-then-count-capacity : goal.returns-then-count-capacity
returns-then-count-capacity c =
    let a = c.args in
    let p = c.requires in
    let k = a.columns.now in
    let m = memory a.desk (shown k) a.cells.now a.marks.now a.tally.now in
    let small = lt-ltb m.bits (2 ^ seat_count) (omega arith) in
    let apart = not_left (c.all_apart.ensures ∙ keys_apart k.keys k.held k.ended k.sized m.bits p) c.if-not-all_apart.false in
    desk_by m (length_row k.keys k.held k.ended k.sized) (past small (past p (past apart (out _ (lt-leb m.count (capacity m) (omega arith))))))

pub returns-then-not-is_whole : goal.returns-then-not-is_whole
returns-then-not-is_whole c = never c.is_whole.result c.is_whole.ensures.0 (not_came refl c.if-not-is_whole.true)

pub returns-then-count-eq0 : goal.returns-then-count-eq0
unfolding all_below
returns-then-count-eq0 c =
    let a = c.args in
    let p = c.requires in
    let k = a.columns.now in
    let m = memory a.desk (shown k) a.cells.now a.marks.now a.tally.now in
    let small = lt-ltb m.bits (2 ^ seat_count) (omega arith) in
    let apart = not_left (c.all_apart.ensures ∙ keys_apart k.keys k.held k.ended k.sized m.bits p) c.if-not-all_apart.false in
    let fits = le-leb m.count (capacity m) (omega arith) in
    let z : 0 ≡ m.count = sym c.if-count-eq0.true in
    let w = c.is_whole.ensures.1 in
    let r = c.without_records-reached.ensures in
    let none = tracks_start m.cells m.marks _ _ r.held r.ended in
    let e = rows_pass k.keys k.held k.ended k.sized m.bits p m.cells m.marks 0 refl _ _ none m.tally m.tally w (leaves_all m.tally m.cells w) c.same_progress.ensures c.is_clear.ensures in
    desk_by m (length_row k.keys k.held k.ended k.sized)
    (past small (past p (past apart (past fits (e ∙ ap (λ (k : ℕ). replays m.row m.bits k m.cells m.marks && tally_right m.cells k m.tally) z)))))

pub replay_rows-requires : goal.replay_rows-requires
replay_rows-requires c =
    let r = c.without_records-reached.ensures in
    record { memory = cap_room _ _ _ (omega arith); none_held = (r.held, r.ended); whole = c.is_whole.ensures.1 }

pub returns-then-not-replay_rows : goal.returns-then-not-replay_rows
returns-then-not-replay_rows c =
    let a = c.args in
    let p = c.requires in
    let k = a.columns.now in
    let m = memory a.desk (shown k) a.cells.now a.marks.now a.tally.now in
    let small = lt-ltb m.bits (2 ^ seat_count) (omega arith) in
    let apart = not_left (c.all_apart.ensures ∙ keys_apart k.keys k.held k.ended k.sized m.bits p) c.if-not-all_apart.false in
    let fits = le-leb m.count (capacity m) (omega arith) in
    let own = ap (λ (l : List ℕ). all_below m.count (row_passes l m.tally m.cells m.marks)) c.without_records-reached.ensures.keys in
    let bad = not_came (c.replay_rows.ensures.0 ∙ own) c.if-not-replay_rows.true in
    desk_by m (length_row k.keys k.held k.ended k.sized)
    (past small (past p (past apart (past fits (sym (rows_fail k.keys k.held k.ended k.sized m.bits p m.cells m.marks m.count m.tally bad))))))

pub returns : goal.returns
returns c =
    let a = c.args in
    let p = c.requires in
    let k = a.columns.now in
    let m = memory a.desk (shown k) a.cells.now a.marks.now a.tally.now in
    let small = lt-ltb m.bits (2 ^ seat_count) (omega arith) in
    let apart = not_left (c.all_apart.ensures ∙ keys_apart k.keys k.held k.ended k.sized m.bits p) c.if-not-all_apart.false in
    let fits = le-leb m.count (capacity m) (omega arith) in
    let own = ap (λ (l : List ℕ). all_below m.count (row_passes l m.tally m.cells m.marks)) c.without_records-reached.ensures.keys in
    let w = c.replay_rows in
    let passed = not_left (w.ensures.0 ∙ own) c.if-not-replay_rows.false in
    let left = w.ensures.1 (not_left refl c.if-not-replay_rows.false) in
    let all = passes_good k.keys k.held k.ended k.sized m.bits p m.cells m.marks m.count m.tally passed in
    desk_by m (length_row k.keys k.held k.ended k.sized) (past small (past p (past apart (past fits
    (rows_pass k.keys k.held k.ended k.sized m.bits p m.cells m.marks m.count all _ _ left.0 m.tally _ c.is_whole.ensures.1 left.1 c.same_progress-2.ensures c.is_clear-2.ensures)))))
