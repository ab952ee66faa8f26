-- `desk::reply::reply_step` meets its contract.
use mathlib.Core.List.{List}
use mathlib.Core.Path.{◌≡◌, refl, sym, ap₂, ◌∙◌}
use native.Mathlib.Omega.{arith}
use Prim.Native.Nat.{ℕ}
use lib.ListN.{length, set}
use Rattle.digits.specs.Told.{gives}
use Rattle.desk.specs.Limits.{seat_count}
use Rattle.desk.specs.Memory.{Memory, memory}
use Rattle.desk.specs.Tally.{counted}
use Rattle.desk.specs.Calls.{reply_tried, replies}
use Rattle.desk.proofs.StepLaws.{took, Room, took_room, took_countable}
use Rattle.desk.proofs.OutcomeLaws.{one_changed, none_changed, not_taken_law, reply_done}
use borrow.Author.Rules.{rules}
use Rattle.desk.proofs.reply.reply_step.Goals as goal

pub put_reply-after-requires : goal.put_reply-after-requires
put_reply-after-requires c =
    let M : Memory = memory c.args.desk c.args.row c.args.cells.now c.args.marks.now c.args.tally.now in
    let F : List ℕ = c.args.frame.now in
    let takes : gives c.in-Ok.taking ≡ reply_tried M F = rw c.in-Ok.is at c.tried.ensures in
    let room : Room (M) (F) c.in-Ok.taking = took_room (M) (F) c.in-Ok.taking
    (took (M) (F) c.in-Ok.taking (sym (takes))) in
    let r = room in record { seat = r.seat; count = r.count; mark = r.marks; cell = r.cells; frame = r.frame }

pub count_one-requires : goal.count_one-requires
count_one-requires c =
    let M : Memory = memory c.args.desk c.args.row c.args.cells.now c.args.marks.now c.args.tally.now in
    let F : List ℕ = c.args.frame.now in
    let takes : gives c.in-Ok.taking ≡ reply_tried M F = rw c.in-Ok.is at c.tried.ensures in
    let room : Room (M) (F) c.in-Ok.taking = took_room (M) (F) c.in-Ok.taking
    (took (M) (F) c.in-Ok.taking (sym (takes))) in
    let w = took_countable (M) (F) c.in-Ok.taking (took (M) (F) c.in-Ok.taking (sym (takes))) in
    let r = room in
    rw c.byte_at.ensures (w.letter, (w.status, omega (arith, w.few, r.count)))

pub overflow_cast-result : goal.overflow_cast-result
overflow_cast-result c =
    let M : Memory = memory c.args.desk c.args.row c.args.cells.now c.args.marks.now c.args.tally.now in
    let F : List ℕ = c.args.frame.now in
    let takes : gives c.in-Ok.taking ≡ reply_tried M F = rw c.in-Ok.is at c.tried.ensures in
    let room : Room (M) (F) c.in-Ok.taking = took_room (M) (F) c.in-Ok.taking
    (took (M) (F) c.in-Ok.taking (sym (takes))) in
    let r = room in omega (arith, r.seat)

pub offset_bounds-row-at : goal.offset_bounds-row-at
offset_bounds-row-at c =
    let M : Memory = memory c.args.desk c.args.row c.args.cells.now c.args.marks.now c.args.tally.now in
    let F : List ℕ = c.args.frame.now in
    let takes : gives c.in-Ok.taking ≡ reply_tried M F = rw c.in-Ok.is at c.tried.ensures in
    let room : Room (M) (F) c.in-Ok.taking = took_room (M) (F) c.in-Ok.taking
    (took (M) (F) c.in-Ok.taking (sym (takes))) in
    let r = room in omega (arith, r.seat)

pub bounds-row-at : goal.bounds-row-at
bounds-row-at c =
    let M : Memory = memory c.args.desk c.args.row c.args.cells.now c.args.marks.now c.args.tally.now in
    let F : List ℕ = c.args.frame.now in
    let takes : gives c.in-Ok.taking ≡ reply_tried M F = rw c.in-Ok.is at c.tried.ensures in
    let room : Room (M) (F) c.in-Ok.taking = took_room (M) (F) c.in-Ok.taking
    (took (M) (F) c.in-Ok.taking (sym (takes))) in
    (room).seat

pub grown_seat-requires : goal.grown_seat-requires
grown_seat-requires c =
    let M : Memory = memory c.args.desk c.args.row c.args.cells.now c.args.marks.now c.args.tally.now in
    let F : List ℕ = c.args.frame.now in
    let takes : gives c.in-Ok.taking ≡ reply_tried M F = rw c.in-Ok.is at c.tried.ensures in
    let room : Room (M) (F) c.in-Ok.taking = took_room (M) (F) c.in-Ok.taking
    (took (M) (F) c.in-Ok.taking (sym (takes))) in
    let r = room in omega (arith, r.held, r.count)

pub returns-in-Ok : goal.returns-in-Ok
returns-in-Ok c =
    let full : length c.args.row ≡ seat_count = search rules in
    let M : Memory = memory c.args.desk c.args.row c.args.cells.now c.args.marks.now c.args.tally.now in
    let F : List ℕ = c.args.frame.now in
    let takes : gives c.in-Ok.taking ≡ reply_tried M F = rw c.in-Ok.is at c.tried.ensures in
    let room : Room (M) (F) c.in-Ok.taking = took_room (M) (F) c.in-Ok.taking
    (took (M) (F) c.in-Ok.taking (sym (takes))) in
    let a = c.args in
    let taking = c.in-Ok.taking in
    let w = c.put_reply-after.ensures in
    let tally = c.count_one.ensures ∙ ap₂ (counted a.tally.now) c.byte_at.ensures (took_countable (M) (F) taking (took (M) (F) taking (sym (takes)))).same in
    let did = reply_done (M) (F) taking _ (takes) (λ i. record {
      row = set a.row taking.seat (c.grown_seat.ensures i);
      bits = w.bits i;
      count = w.count i;
      cells = w.cells i;
      marks = w.marks i;
      tally = tally i;
    }) in
    (one_changed (M) _ (replies (M) (F)) (full) taking.seat c.grown_seat.result (room).seat refl did, did)

pub returns-in-Err : goal.returns-in-Err
returns-in-Err c =
    let M : Memory = memory c.args.desk c.args.row c.args.cells.now c.args.marks.now c.args.tally.now in
    let F : List ℕ = c.args.frame.now in
    let did = not_taken_law M F _ (rw c.in-Err.is at c.tried.ensures) in
    (none_changed M (replies M F) _ did, did)
