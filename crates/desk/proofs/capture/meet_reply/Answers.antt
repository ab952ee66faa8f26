-- `desk::capture::meet_reply` meets its contract.
use mathlib.Core.List.{List}
use mathlib.Core.Path.{◌≡◌, refl, sym, ap, ap₂, ◌∙◌}
use native.Mathlib.Omega.{arith}
use Prim.Native.Nat.{ℕ}
use lib.ListN.{set}
use Rattle.digits.specs.Told.{gives, refuses}
use Rattle.desk.specs.Memory.{Memory, memory}
use Rattle.desk.specs.Tally.{counted}
use Rattle.desk.specs.Step.{advanced}
use Rattle.desk.specs.inside.Shown.{shown}
use Rattle.desk.specs.inside.Columns.{row_of}
use Rattle.desk.specs.declared.state.Seat.{Seat}
use Rattle.desk.specs.declared.step.Progress.{Progress}
use Rattle.desk.specs.declared.capture.Fate.TheVariants.{Collected}
use Rattle.desk.specs.Calls.{reply_tried, replies, reply_refused}
use Rattle.desk.proofs.ColumnLaws.{seat_at_law}
use Rattle.desk.proofs.StepLaws.{took, took_room, took_countable}
use Rattle.desk.proofs.OutcomeLaws.{reply_done, not_taken_law}
use Rattle.desk.proofs.JudgeLaws.{reply_row, grown_columns}
use Rattle.desk.proofs.CaptureLaws.{met_by}
use Rattle.desk.proofs.capture.meet_reply.Goals as goal

pub progress-requires : goal.progress-requires
progress-requires c =
    let a = c.args in
    let k = a.columns.now in
    let m : Memory = memory a.desk.now (shown k) a.cells.now a.marks.now a.tally.now in
    let f : List ℕ = a.frame.now in
    let tried = rw c.capacity.ensures at c.judged.ensures ∙ reply_row a.desk.now (shown k) k a.cells.now a.marks.now a.tally.now refl c.requires f in
    let t = c.in-Ok.taking in
    let given : gives t ≡ reply_tried m f = rw c.in-Ok.is at tried in
    let done = took m f t (sym given) in
    let room = took_room m f t done in
    room.seat

pub advanced-p-requires : goal.advanced-p-requires
advanced-p-requires c =
    let a = c.args in
    let k = a.columns.now in
    let m : Memory = memory a.desk.now (shown k) a.cells.now a.marks.now a.tally.now in
    let f : List ℕ = a.frame.now in
    let tried = rw c.capacity.ensures at c.judged.ensures ∙ reply_row a.desk.now (shown k) k a.cells.now a.marks.now a.tally.now refl c.requires f in
    let t = c.in-Ok.taking in
    let given : gives t ≡ reply_tried m f = rw c.in-Ok.is at tried in
    let done = took m f t (sym given) in
    let room = took_room m f t done in
    let h = ap (λ (s : Seat). s.held) (seat_at_law k.keys k.held k.ended k.sized t.seat) in
    let e = ap (λ (p : Progress). p.held) c.progress.ensures in
    omega (arith, room.held, room.count, h, e)

pub set_progress-requires : goal.set_progress-requires
set_progress-requires c =
    let a = c.args in
    let k = a.columns.now in
    let m : Memory = memory a.desk.now (shown k) a.cells.now a.marks.now a.tally.now in
    let f : List ℕ = a.frame.now in
    let tried = rw c.capacity.ensures at c.judged.ensures ∙ reply_row a.desk.now (shown k) k a.cells.now a.marks.now a.tally.now refl c.requires f in
    let t = c.in-Ok.taking in
    let given : gives t ≡ reply_tried m f = rw c.in-Ok.is at tried in
    let done = took m f t (sym given) in
    let room = took_room m f t done in
    room.seat

pub count_one-requires : goal.count_one-requires
count_one-requires c =
    let a = c.args in
    let k = a.columns.now in
    let m : Memory = memory a.desk.now (shown k) a.cells.now a.marks.now a.tally.now in
    let f : List ℕ = a.frame.now in
    let tried = rw c.capacity.ensures at c.judged.ensures ∙ reply_row a.desk.now (shown k) k a.cells.now a.marks.now a.tally.now refl c.requires f in
    let t = c.in-Ok.taking in
    let given : gives t ≡ reply_tried m f = rw c.in-Ok.is at tried in
    let done = took m f t (sym given) in
    let room = took_room m f t done in
    let w = took_countable m f t done in
    rw c.byte_at.ensures (w.letter, (w.status, omega (arith, w.few, room.count)))

pub put_reply-requires : goal.put_reply-requires
put_reply-requires c =
    let a = c.args in
    let k = a.columns.now in
    let m : Memory = memory a.desk.now (shown k) a.cells.now a.marks.now a.tally.now in
    let f : List ℕ = a.frame.now in
    let tried = rw c.capacity.ensures at c.judged.ensures ∙ reply_row a.desk.now (shown k) k a.cells.now a.marks.now a.tally.now refl c.requires f in
    let t = c.in-Ok.taking in
    let given : gives t ≡ reply_tried m f = rw c.in-Ok.is at tried in
    let done = took m f t (sym given) in
    let room = took_room m f t done in
    record { seat = room.seat; count = room.count; mark = room.marks; cell = room.cells; frame = room.frame }

pub returns-in-Ok : goal.returns-in-Ok
returns-in-Ok c =
    let a = c.args in
    let k = a.columns.now in
    let m : Memory = memory a.desk.now (shown k) a.cells.now a.marks.now a.tally.now in
    let f : List ℕ = a.frame.now in
    let tried = rw c.capacity.ensures at c.judged.ensures ∙ reply_row a.desk.now (shown k) k a.cells.now a.marks.now a.tally.now refl c.requires f in
    let t = c.in-Ok.taking in
    let given : gives t ≡ reply_tried m f = rw c.in-Ok.is at tried in
    let done = took m f t (sym given) in
    let room = took_room m f t done in
    let w = c.put_reply.ensures in
    let to = c.set_progress.ensures in
    let p = c.advanced-p.ensures ∙ ap (λ (p : Progress). advanced p t.status) c.progress.ensures in
    let row =
    (λ i. row_of (to.keys i) (to.held i) (to.ended i))
    ∙ ap (λ (x : Progress). row_of k.keys (set k.held t.seat x.held) (set k.ended t.seat x.ended)) p
    ∙ grown_columns a.desk.now k.keys k.held k.ended a.cells.now a.marks.now a.tally.now k.sized c.requires t.seat t.status in
    let tally = c.count_one.ensures ∙ ap₂ (counted a.tally.now) c.byte_at.ensures (took_countable m f t done).same in
    met_by m f _ _ (replies m f) Collected (gives t.seat) refl
    (reply_done m f t _ given (λ i. record { row = row i; bits = w.bits i; count = w.count i; cells = w.cells i; marks = w.marks i; tally = tally i }))

pub returns-in-Err : goal.returns-in-Err
returns-in-Err c =
    let a = c.args in
    let k = a.columns.now in
    let m : Memory = memory a.desk.now (shown k) a.cells.now a.marks.now a.tally.now in
    let f : List ℕ = a.frame.now in
    let tried = rw c.capacity.ensures at c.judged.ensures ∙ reply_row a.desk.now (shown k) k a.cells.now a.marks.now a.tally.now refl c.requires f in
    let why = reply_refused c.in-Err.field-0 in
    met_by m f _ _ (replies m f) Collected (refuses why) refl (not_taken_law m f why (rw c.in-Err.is at tried))
