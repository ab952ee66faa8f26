-- `rei2::reply::rei2_write_reply` meets its contract.
use Rattle.rei2.proofs.TimingLaws.{within, wrote_reply}
use Rattle.rei2.proofs.reply.rei2_write_reply.Goals as goal

pub slice_bounds-write_reply-end : goal.slice_bounds-write_reply-end
slice_bounds-write_reply-end c = rw c.room_in-room.ensures (within c.left_over-left.result _)

pub returns : goal.returns
returns c =
    let e = rw c.record_of.ensures at c.write_reply-answer.ensures in
    rw (c.or_left.ensures, c.written.ensures)
    (wrote_reply _ _ _ c.left_over-left.ensures _ c.room_in-room.ensures _ _ e)
