-- A reader's refusal is handed on. Assumes nothing.
use Rattle.desk.specs.Hearing.{heard}
use Rattle.desk.specs.Calls.{open_tried, opens, reply_tried, replies}
use Rattle.desk.specs.HandedOn.{RefusalsAreHandedOn}

pub refusals_are_handed_on : RefusalsAreHandedOn
unfolding heard open_tried opens reply_tried replies
refusals_are_handed_on = record { by_opening = λ m f why d e. rw (d, e); by_reply = λ m f why d e. rw (d, e) }
