-- The three kinds of frame are read and written faithfully. Assumes nothing.
use Rattle.frames.specs.Demands.{FramesAreFaithful}
use Rattle.frames.proofs.RequestLaws.{request_faithful}
use Rattle.frames.proofs.ReplyLaws.{reply_faithful}
use Rattle.frames.proofs.DynamicLaws.{dynamic_faithful}

pub frames_are_faithful : FramesAreFaithful
frames_are_faithful = record { of_request = request_faithful; of_reply = reply_faithful; of_dynamic = dynamic_faithful }
