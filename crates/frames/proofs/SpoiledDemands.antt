-- The three kinds of frame name the spoiled byte. Assumes nothing.
use Rattle.frames.specs.Spoiled.{SpoiledBytesAreNamed}
use Rattle.frames.proofs.SpoiledLaws.{names_spoiled}
use Rattle.frames.proofs.Places.{request_stands, reply_stands, dynamic_stands}
use Rattle.frames.proofs.RequestLaws.{request_sound}
use Rattle.frames.proofs.ReplyLaws.{reply_sound}
use Rattle.frames.proofs.DynamicLaws.{dynamic_sound}

pub spoiled_bytes_are_named : SpoiledBytesAreNamed
spoiled_bytes_are_named = record {
  of_request = names_spoiled request_sound request_stands;
  of_reply = names_spoiled reply_sound reply_stands;
  of_dynamic = names_spoiled dynamic_sound dynamic_stands;
}
