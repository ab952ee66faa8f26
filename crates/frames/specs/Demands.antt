-- What is demanded of reading and writing holds of the three kinds of frame. Every record of a request is whole: it has no arrays.
use Rattle.frames.specs.Faithful.{Faithful}
use Rattle.frames.specs.Request.{request}
use Rattle.frames.specs.Reply.{reply, Whole}
use Rattle.frames.specs.Dynamic.{dynamic}

pub record FramesAreFaithful : Type 0 where
  pub of_request : Faithful request (λ _. Unit {0})
  pub of_reply : Faithful reply Whole
  pub of_dynamic : Faithful dynamic (λ _. Unit {0})
