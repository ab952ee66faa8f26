-- Only one outcome meets the promise of a reader or of a writer. A writer's outcome is its answer and the output after it.
use Rattle.std.specs.Prelude.{ℕ, List, replicate, Result}
use Rattle.digits.specs.Once.{Once}
use Rattle.frames.specs.declared.refusals.WriteRefusal.{WriteRefusal}
use Rattle.frames.specs.declared.request.StaticRequest.{StaticRequest}
use Rattle.frames.specs.declared.dynamic.DynamicRequest.{DynamicRequest}
use Rattle.frames.specs.declared.reply.StaticReply.{StaticReply}
use Rattle.frames.specs.declared.reply.ReplyFrame.{ReplyFrame}
use Rattle.frames.specs.Kind.{Wrote}
use Rattle.frames.specs.Request.{request, RequestAs}
use Rattle.frames.specs.Reply.{reply, ReadAs, CheckedAs}
use Rattle.frames.specs.Dynamic.{dynamic, DynamicAs}

pub record OneOutcome : Type 0 where
  pub read_request : (s : List ℕ) → Once (RequestAs s)
  pub write_request : (r : StaticRequest) (out : List ℕ) → Once (λ (o : Result (Unit {0}) WriteRefusal × List ℕ). Wrote request r out o.0 o.1)
  pub read_reply : (s : List ℕ) → Once (ReadAs s)
  pub check_reply : (s : List ℕ) → Once (CheckedAs s)
  pub write_reply : (r : StaticReply) (out : List ℕ) → Once (λ (o : Result (Unit {0}) WriteRefusal × List ℕ). Wrote reply r out o.0 o.1)
  pub read_reply_value : (frame : List ℕ) → Once (ReadAs frame)
  pub write_reply_value : (r : StaticReply) → Once (λ (a : ReplyFrame). Wrote reply r (replicate 51 0) a.answer a.frame)
  pub read_dynamic : (s : List ℕ) → Once (DynamicAs s)
  pub write_dynamic : (r : DynamicRequest) (out : List ℕ) → Once (λ (o : Result (Unit {0}) WriteRefusal × List ℕ). Wrote dynamic r out o.0 o.1)
