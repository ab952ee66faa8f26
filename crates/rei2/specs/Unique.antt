-- Only one outcome meets the promise of a call on lent memory: its answer and everything that it leaves. The other promises are equations.
use Rattle.std.specs.Prelude.{ℕ, List}
use Rattle.digits.specs.Once.{Once}
use Rattle.frames.specs.declared.request.StaticRequest.{StaticRequest}
use Rattle.frames.specs.declared.dynamic.DynamicRequest.{DynamicRequest}
use Rattle.frames.specs.Request.{request}
use Rattle.frames.specs.Dynamic.{dynamic}
use Rattle.desk.specs.declared.state.Seat.{Seat}
use Rattle.desk.specs.declared.state.Desk.{Desk}
use Rattle.rei2.specs.declared.lent.DeskAnswer.{DeskAnswer}
use Rattle.rei2.specs.declared.lent.CapturedAnswer.{CapturedAnswer}
use Rattle.rei2.specs.declared.request.WrittenAnswer.{WrittenAnswer}
use Rattle.rei2.specs.declared.reply.ReplyRecord.{ReplyRecord}
use Rattle.rei2.specs.declared.listed.ListedAnswer.{ListedAnswer}
use Rattle.rei2.specs.Lent.{ResetLent, OpenLent, ReplyLent, CaptureLent}
use Rattle.rei2.specs.Frames.{WroteLent}
use Rattle.rei2.specs.Reply.{WroteReplyLent}
use Rattle.rei2.specs.Calls.{ListLent}
use Rattle.rei2.specs.Names.{NamedLent}

pub record OneOutcome : Type 0 where
  pub rei2_reset : (seats : List Seat) (desk : Desk) (tally : List (List ℕ)) → Once λ (o : DeskAnswer × (List Seat × List (List ℕ))). ResetLent seats desk tally o.0 o.1.0 o.1.1
  pub rei2_open : (seats : List Seat) (desk : Desk) (cells marks : List ℕ) (tally : List (List ℕ)) (frame : List ℕ)
      → Once λ (o : DeskAnswer × List Seat). OpenLent seats desk cells marks tally frame o.0 o.1
  pub rei2_reply : (seats : List Seat) (desk : Desk) (cells marks : List ℕ) (tally : List (List ℕ)) (frame : List ℕ)
      → Once λ (o : DeskAnswer × (List Seat × (List ℕ × (List ℕ × List (List ℕ))))). ReplyLent seats desk cells marks tally frame o.0 o.1.0 o.1.1.0 o.1.1.1.0 o.1.1.1.1
  pub rei2_capture : (seats : List Seat) (desk : Desk) (cells marks : List ℕ) (tally : List (List ℕ)) (capture : List ℕ)
      → Once λ (o : CapturedAnswer × (List Seat × (List ℕ × (List ℕ × List (List ℕ))))). CaptureLent seats desk cells marks tally capture o.0 o.1.0 o.1.1.0 o.1.1.1.0 o.1.1.1.1
  pub rei2_write_request : (r : StaticRequest) (out : List ℕ) → Once λ (o : WrittenAnswer × List ℕ). WroteLent request r out o.0 o.1
  pub rei2_write_reply : (c : ReplyRecord) (out : List ℕ) → Once λ (o : WrittenAnswer × List ℕ). WroteReplyLent c out o.0 o.1
  pub rei2_write_dynamic : (r : DynamicRequest) (out : List ℕ) → Once λ (o : WrittenAnswer × List ℕ). WroteLent dynamic r out o.0 o.1
  pub rei2_list : (cells marks capture out : List ℕ)
      → Once λ (o : ListedAnswer × (List ℕ × (List ℕ × List ℕ))). ListLent cells marks capture out o.0 o.1.0 o.1.1.0 o.1.1.1
  pub rei2_refusal_name : (name out : List ℕ) → Once λ (o : WrittenAnswer × List ℕ). NamedLent name out o.0 o.1
