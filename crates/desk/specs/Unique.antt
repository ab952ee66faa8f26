-- Only one outcome meets the promise of a call that changes something. The other promises equate the answer itself with a definition.
use Rattle.std.specs.Prelude.{ℕ, Result, List}
use Rattle.digits.specs.Once.{Once}
use Rattle.desk.specs.declared.state.Emptied.{Emptied}
use Rattle.desk.specs.declared.done.Done.{Done}
use Rattle.desk.specs.declared.done.Step.{Step}
use Rattle.desk.specs.declared.reply.ReplyRefusal.{ReplyRefusal}
use Rattle.desk.specs.declared.capture.Counts.{Counts}
use Rattle.desk.specs.declared.capture.CaptureRefusal.{CaptureRefusal}
use Rattle.desk.specs.Memory.{Memory, memory}
use Rattle.desk.specs.Calls.{ResetDid, OpenDid, ReplyDid, OpenStepDid, ReplyStepDid}
use Rattle.desk.specs.Capture.{TookCapture}
use Rattle.desk.specs.Tally.{Table, LookAs}

pub record OneOutcome : Type 0 where
  pub «open» : (m : Memory) (f : List ℕ) → Once (OpenDid m f)
  pub look : (t : Table) (letter status : ℕ) → Once (LookAs t letter status)
  pub reset : Once (λ (o : Emptied × List (List ℕ)). ResetDid o.0 o.1)
  -- with the cells, the marks and the tally after the call
  pub reply : (m : Memory) (f : List ℕ) → Once (λ (o : Done (Result ℕ ReplyRefusal) × (List ℕ × (List ℕ × List (List ℕ)))). ReplyDid m f o.0 o.1.0 o.1.1.0 o.1.1.1)
  pub open_step : (m : Memory) (f : List ℕ) → Once (OpenStepDid m f)
  pub reply_step : (m : Memory) (f : List ℕ) → Once (λ (o : Step (Result ℕ ReplyRefusal) × (List ℕ × (List ℕ × List (List ℕ)))). ReplyStepDid m f o.0 o.1.0 o.1.1.0 o.1.1.1)
  pub take_capture : (m : Memory) (s : List ℕ)
      → Once (λ (o : Done (Result Counts CaptureRefusal) × (List ℕ × (List ℕ × List (List ℕ)))). TookCapture m s o.0.answer (memory o.0.desk o.0.row o.1.0 o.1.1.0 o.1.1.1))
