-- A refused call changes nothing: the state is returned as it was given, and every seat, cell, mark, number of the tally and byte that is lent to be written stays as it was.
use Rattle.std.specs.Prelude.{ℕ, List, ◌≡◌}
use Rattle.frames.specs.Kind.{Kind}
use Rattle.desk.specs.declared.state.Seat.{Seat}
use Rattle.desk.specs.declared.state.Desk.{Desk}
use Rattle.rei2.specs.declared.lent.DeskAnswer.{DeskAnswer}
use Rattle.rei2.specs.declared.lent.CapturedAnswer.{CapturedAnswer}
use Rattle.rei2.specs.declared.request.WrittenAnswer.{WrittenAnswer}
use Rattle.rei2.specs.declared.reply.ReplyRecord.{ReplyRecord}
use Rattle.rei2.specs.declared.listed.ListedAnswer.{ListedAnswer}
use Rattle.rei2.specs.Lent.{ResetLent, OpenLent, ReplyLent, CaptureLent}
use Rattle.rei2.specs.Frames.{WroteLent}
use Rattle.rei2.specs.Reply.{WroteReplyLent}
use Rattle.rei2.specs.Calls.{ListLent}
use Rattle.rei2.specs.Names.{NamedLent}

-- an answer's number is that of a refusal
abbrev pub Refusing : ℕ → Type 0
Refusing number = number ≡ 0 → ⊥

module _ (seats : List Seat) (desk : Desk) where
  abbrev pub ResetKeeps : List (List ℕ) → Type 0
  ResetKeeps tally =
      (r : DeskAnswer) (seats' : List Seat) (tally' : List (List ℕ)) → ResetLent seats desk tally r seats' tally' → Refusing r.refusal
      → (r.desk ≡ desk) × ((seats' ≡ seats) × (tally' ≡ tally))

  module _ (cells marks : List ℕ) (tally : List (List ℕ)) where
    abbrev pub OpenKeeps : List ℕ → Type 0
    OpenKeeps frame =
        (r : DeskAnswer) (seats' : List Seat) → OpenLent seats desk cells marks tally frame r seats' → Refusing r.refusal → (r.desk ≡ desk) × (seats' ≡ seats)

    abbrev pub ReplyKeeps : List ℕ → Type 0
    ReplyKeeps frame =
        (r : DeskAnswer) (seats' : List Seat) (cells' marks' : List ℕ) (tally' : List (List ℕ)) → ReplyLent seats desk cells marks tally frame r seats' cells' marks' tally' → Refusing r.refusal
        → (r.desk ≡ desk) × ((seats' ≡ seats) × ((cells' ≡ cells) × ((marks' ≡ marks) × (tally' ≡ tally))))

    abbrev pub CaptureKeeps : List ℕ → Type 0
    CaptureKeeps capture =
        (r : CapturedAnswer) (seats' : List Seat) (cells' marks' : List ℕ) (tally' : List (List ℕ)) → CaptureLent seats desk cells marks tally capture r seats' cells' marks' tally' → Refusing r.refusal
        → (r.desk ≡ desk) × ((seats' ≡ seats) × ((cells' ≡ cells) × ((marks' ≡ marks) × (tally' ≡ tally))))

abbrev pub WriteKeeps : (List ℕ → WrittenAnswer → List ℕ → Type 0) → Type 0
WriteKeeps Promised = (out : List ℕ) (answer : WrittenAnswer) (out' : List ℕ) → Promised out answer out' → Refusing answer.refusal → out' ≡ out

pub record RefusedKeeps : Type 1 where
  pub reset : (seats : List Seat) (desk : Desk) (tally : List (List ℕ)) → ResetKeeps seats desk tally
  pub opening : (seats : List Seat) (desk : Desk) (cells marks : List ℕ) (tally : List (List ℕ)) (frame : List ℕ) → OpenKeeps seats desk cells marks tally frame
  pub reply : (seats : List Seat) (desk : Desk) (cells marks : List ℕ) (tally : List (List ℕ)) (frame : List ℕ) → ReplyKeeps seats desk cells marks tally frame
  pub capture : (seats : List Seat) (desk : Desk) (cells marks : List ℕ) (tally : List (List ℕ)) (capture : List ℕ) → CaptureKeeps seats desk cells marks tally capture
  -- of a request, and of a dynamic request
  pub writing : {R : Type 0} (k : Kind R) (r : R) → WriteKeeps (WroteLent k r)
  pub writing_reply : (c : ReplyRecord) → WriteKeeps (WroteReplyLent c)
  pub naming : (name : List ℕ) → WriteKeeps (NamedLent name)
  pub listing : (cells marks capture out : List ℕ) (answer : ListedAnswer) (cells' marks' out' : List ℕ)
      → ListLent cells marks capture out answer cells' marks' out' → Refusing answer.refusal
      → (cells' ≡ cells) × ((marks' ≡ marks) × (out' ≡ out))
