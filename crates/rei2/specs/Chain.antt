-- Openings and replies on lent memory, one after the other: they leave and answer what the desk's calls do in the same order.
use Rattle.std.specs.Prelude.{ℕ, ◌≤◌, false, List, [], ◌∷◌, ◌≡◌, length}
use Rattle.digits.specs.Told.{gives}
use Rattle.frames.specs.Kind.{read}
use Rattle.frames.specs.Request.{request}
use Rattle.frames.specs.declared.request.StaticRequest.{StaticRequest}
use Rattle.desk.specs.declared.state.Seat.{Seat}
use Rattle.desk.specs.declared.state.Desk.{Desk}
use Rattle.desk.specs.declared.key.Key.{Key}
use Rattle.desk.specs.Memory.{Memory, memory, capacity_of}
use Rattle.desk.specs.Rule.{Frame}
use Rattle.desk.specs.Events.{Event, to_open, to_reply, happens, run, openings}
use Rattle.desk.specs.Mix.{Stretch, replies_to, Sorted}
use Rattle.rei2.specs.declared.lent.DeskAnswer.{DeskAnswer}
use Rattle.rei2.specs.Lent.{answer_of, ResetLent, OpenLent, ReplyLent}

-- each call is given the state and lent memory that the last one left: the events, the answers, and the memory after the last call
pub data Chain : Memory → List Event → List DeskAnswer → Memory → Type 0 where
  none : {m : Memory} → Chain m [] [] m
  opened : {seats seats' : List Seat} {desk : Desk} {cells marks frame : List ℕ} {tally : List (List ℕ)} {r : DeskAnswer} {es : List Event} {rs : List DeskAnswer} {m : Memory}
      → OpenLent seats desk cells marks tally frame r seats' → Chain (memory r.desk seats' cells marks tally) es rs m
      → Chain (memory desk seats cells marks tally) (to_open frame ∷ es) (r ∷ rs) m
  replied : {seats seats' : List Seat} {desk : Desk} {cells marks cells' marks' frame : List ℕ} {tally tally' : List (List ℕ)} {r : DeskAnswer} {es : List Event} {rs : List DeskAnswer} {m : Memory}
      → ReplyLent seats desk cells marks tally frame r seats' cells' marks' tally' → Chain (memory r.desk seats' cells' marks' tally') es rs m
      → Chain (memory desk seats cells marks tally) (to_reply frame ∷ es) (r ∷ rs) m

-- the answers of the desk's calls, each with the state that its call left
unfoldable pub answers_of : Memory → List Event → List DeskAnswer
answers_of m [] = []
answers_of m (e ∷ es) = answer_of (happens m e) ∷ answers_of (happens m e).after es

-- ---- a chain is the run of its events

abbrev pub ChainsRun : Type 0
ChainsRun = (m m' : Memory) (es : List Event) (rs : List DeskAnswer) → Chain m es rs m' → (m' ≡ run m es) × (rs ≡ answers_of m es)

-- ---- mixed replies, over the lent calls

-- replies on m that leave m': they do what the desk's calls do, and the request with key k at seat s is sorted as the rule says
pub record SortedLent (m m' : Memory) (es : List Event) (rs : List DeskAnswer) (s : ℕ) (k : Key) : Type 0 where
  pub leaves : m' ≡ run m es
  pub answers : rs ≡ answers_of m es
  pub sorted : Sorted m es s k [] false false

-- a reset, openings, then replies, strays and damaged frames with enough cells: each opened request is sorted, at the seat that its opening returned
abbrev pub SortsLentCalls : Type 0
SortsLentCalls =
    (seats : List Seat) (desk : Desk) (cells marks : List ℕ) (tally : List (List ℕ)) (emptied : DeskAnswer) (seats₀ : List Seat) (tally₀ : List (List ℕ))
    → ResetLent seats desk tally emptied seats₀ tally₀ → emptied.refusal ≡ 0
    -- openings, then the opening of the request r, then other openings
    → (before after : List Frame) (rs₁ rs₂ : List DeskAnswer) (desk₁ : Desk) (seats₁ : List Seat) (cells₁ marks₁ : List ℕ) (tally₁ : List (List ℕ))
    → Chain (memory emptied.desk seats₀ cells marks tally₀) (openings before) rs₁ (memory desk₁ seats₁ cells₁ marks₁ tally₁)
    → (f : Frame) (r : StaticRequest) (answer : DeskAnswer) (seats₂ : List Seat)
    → OpenLent seats₁ desk₁ cells₁ marks₁ tally₁ f answer seats₂ → answer.refusal ≡ 0 → read request f ≡ gives r
    → (m : Memory) → Chain (memory answer.desk seats₂ cells₁ marks₁ tally₁) (openings after) rs₂ m
    -- the replies
    → (es : List Event) (rs : List DeskAnswer) (m' : Memory) → Chain m es rs m' → Stretch es → replies_to m es ≤ capacity_of (length cells) (length marks)
    → SortedLent m m' es rs answer.seat (record { address = r.address; requester = r.requester; number = r.number })
