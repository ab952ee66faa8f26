-- What is demanded of a capture: it is a run of calls, three of its counts follow rules of their own, and the fourth is the rest of the frames found.
use Rattle.std.specs.Prelude.{ℕ, zero, suc, ◌+◌, ◌≤◌, List, [], ◌∷◌, ◌++◌, Bool, true, false, cond, ◌≡◌, get_or, eqb}
use Rattle.digits.specs.Told.{Told, gives, refuses}
use Rattle.frames.specs.Kind.{read}
use Rattle.frames.specs.Request.{request}
use Rattle.frames.specs.Dynamic.{dynamic}
use Rattle.frames.specs.declared.request.StaticRequest.{StaticRequest}
use Rattle.frames.specs.declared.dynamic.DynamicRequest.{DynamicRequest}
use Rattle.finder.specs.Leads.{is_lead}
use Rattle.finder.specs.Pieces.{Piece, whole, cut, pieces}
use Rattle.finder.specs.Demands.{count}
use Rattle.desk.specs.declared.capture.Counts.{Counts}
use Rattle.desk.specs.Memory.{Memory, capacity, held_by}
use Rattle.desk.specs.Desk.{is_desk}
use Rattle.desk.specs.Calls.{opens, emptied, seats_in_use}
use Rattle.desk.specs.Rule.{Frame, kept}
use Rattle.desk.specs.Events.{Event, to_open, to_reply, run, openings, frames_to}
use Rattle.desk.specs.Mix.{Stretch, replies_to}
use Rattle.desk.specs.Capture.{captures}

-- ---- a capture is a run of calls

-- the calls that the whole frames are given to by their lead bytes: DC1 to the opening, DC2 to the reply call
unfoldable pub events : List Piece → List Event
events [] = []
events (whole start f ∷ ps) =
    cond (eqb (get_or f 0 0) 17) (to_open f ∷ events ps)
    (cond (eqb (get_or f 0 0) 18) (to_reply f ∷ events ps)
    (events ps))
events (cut start f ∷ ps) = events ps

abbrev pub CaptureIsRun : Type 0
CaptureIsRun = (m : Memory) (s : List ℕ) → is_desk m ≡ true → (captures m s).after ≡ run m (events (pieces s))

-- what each request of a capture holds afterwards follows the rule too, if the capture is taken on an emptied desk and its requests come first
abbrev pub CaptureSorts : Type 0
CaptureSorts =
    (m : Memory) (s : List ℕ) (before after : List Frame) (f : Frame) (r : StaticRequest) (es : List Event) (seat : ℕ)
    → events (pieces s) ≡ openings (before ++ f ∷ after) ++ es
    → read request f ≡ gives r → (opens (run (emptied m) (openings before)) f).answer ≡ gives seat
    → Stretch es → replies_to (run (emptied m) (openings (before ++ f ∷ after))) es ≤ capacity m
    → held_by (captures (emptied m) s).after seat ≡ kept false false (frames_to (record { address = r.address; requester = r.requester; number = r.number }) es)

-- ---- the counts

abbrev pub is_given : Told DynamicRequest → Bool
is_given (gives r) = true
is_given (refuses f) = false

-- how many whole frames the reader of dynamic requests takes
unfoldable pub dynamic_in : List Piece → ℕ
dynamic_in [] = zero
dynamic_in (whole start f ∷ ps) = cond (is_given (read dynamic f)) (suc (dynamic_in ps)) (dynamic_in ps)
dynamic_in (cut start f ∷ ps) = dynamic_in ps

pub record Counted (m : Memory) (s : List ℕ) (after : Memory) (c : Counts) : Type 0 where
  -- requests opened: so many more seats are in use
  pub opened : seats_in_use after.bits ≡ seats_in_use m.bits + c.opened
  -- replies collected: so many more cells are held
  pub collected : after.count ≡ m.count + c.collected
  pub dynamic : c.dynamic ≡ dynamic_in (pieces s)
  -- every other frame found is refused: all four together are as many as the lead bytes of the capture
  pub all : c.opened + c.collected + c.dynamic + c.refused ≡ count is_lead s

abbrev pub CountsAreRight : Type 0
CountsAreRight = (m : Memory) (s : List ℕ) (c : Counts) → (captures m s).answer ≡ gives c → Counted m s (captures m s).after c
