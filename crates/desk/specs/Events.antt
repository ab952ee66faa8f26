-- Events of a desk: calls that are given a frame, one after the other; and which of them are addressed to a request.
use Rattle.std.specs.Prelude.{ℕ, List, [], ◌∷◌, Bool, true, false, cond, ◌≡◌}
use Rattle.digits.specs.Told.{Told}
use Rattle.frames.specs.Kind.{read}
use Rattle.frames.specs.Reply.{reply}
use Rattle.desk.specs.declared.key.Key.{Key}
use Rattle.desk.specs.Rule.{Frame, is_to}
use Rattle.desk.specs.Memory.{Memory}
use Rattle.desk.specs.Calls.{Outcome, opens, replies}

-- a frame given to the opening, or to the reply call
pub data Event : Type 0 where
  to_open : Frame → Event
  to_reply : Frame → Event

abbrev pub frame_of : Event → Frame
frame_of (to_open f) = f
frame_of (to_reply f) = f

abbrev pub happens : Memory → Event → Outcome
happens m (to_open f) = opens m f
happens m (to_reply f) = replies m f

-- each call is given the state and memory that the last one left
unfoldable pub run : Memory → List Event → Memory
run m [] = m
run m (e ∷ es) = run (happens m e).after es

unfoldable pub answers : Memory → List Event → List (Told ℕ)
answers m [] = []
answers m (e ∷ es) = (happens m e).answer ∷ answers (happens m e).after es

abbrev pub openings : List Frame → List Event
openings [] = []
openings (f ∷ fs) = to_open f ∷ openings fs

abbrev pub heard_all : List Frame → List Event
heard_all [] = []
heard_all (f ∷ fs) = to_reply f ∷ heard_all fs

-- events of which this is true
abbrev pub Stands : (Event → Bool) → List Event → Type 0
Stands may [] = Unit {0}
Stands may (e ∷ es) = (may e ≡ true) × Stands may es

-- ---- the replies of one request

-- a well formed reply with this address, requester and number
unfoldable pub addressed : Key → Event → Bool
addressed k (to_open f) = false
addressed k (to_reply f) = is_to k (read reply f)

-- the events addressed to a key, in order
unfoldable pub events_to : Key → List Event → List Event
events_to k [] = []
events_to k (e ∷ es) = cond (addressed k e) (e ∷ events_to k es) (events_to k es)

-- their frames
unfoldable pub frames_to : Key → List Event → List Frame
frames_to k [] = []
frames_to k (e ∷ es) = cond (addressed k e) (frame_of e ∷ frames_to k es) (frames_to k es)

-- the answers that they got
unfoldable pub answers_to : Key → Memory → List Event → List (Told ℕ)
answers_to k m [] = []
answers_to k m (e ∷ es) =
    cond (addressed k e) ((happens m e).answer ∷ answers_to k (happens m e).after es) (answers_to k (happens m e).after es)
