-- What openings and replies see of a desk: a view of each seat. An event moves the view of one seat at most, by one step.
use Rattle.std.specs.Prelude.{ℕ, ◌<◌, List, [], ◌∷◌, ◌++◌, Bool, true, false, ◌≡◌, length, ltb}
use Rattle.digits.specs.declared.refusal.Refusal.{Refusal}
use Rattle.digits.specs.Refusals.{STRAY}
use Rattle.digits.specs.Told.{Told, gives, refuses}
use Rattle.frames.specs.Kind.{read}
use Rattle.frames.specs.Request.{request}
use Rattle.frames.specs.Reply.{reply}
use Rattle.frames.specs.declared.request.StaticRequest.{StaticRequest}
use Rattle.frames.specs.declared.reply.StaticReply.{StaticReply}
use Rattle.desk.specs.declared.key.Key.{Key}
use Rattle.desk.specs.declared.step.Progress.{Progress}
use Rattle.desk.specs.Limits.{seat_count}
use Rattle.desk.specs.Key.{request_key, seat_key}
use Rattle.desk.specs.Hearing.{heard, status_in}
use Rattle.desk.specs.Step.{step}
use Rattle.desk.specs.Rule.{Frame}
use Rattle.desk.specs.Seats.{seat_at, used_bit, lowest_clear}
use Rattle.desk.specs.Memory.{Memory, capacity, held_by}
use Rattle.desk.specs.Desk.{is_desk}
use Rattle.desk.specs.Calls.{opens, replies}
use Rattle.desk.specs.Events.{Event, to_open, to_reply, happens, run, answers, addressed}

-- ---- the view of a seat

-- whether it is in use, its key, the records that it holds, and its `ended`; where the records lie in the store is not seen
pub record View : Type 0 where
  pub used : Bool
  pub key : Key
  pub records : List Frame
  pub ended : ℕ

abbrev pub view_at : Memory → ℕ → View
view_at m s = record { used = used_bit m.bits s; key = seat_key (seat_at m.row s); records = held_by m s; ended = (seat_at m.row s).ended }

abbrev pub progress_in : View → Progress
progress_in v = record { held = length v.records; ended = v.ended }

-- a request just opened
abbrev pub new_view : Key → View
new_view k = record { used = true; key = k; records = []; ended = 0 }

-- ---- the step of a view

pub record Seen : Type 0 where
  pub answer : Told ℕ
  pub view : View

-- a reply that is taken is one record more
abbrev pub reply_seen : ℕ → View → Frame → Told Progress → Seen
reply_seen s v f (gives p) = record { answer = gives s; view = record { used = v.used; key = v.key; records = v.records ++ (f ∷ []); ended = p.ended } }
reply_seen s v f (refuses why) = record { answer = refuses why; view = v }

abbrev pub open_seen : ℕ → View → Told StaticRequest → Seen
open_seen s v (gives r) = record { answer = gives s; view = new_view (request_key r) }
open_seen s v (refuses why) = record { answer = refuses why; view = v }

-- what an event that seat s gets does to its view, if a cell is free or not, and the answer
abbrev pub seat_step : ℕ → Bool → View → Event → Seen
seat_step s free v (to_open f) = open_seen s v (read request f)
seat_step s free v (to_reply f) = reply_seen s v f (step (progress_in v) free (status_in (heard f)))

-- the view after a taken reply has come as far as the step says
abbrev pub StepTellsView : Type 0
StepTellsView =
    (s : ℕ) (free : Bool) (v : View) (f : Frame) (p : Progress) → step (progress_in v) free (status_in (heard f)) ≡ gives p
    → progress_in (seat_step s free v (to_reply f)).view ≡ p

-- ---- locality

abbrev pub cell_free : Memory → Bool
cell_free m = ltb m.count (capacity m)

-- the event is a step of seat s
pub record IsStep (m : Memory) (e : Event) (s : ℕ) : Type 0 where
  pub answer : (happens m e).answer ≡ (seat_step s (cell_free m) (view_at m s) e).answer
  pub own : view_at (happens m e).after s ≡ (seat_step s (cell_free m) (view_at m s) e).view

-- and no other seat is seen to change
pub record Steps (m : Memory) (e : Event) (s : ℕ) : Type 0 where
  pub step : IsStep m e s
  pub others : (i : ℕ) → (i ≡ s → ⊥) → view_at (happens m e).after i ≡ view_at m i

-- a frame that is no reply to an open request: the refusal of its reader, or STRAY
abbrev pub stray_answer : Told StaticReply → Told ℕ
stray_answer (gives r) = refuses STRAY
stray_answer (refuses why) = refuses why

pub record Local : Type 1 where
  -- a well formed reply is a step of the used seat that has its key
  pub to_seat : (m : Memory) (f : Frame) (s : ℕ) → is_desk m ≡ true → s < seat_count → (view_at m s).used ≡ true → addressed (view_at m s).key (to_reply f) ≡ true → Steps m (to_reply f) s
  -- any other frame given to the reply call changes nothing
  pub to_none : (m : Memory) (f : Frame) → is_desk m ≡ true → ((s : ℕ) → s < seat_count → (view_at m s).used ≡ true → addressed (view_at m s).key (to_reply f) ≡ false)
      → replies m f ≡ record { answer = stray_answer (read reply f); after = m }
  -- an opening that is done is a step of the lowest clear seat, which the bits alone tell
  pub opening : (m : Memory) (f : Frame) (s : ℕ) → (opens m f).answer ≡ gives s → (s ≡ lowest_clear m.bits) × Steps m (to_open f) s
  -- a refused event changes nothing
  pub refused : (m : Memory) (e : Event) (why : Refusal) → (happens m e).answer ≡ refuses why → (happens m e).after ≡ m

-- ---- desks that look the same

-- the same capacity, and the same view of each seat; the order of the store may differ
pub record Same (m x : Memory) : Type 0 where
  pub size : capacity x ≡ capacity m
  pub view : (s : ℕ) → s < seat_count → view_at x s ≡ view_at m s

-- the views tell which seats are in use, how many cells are held, and the tally
abbrev pub ViewsTellAll : Type 0
ViewsTellAll = (m x : Memory) → is_desk m ≡ true → is_desk x ≡ true → Same m x → (x.bits ≡ m.bits) × ((x.count ≡ m.count) × (x.tally ≡ m.tally))

-- no opening and no reply tells them apart, and they look the same after it
abbrev pub SameGoesOn : Type 0
SameGoesOn =
    (m x : Memory) (e : Event) → is_desk m ≡ true → is_desk x ≡ true → Same m x
    → ((happens x e).answer ≡ (happens m e).answer) × Same (happens m e).after (happens x e).after

-- nor do any events, one after the other
abbrev pub SameForever : Type 0
SameForever =
    (m x : Memory) (es : List Event) → is_desk m ≡ true → is_desk x ≡ true → Same m x
    → (answers x es ≡ answers m es) × Same (run m es) (run x es)
