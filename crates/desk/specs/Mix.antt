-- Mixed replies: what each request holds after them, and how each of its replies was answered.
use Rattle.std.specs.Prelude.{ℕ, zero, suc, ◌+◌, ◌≤◌, ◌<◌, List, [], ◌∷◌, ◌++◌, Bool, true, false, cond, not, ◌≡◌, length, eqb, ltb}
use Rattle.digits.specs.Told.{Told, gives, refuses}
use Rattle.frames.specs.Kind.{read}
use Rattle.frames.specs.Request.{request}
use Rattle.frames.specs.declared.request.StaticRequest.{StaticRequest}
use Rattle.frames.specs.declared.reply.ReplyLabel.{ReplyLabel}
use Rattle.desk.specs.declared.key.Key.{Key}
use Rattle.desk.specs.Limits.{seat_count}
use Rattle.desk.specs.Key.{key_in}
use Rattle.desk.specs.Hearing.{heard}
use Rattle.desk.specs.Rule.{Frame, kept, said}
use Rattle.desk.specs.Seats.{seat_at, used_bit, seat_with}
use Rattle.desk.specs.Memory.{Memory, capacity, held_by}
use Rattle.desk.specs.Desk.{is_desk}
use Rattle.desk.specs.Calls.{opens, replies, emptied}
use Rattle.desk.specs.Events.{Event, to_open, to_reply, run, openings, heard_all, Stands, frames_to, answers_to}

-- ---- a stretch

-- a stretch has no openings: only replies, strays and damaged frames
abbrev pub is_reply : Event → Bool
is_reply (to_open f) = false
is_reply (to_reply f) = true

abbrev pub Stretch : List Event → Type 0
Stretch es = Stands is_reply es

-- a well formed reply with the key of an open request
abbrev pub seated : Memory → Told ReplyLabel → Bool
seated m (gives l) = ltb (seat_with m.row m.bits (key_in l)) seat_count
seated m (refuses f) = false

abbrev pub expected : Memory → Event → Bool
expected m (to_open f) = false
expected m (to_reply f) = seated m (heard f)

-- how many replies to open requests there are
unfoldable pub replies_to : Memory → List Event → ℕ
replies_to m [] = 0
replies_to m (e ∷ es) = cond (expected m e) 1 0 + replies_to m es

-- how many frames are addressed to the open requests at the seats below n, counted request by request
unfoldable pub awaited : Memory → List Event → ℕ → ℕ
awaited m es zero = 0
awaited m es (suc n) =
    cond (used_bit m.bits n) (length (frames_to (record { address = (seat_at m.row n).address; requester = (seat_at m.row n).requester; number = (seat_at m.row n).number }) es)) 0 + awaited m es n

-- both counts agree: a frame is counted only if it is addressed to an open request, and then once
abbrev pub RepliesAreAwaited : Type 0
RepliesAreAwaited = (m : Memory) (es : List Event) → is_desk m ≡ true → replies_to m es ≡ awaited m es seat_count

-- ---- the statements

-- after a stretch on m: the request with key k at seat s, which held `before`; `any` and `ended` as in the rule
pub record Sorted (m : Memory) (es : List Event) (s : ℕ) (k : Key) (before : List Frame) (any ended : Bool) : Type 0 where
  -- it holds what it held before, and then what the rule keeps of the frames addressed to it
  pub held : held_by (run m es) s ≡ before ++ kept any ended (frames_to k es)
  -- each of these frames got the answer that the rule states
  pub answers : answers_to k m es ≡ said s any ended (frames_to k es)
  -- and both are as if these frames had come alone
  pub held_alone : held_by (run m es) s ≡ held_by (run m (heard_all (frames_to k es))) s
  pub answers_alone : answers_to k m es ≡ answers_to k m (heard_all (frames_to k es))

-- each open request of any desk that has enough cells
abbrev pub SortsFromAnyDesk : Type 0
SortsFromAnyDesk =
    (m : Memory) (es : List Event) (s : ℕ)
    → is_desk m ≡ true → Stretch es → m.count + replies_to m es ≤ capacity m
    → s < seat_count → used_bit m.bits s ≡ true
    → Sorted m es s (record { address = (seat_at m.row s).address; requester = (seat_at m.row s).requester; number = (seat_at m.row s).number }) (held_by m s) (not (eqb (seat_at m.row s).held 0)) (not (eqb (seat_at m.row s).ended 0))

-- each request that was opened, on an emptied desk with all openings first
abbrev pub SortsOpenedRequests : Type 0
SortsOpenedRequests =
    (m : Memory) (before after : List Frame) (f : Frame) (r : StaticRequest) (es : List Event) (s : ℕ)
    → read request f ≡ gives r → (opens (run (emptied m) (openings before)) f).answer ≡ gives s
    → Stretch es → replies_to (run (emptied m) (openings (before ++ f ∷ after))) es ≤ capacity m
    → Sorted (run (emptied m) (openings (before ++ f ∷ after))) es s (record { address = r.address; requester = r.requester; number = r.number }) [] false false

-- a desk stays a desk, and an emptied memory is one
pub record StaysDesk : Type 1 where
  pub opening : (m : Memory) (f : Frame) → is_desk m ≡ true → is_desk (opens m f).after ≡ true
  pub reply : (m : Memory) (f : Frame) → is_desk m ≡ true → is_desk (replies m f).after ≡ true
  pub reset : (m : Memory) → is_desk (emptied m) ≡ true
