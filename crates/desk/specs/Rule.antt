-- The rule of mixed replies, for the frames of one request: which of them it keeps, and how each is answered.
-- No definition of the desk is in it. Of a frame it uses only what the reader says: whether it is well formed, its address, requester and number, and its status letter.
use Rattle.std.specs.Prelude.{ℕ, List, [], ◌∷◌, Bool, true, false, cond, ◌&&◌, eqb}
use Rattle.digits.specs.Refusals.{plain}
use Rattle.digits.specs.Told.{Told, gives, refuses}
use Rattle.frames.specs.Kind.{read}
use Rattle.frames.specs.Reply.{reply}
use Rattle.frames.specs.declared.reply.StaticReply.{StaticReply}
use Rattle.desk.specs.declared.key.Key.{Key}

abbrev pub Frame : Type 0
Frame = List ℕ

-- ---- which frames are the request's: well formed, with its address, requester and number

abbrev pub is_to : Key → Told StaticReply → Bool
is_to k (gives r) = eqb k.address r.head.address && eqb k.requester r.head.requester && eqb k.number r.head.number
is_to k (refuses f) = false

-- ---- a frame's status: R, E or Z

abbrev pub letter_in : Told StaticReply → ℕ
letter_in (gives r) = r.head.status
letter_in (refuses f) = 0

abbrev pub has_status_e : Frame → Bool
has_status_e f = eqb (letter_in (read reply f)) 69

abbrev pub has_status_z : Frame → Bool
has_status_z f = eqb (letter_in (read reply f)) 90

-- ---- what the request keeps of its frames

abbrev pub without_z : List Frame → List Frame
without_z [] = []
without_z (f ∷ fs) = cond (has_status_z f) (without_z fs) (f ∷ without_z fs)

abbrev pub up_to_e : List Frame → List Frame
up_to_e [] = []
up_to_e (f ∷ fs) = f ∷ cond (has_status_e f) [] (up_to_e fs)

-- if the first frame is a Z, only that; otherwise all up to the first E, without the Zs
abbrev pub kept_first : List Frame → List Frame
kept_first [] = []
kept_first (f ∷ fs) = cond (has_status_z f) (f ∷ []) (up_to_e (without_z (f ∷ fs)))

-- `any`: the request holds records already; `ended`: it has had its E or Z
abbrev pub kept : Bool → Bool → List Frame → List Frame
kept any true fs = []
kept true false fs = up_to_e (without_z fs)
kept false false fs = kept_first fs

-- ---- how the frames are answered; s is the request's seat

-- after the end each frame is refused with ENDED, which is 14
abbrev pub said_ended : List Frame → List (Told ℕ)
said_ended [] = []
said_ended (f ∷ fs) = refuses (plain 14) ∷ said_ended fs

-- a Z after a record is refused with OUT OF PLACE, which is 15; any other frame is taken
abbrev pub said_among : ℕ → List Frame → List (Told ℕ)
said_among s [] = []
said_among s (f ∷ fs) = cond (has_status_z f) (refuses (plain 15) ∷ said_among s fs) (gives s ∷ cond (has_status_e f) (said_ended fs) (said_among s fs))

-- a Z as first frame is taken and ends the request
abbrev pub said_first : ℕ → List Frame → List (Told ℕ)
said_first s [] = []
said_first s (f ∷ fs) = cond (has_status_z f) (gives s ∷ said_ended fs) (said_among s (f ∷ fs))

abbrev pub said : ℕ → Bool → Bool → List Frame → List (Told ℕ)
said s any true fs = said_ended fs
said s true false fs = said_among s fs
said s false false fs = said_first s fs
