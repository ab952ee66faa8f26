-- What the desk uses of a reply: its label, which has its key and status.
use Rattle.std.specs.Prelude.{ℕ, List, Bool, false, cond, not, ◌||◌, eqb}
use Rattle.digits.specs.Told.{Told, gives, refuses}
use Rattle.frames.specs.Kind.{read}
use Rattle.frames.specs.Status.{status_e, is_z}
use Rattle.frames.specs.Reply.{reply, labelled}
use Rattle.frames.specs.declared.reply.ReplyLabel.{ReplyLabel}
use Rattle.desk.specs.declared.key.Key.{Key}
use Rattle.desk.specs.Key.{key_in, same_key}

-- a frame read as a static reply: its label, or the refusal
unfoldable pub heard : List ℕ → Told ReplyLabel
heard f = labelled (read reply f)

-- a well formed reply with this key
abbrev pub has_key : Key → Told ReplyLabel → Bool
has_key k (gives l) = same_key k (key_in l)
has_key k (refuses f) = false

-- ---- what a status means

unfoldable pub ends : ℕ → Bool
ends status = eqb status status_e || is_z status

-- a Z is taken only as first record
unfoldable pub in_place : ℕ → ℕ → Bool
in_place held status = not (is_z status) || eqb held 0

-- the value of a seat's `ended` after a record with this status
abbrev pub ended_by : ℕ → ℕ
ended_by status = cond (ends status) 1 0

abbrev pub status_in : Told ReplyLabel → ℕ
status_in (gives l) = l.status
status_in (refuses f) = 0

abbrev pub ended_in : Told ReplyLabel → ℕ
ended_in got = ended_by (status_in got)
