-- A capture on a desk: what becomes of each of its frames, and what the desk holds afterwards.
use Rattle.std.specs.Prelude.{Result, ℕ, zero, suc, ◌+◌, List, [], ◌∷◌, Bool, true, false, cond, ◌≡◌, get_or, eqb}
use Rattle.digits.specs.declared.refusal.Refusal.{Refusal}
use Rattle.digits.specs.Refusals.{DESK}
use Rattle.digits.specs.Told.{Told, gives, refuses, tried}
use Rattle.frames.specs.Kind.{read}
use Rattle.frames.specs.Request.{request}
use Rattle.frames.specs.Reply.{reply}
use Rattle.frames.specs.Dynamic.{dynamic}
use Rattle.frames.specs.declared.dynamic.DynamicRequest.{DynamicRequest}
use Rattle.finder.specs.Leads.{is_lead}
use Rattle.finder.specs.Pieces.{Piece, whole, cut, pieces}
use Rattle.finder.specs.Demands.{count}
use Rattle.desk.specs.declared.capture.Fate.{Fate}
use Rattle.desk.specs.declared.capture.Fate.TheVariants.{Opened, Collected, Dynamic, Refused}
use Rattle.desk.specs.declared.capture.Counts.{Counts}
use Rattle.desk.specs.declared.capture.CaptureRefusal.{CaptureRefusal}
use Rattle.desk.specs.declared.capture.CaptureRefusal.TheVariants.{Desk}
use Rattle.desk.specs.Memory.{Memory}
use Rattle.desk.specs.Desk.{is_desk}
use Rattle.desk.specs.Calls.{opens, replies, result_told}

-- ---- one frame

abbrev pub fate_by : Fate → Told ℕ → Fate
fate_by good (gives s) = good
fate_by good (refuses f) = Refused

abbrev pub dynamic_fate : Told DynamicRequest → Fate
dynamic_fate (gives r) = Dynamic
dynamic_fate (refuses f) = Refused

pub record Step : Type 0 where
  pub fate : Fate
  pub after : Memory

-- the lead bytes of the frames that go to the opening and to the reply call
abbrev pub open_lead : ℕ
open_lead = request.lead

abbrev pub reply_lead : ℕ
reply_lead = reply.lead

-- a frame goes to the call of its lead byte: the opening, the reply call, or for any other lead byte the reader of dynamic requests
unfoldable pub meets : Memory → List ℕ → Step
meets m f =
    cond (eqb (get_or f 0 0) open_lead) (record { fate = fate_by Opened (opens m f).answer; after = (opens m f).after })
    (cond (eqb (get_or f 0 0) reply_lead) (record { fate = fate_by Collected (replies m f).answer; after = (replies m f).after })
    (record { fate = dynamic_fate (read dynamic f); after = m }))

-- a cut frame is refused
abbrev pub meets_piece : Memory → Piece → Step
meets_piece m (whole start bytes) = meets m bytes
meets_piece m (cut start bytes) = record { fate = Refused; after = m }

-- ---- all frames, in order, each on the memory that the one before left

unfoldable pub fates : Memory → List Piece → List Fate
fates m [] = []
fates m (p ∷ ps) = (meets_piece m p).fate ∷ fates (meets_piece m p).after ps

unfoldable pub after_all : Memory → List Piece → Memory
after_all m [] = m
after_all m (p ∷ ps) = after_all (meets_piece m p).after ps

-- ---- the counts

abbrev pub is_opened : Fate → Bool
is_opened Opened = true
is_opened Collected = false
is_opened Dynamic = false
is_opened Refused = false

abbrev pub is_collected : Fate → Bool
is_collected Opened = false
is_collected Collected = true
is_collected Dynamic = false
is_collected Refused = false

abbrev pub is_dynamic : Fate → Bool
is_dynamic Opened = false
is_dynamic Collected = false
is_dynamic Dynamic = true
is_dynamic Refused = false

abbrev pub is_refused : Fate → Bool
is_refused Opened = false
is_refused Collected = false
is_refused Dynamic = false
is_refused Refused = true

unfoldable pub how_many : (Fate → Bool) → List Fate → ℕ
how_many p [] = zero
how_many p (x ∷ xs) = cond (p x) (suc (how_many p xs)) (how_many p xs)

-- requests opened, replies collected, dynamic requests, frames refused
abbrev pub counts_of : List Fate → Counts
counts_of l = record { opened = how_many is_opened l; collected = how_many is_collected l; dynamic = how_many is_dynamic l; refused = how_many is_refused l }

-- ---- the call

abbrev pub capture_refused : CaptureRefusal → Refusal
capture_refused Desk = DESK

abbrev pub capture_told : Result Counts CaptureRefusal → Told Counts
capture_told = result_told capture_refused

-- the counts or the refusal, and the memory after the call
pub record Captured : Type 0 where
  pub answer : Told Counts
  pub after : Memory

abbrev pub captures : Memory → List ℕ → Captured
captures m s =
    record { answer = tried (is_desk m) DESK (gives (counts_of (fates m (pieces s)))); after = cond (is_desk m) (after_all m (pieces s)) m }

-- what is promised of taking a capture s: the answer, and the whole memory
pub record TookCapture (m : Memory) (s : List ℕ) (answer : Result Counts CaptureRefusal) (after : Memory) : Type 0 where
  pub told : capture_told answer ≡ (captures m s).answer
  pub memory : after ≡ (captures m s).after

-- the four counts add up to the frames found, which are as many as the lead bytes of the capture
abbrev pub CountsAddUp : Type 0
CountsAddUp =
    (m : Memory) (s : List ℕ)
    → how_many is_opened (fates m (pieces s)) + how_many is_collected (fates m (pieces s)) + how_many is_dynamic (fates m (pieces s)) + how_many is_refused (fates m (pieces s))
    ≡ count is_lead s
