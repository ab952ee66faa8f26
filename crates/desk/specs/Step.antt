-- What a reply does to the request that it is addressed to: one step. The reply call, the desk's test and the theorem on mixed replies use it.
use Rattle.std.specs.Prelude.{ℕ, ◌+◌, List, [], ◌∷◌, Bool, true, false, eqb}
use Rattle.digits.specs.Refusals.{ENDED, OUT_OF_PLACE, FULL}
use Rattle.digits.specs.Told.{Told, gives, refuses, tried}
use Rattle.desk.specs.declared.state.Seat.{Seat}
use Rattle.desk.specs.declared.step.Progress.{Progress}
use Rattle.desk.specs.Hearing.{heard, status_in, in_place, ended_by}

-- how far the request at a seat has come: how many records it holds, and its `ended`, which is 1 after its E or Z and 0 before
abbrev pub progress_of : Seat → Progress
progress_of s = record { held = s.held; ended = s.ended }

-- a record more, with this status
abbrev pub advanced : Progress → ℕ → Progress
advanced p status = record { held = p.held + 1; ended = ended_by status }

-- a reply is tested in this order: the request has not ended, a Z is its first record, and a cell is free
unfoldable pub step : Progress → Bool → ℕ → Told Progress
step p free status =
    tried (eqb p.ended 0) ENDED
    (tried (in_place p.held status) OUT_OF_PLACE
    (tried free FULL
    (gives (advanced p status))))

-- ---- many records

-- just opened
abbrev pub none : Progress
none = record { held = 0; ended = 0 }

-- how far these records bring a request
unfoldable pub replay : Progress → List (List ℕ) → Progress
replay p [] = p
replay p (f ∷ fs) = replay (advanced p (status_in (heard f))) fs

-- the step is taken
abbrev pub goes : Told Progress → Bool
goes (gives p) = true
goes (refuses why) = false
