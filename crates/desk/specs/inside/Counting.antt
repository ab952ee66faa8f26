-- A frame of a capture: given to the desk, and counted.
use Rattle.std.specs.Prelude.{ℕ, ◌+◌, List, true, ◌≡◌}
use Rattle.desk.specs.declared.state.Desk.{Desk}
use Rattle.desk.specs.declared.columns.Columns.{Columns}
use Rattle.desk.specs.declared.capture.Fate.{Fate}
use Rattle.desk.specs.declared.capture.Fate.TheVariants.{Opened, Collected, Dynamic, Refused}
use Rattle.desk.specs.declared.capture.Counts.{Counts}
use Rattle.desk.specs.Memory.{Memory, memory}
use Rattle.desk.specs.Desk.{is_desk}
use Rattle.desk.specs.Calls.{Outcome, opens}
use Rattle.desk.specs.Capture.{Step, fate_by}
use Rattle.desk.specs.inside.Shown.{shown}

pub record Meets (o : Step) (r : Fate) (m' : Memory) : Type 0 where
  pub fate : r ≡ o.fate
  pub after : m' ≡ o.after

-- by the outcome of a call
abbrev pub MeetsBy : Fate → Outcome → Fate → Memory → Type 0
MeetsBy good o = Meets (record { fate = fate_by good o.answer; after = o.after })

-- state and columns are those of a desk, with some cells, marks and tally
pub record OnDesk (d : Desk) (c : Columns) : Type 0 where
  pub cells : List ℕ
  pub marks : List ℕ
  pub tally : List (List ℕ)
  pub desk : is_desk (memory d (shown c) cells marks tally) ≡ true

-- an opening on such a desk; cells, marks and tally stay
abbrev pub MeetsRequest : Desk → Columns → List ℕ → Fate → Desk → Columns → Type 0
MeetsRequest d c f r d' c' =
    (cells marks : List ℕ) (tally : List (List ℕ)) → is_desk (memory d (shown c) cells marks tally) ≡ true → MeetsBy Opened (opens (memory d (shown c) cells marks tally) f) r (memory d' (shown c') cells marks tally)

abbrev pub one_more : Counts → Fate → Counts
one_more c Opened = record { opened = c.opened + 1; collected = c.collected; dynamic = c.dynamic; refused = c.refused }
one_more c Collected = record { opened = c.opened; collected = c.collected + 1; dynamic = c.dynamic; refused = c.refused }
one_more c Dynamic = record { opened = c.opened; collected = c.collected; dynamic = c.dynamic + 1; refused = c.refused }
one_more c Refused = record { opened = c.opened; collected = c.collected; dynamic = c.dynamic; refused = c.refused + 1 }
