-- A request goes by the events addressed to it alone, whatever may stand among them; and for replies, step after step is the rule of mixed replies.
use Rattle.std.specs.Prelude.{ℕ, ◌<◌, List, [], ◌∷◌, ◌++◌, Bool, true, false, not, ◌≡◌, length, eqb}
use Rattle.digits.specs.Refusals.{plain}
use Rattle.digits.specs.Told.{Told, refuses}
use Rattle.desk.specs.declared.key.Key.{Key}
use Rattle.desk.specs.Limits.{seat_count}
use Rattle.desk.specs.Rule.{Frame, has_status_z, kept, said}
use Rattle.desk.specs.Memory.{Memory}
use Rattle.desk.specs.Desk.{is_desk}
use Rattle.desk.specs.Events.{Event, to_reply, happens, run, heard_all, Stands, addressed, events_to, answers_to}
use Rattle.desk.specs.Views.{View, view_at, seat_step, cell_free, IsStep}

-- ---- what may stand in a stretch

-- events that leave the desk a desk; one that is addressed to an open request is its step, and any other leaves its view
pub record MayStand (may : Event → Bool) : Type 0 where
  pub desk : (m : Memory) (e : Event) → may e ≡ true → is_desk m ≡ true → is_desk (happens m e).after ≡ true
  pub own : (m : Memory) (e : Event) (s : ℕ) → may e ≡ true → is_desk m ≡ true → s < seat_count → (view_at m s).used ≡ true → addressed (view_at m s).key e ≡ true → IsStep m e s
  pub other : (m : Memory) (e : Event) (s : ℕ) → may e ≡ true → is_desk m ≡ true → s < seat_count → (view_at m s).used ≡ true → addressed (view_at m s).key e ≡ false
      → view_at (happens m e).after s ≡ view_at m s

-- openings and replies may stand
abbrev pub CallsMayStand : Type 0
CallsMayStand = MayStand (λ e. true)

-- a cell is free for each event addressed to k, when it comes
abbrev pub CellsFor : Key → Memory → List Event → Type 0
CellsFor k m [] = Unit {0}
CellsFor k m (e ∷ es) = (addressed k e ≡ true → cell_free m ≡ true) × CellsFor k (happens m e).after es

-- ---- the view of a request, and the rule

-- its view after events addressed to it, and its answers to them, step by step
unfoldable pub view_after : ℕ → View → List Event → View
view_after s v [] = v
view_after s v (e ∷ es) = view_after s (seat_step s true v e).view es

unfoldable pub says_to : ℕ → View → List Event → List (Told ℕ)
says_to s v [] = []
says_to s v (e ∷ es) = (seat_step s true v e).answer ∷ says_to s (seat_step s true v e).view es

-- the steps for replies, one after the other, are the rule
pub record StepsAreRule (s : ℕ) (v : View) (fs : List Frame) : Type 0 where
  pub records : (view_after s v (heard_all fs)).records ≡ v.records ++ kept (not (eqb (length v.records) 0)) (not (eqb v.ended 0)) fs
  pub answers : says_to s v (heard_all fs) ≡ said s (not (eqb (length v.records) 0)) (not (eqb v.ended 0)) fs

abbrev pub FoldIsRule : Type 0
FoldIsRule = (s : ℕ) (v : View) (fs : List Frame) → StepsAreRule s v fs

-- while no cell is free nothing is taken: after the end a reply is 14, a Z after a record is 15, and any other is 16
pub record FullIsRule : Type 0 where
  pub late : (s : ℕ) (v : View) (f : Frame) → (v.ended ≡ 0 → ⊥) → seat_step s false v (to_reply f) ≡ record { answer = refuses (plain 14); view = v }
  pub astray : (s : ℕ) (v : View) (f : Frame) → v.ended ≡ 0 → has_status_z f ≡ true → (v.records ≡ [] → ⊥) → seat_step s false v (to_reply f) ≡ record { answer = refuses (plain 15); view = v }
  pub full : (s : ℕ) (v : View) (f : Frame) → v.ended ≡ 0 → (has_status_z f ≡ true → v.records ≡ []) → seat_step s false v (to_reply f) ≡ record { answer = refuses (plain 16); view = v }

-- whatever may stand in a stretch, an open request for whose events there are cells goes by these events alone
abbrev pub FoldsWhatMayStand : Type 0
FoldsWhatMayStand =
    (may : Event → Bool) → MayStand may
    → (m : Memory) (es : List Event) (s : ℕ) → is_desk m ≡ true → Stands may es → s < seat_count → (view_at m s).used ≡ true → CellsFor (view_at m s).key m es
    → (view_at (run m es) s ≡ view_after s (view_at m s) (events_to (view_at m s).key es)) × (answers_to (view_at m s).key m es ≡ says_to s (view_at m s) (events_to (view_at m s).key es))
