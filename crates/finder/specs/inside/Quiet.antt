-- The bytes that the search passes in blocks.
use Rattle.std.specs.Prelude.{ℕ, ◌≤◌, ◌<◌, List, Bool, false, ◌||◌, ◌≡◌, eqb, length, get_or}
use Rattle.finder.specs.Leads.{is_lead}

-- so many bytes are tested at once
abbrev pub block_size : ℕ
block_size = 16

-- a byte that begins a frame or is `also`
abbrev pub is_stop : ℕ → ℕ → Bool
is_stop also b = is_lead b || eqb b also

-- all places from `from` up to `to` are in the capture, and none of their bytes is a stop
pub record Quiet (s : List ℕ) (also from to : ℕ) : Type 0 where
  pub forward : from ≤ to
  pub each : (i : ℕ) → from ≤ i → i < to → (i < length s) × (is_stop also (get_or s i 0) ≡ false)
