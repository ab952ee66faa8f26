-- The status letters of a reply: R is one record of an answer, E its last one, Z says that no record is available.
use Rattle.std.specs.Prelude.{ℕ, Bool, List, [], ◌∷◌, eqb, cond, Option, Some, None}
use Rattle.digits.specs.Text.{one_of, place_of}

abbrev pub status_r : ℕ
status_r = 82

abbrev pub status_e : ℕ
status_e = 69

abbrev pub status_z : ℕ
status_z = 90

abbrev pub statuses : List ℕ
statuses = status_r ∷ status_e ∷ status_z ∷ []

unfoldable pub is_status : ℕ → Bool
is_status = one_of statuses

-- the place of a status among the three, or 3 if it is none of them
unfoldable pub status_place : ℕ → ℕ
status_place = place_of statuses

-- its place, if it is a status
abbrev pub status_found : ℕ → Option ℕ
status_found b = cond (is_status b) (Some (status_place b)) None

-- the status is Z: not available
abbrev pub is_z : ℕ → Bool
is_z status = eqb status status_z
