-- `desk::tally::is_whole` meets its contract: owning an array of arrays says how long it and its rows are.
use mathlib.Core.Path.{◌≡◌, refl}
use mathlib.Core.List.{List, [], ◌∷◌}
use Prim.Native.Nat.{ℕ, zero, suc, ◌<◌}
use native.Mathlib.Nat.{le_of_suc-le-suc, not-suc-le-zero}
use lib.ListN.{length, get_or}
use mir.Syntax.{w32}
use mir.Val.{Val}
use denote.Shadow.{shadow}
use denote.Plain.{UInt}
use denote.Array.{Array, each}
use Rattle.desk.specs.Tally.{status_count}
use Rattle.desk.proofs.tally.is_whole.Goals as goal

rows : (t : List (List ℕ)) (values : List Val) → shadow (each (List ℕ) (Array (UInt w32) status_count).own_val t values) → (i : ℕ) → i < length t → length (get_or t i []) ≡ status_count
rows [] values s i h = absurd (not-suc-le-zero h)
rows (row ∷ t) [] s i h = absurd s
rows (row ∷ t) (v ∷ values) s zero h = s.0.1.0.1
rows (row ∷ t) (v ∷ values) s (suc i) h = rows t values s.1 i (le_of_suc-le-suc h)

pub returns : goal.returns
returns c =
    let g = c.well_formed.0 in
    let n : length c.args.tally ≡ 33 = g.1.0.1 in
    (refl, record { size = n; rows = λ i l. rows c.args.tally _ g.1.1 i (rw n l) })
