-- The seat that a step changed, by its place.
use Rattle.std.specs.Prelude.{ℕ, Option, Some, None}
use Rattle.desk.specs.declared.done.Change.{Change}

abbrev pub place_in : Option Change → ℕ
place_in (Some c) = c.at
place_in None = 0
