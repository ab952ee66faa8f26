-- What can come of filling from a reader whose bytes are known, spelled over bytes.
use Rattle.std.specs.Prelude.{ℕ, ◌≤◌, ◌≡◌, List, length, take, drop, min, Option, Some, Ok, Err}
use Rattle.edge.specs.Filling.{Filled, Promised}

-- out' is as long as out and begins with the first n of the known bytes, and the others are left
pub record Given {S : Type 0} (remaining : S → Option (List ℕ)) (known out : List ℕ) (n : ℕ) (s' : S) (out' : List ℕ) : Type 0 where
  pub there : n ≤ length known
  pub fits : n ≤ length out
  pub first : take n out' ≡ take n known
  pub rest : remaining s' ≡ Some (drop n known)
  pub size : length out' ≡ length out

pub record FillsKnown : Type 1 where
  -- if no failure is told, all known bytes came, or as many as out has room for
  pub whole : {S E : Type 0} (remaining : S → Option (List ℕ)) (s s' : S) (known out out' : List ℕ) (n : ℕ) → remaining s ≡ Some known
      → Filled {S = S} {E = E} (Promised remaining) s out 0 (n, Ok tt) s' out' → Given remaining known out n s' out' × (n ≡ min (length known) (length out))
  -- if one is told, no byte is lost
  pub broken : {S E : Type 0} (remaining : S → Option (List ℕ)) (s s' : S) (known out out' : List ℕ) (n : ℕ) (e : E) → remaining s ≡ Some known
      → Filled {S = S} {E = E} (Promised remaining) s out 0 (n, Err e) s' out' → Given remaining known out n s' out'
