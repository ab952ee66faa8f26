-- Only one outcome meets the promise of reading to the end, as far as what std promises of every reader goes. It leaves open whether a read fails, and
-- what stands in the buffer behind the bytes that were read.
use Rattle.std.specs.Prelude.{ℕ, ◌≡◌, List, take, Option, Some, Ok}
use Rattle.digits.specs.Once.{Once}
use Rattle.edge.specs.Filling.{Filled, Promised}

pub record OneOutcome : Type 1 where
  -- if the bytes are known and no failure is told, there is one count, one text read and one rest
  pub read_full : {S E : Type 0} (remaining : S → Option (List ℕ)) (s : S) (known out : List ℕ) → remaining s ≡ Some known
      → Once (λ (o : ℕ × List ℕ × Option (List ℕ)). (s' : S) × (out' : List ℕ) × Filled {S = S} {E = E} (Promised remaining) s out 0 (o.0, Ok tt) s' out'
      × (o.1 ≡ take o.0 out') × (o.2 ≡ remaining s'))
