-- Laws of the search for a seat's held cells. Assumes nothing.
use Prim.Native.Nat.{ℕ, ◌+◌, ◌≤◌, ◌<◌}
use mathlib.Core.List.{List}
use mathlib.Core.Bool.{Bool, true, false, ◌&&◌}
use mathlib.Core.Path.{◌≡◌, refl}
use native.Mathlib.Omega.{arith}
use lib.Dec.{eqb, leb}
use borrow.Author.Tests.{le-leb, lt-leb, lt-ltb, le-ltb, eq-eqb, ne_eqb}
use Rattle.std.proofs.Common.{Some, None}
use Rattle.desk.specs.Below.{first}
use Rattle.desk.specs.Memory.{mark_at}
use Rattle.desk.specs.Calls.{held_from, held_answer}
use Rattle.digits.proofs.Tests.{and_true}
use Rattle.desk.proofs.Below.{first_none, first_more, first_hit, first_past}

module _ (marks : List ℕ) (seat from : ℕ) where
  -- a search starts after the cells before its place
  pub from_none : first from (held_from marks seat from) ≡ from
  from_none = first_none from (held_from marks seat from) (λ j l. rw (lt-leb from j l))

  pub not_here : (i : ℕ) → first i (held_from marks seat from) ≡ i → (mark_at marks i ≡ seat → ⊥) → first (i + 1) (held_from marks seat from) ≡ i + 1
  not_here i h n = first_more i (held_from marks seat from) h (other (leb from i))
    where
      other : (b : Bool) → b && eqb (mark_at marks i) seat ≡ false
      other true = ne_eqb _ _ n
      other false = refl

  module _ (most limit : ℕ) (e : limit ≡ most) (i : ℕ) where
    pub found_cell : i < limit → from ≤ i → first i (held_from marks seat from) ≡ i → mark_at marks i ≡ seat → Some i ≡ held_answer most (first most (held_from marks seat from))
    found_cell l g h q =
        let k : i < most = rw e at l in
        rw (first_hit most i (held_from marks seat from) k h (and_true (le-leb from i g) (eq-eqb _ _ q)), lt-ltb i most k)

    pub none_found : limit ≤ i → first i (held_from marks seat from) ≡ i → None ≡ held_answer most (first most (held_from marks seat from))
    none_found l h =
        let k : most ≤ i = rw e at l in
        rw (first_past most i (held_from marks seat from) k h, le-ltb most most (omega arith))
