-- Known bytes fix the count, the text and the rest.
use Rattle.std.specs.Prelude.{ℕ, ◌≡◌, List, length, take, drop, min, Option, Some, Ok}
use Rattle.std.proofs.Common.{sym, ap, ap₂, ◌∙◌}
use Rattle.edge.specs.Filling.{Filled, Promised}
use Rattle.edge.specs.Unique.{OneOutcome}
use Rattle.edge.proofs.Known.{fills_known}

abbrev View : Type 0
View = ℕ × List ℕ × Option (List ℕ)

-- the first n of the known bytes
front : List ℕ → ℕ → View
front known n = (n, take n known, Some (drop n known))

seen_is : {S E : Type 0} (remaining : S → Option (List ℕ)) (s s' : S) (known out out' : List ℕ) → remaining s ≡ Some known → (o : View)
    → Filled {S = S} {E = E} (Promised remaining) s out 0 (o.0, Ok tt) s' out' → o.1 ≡ take o.0 out' → o.2 ≡ remaining s'
    → o ≡ front known (min (length known) (length out))
unfolding front
seen_is remaining s s' known out out' e o f t u =
    let g = fills_known.whole remaining s s' known out out' o.0 e f in
    let text : o.1 ≡ take o.0 known = t ∙ g.0.first in
    let rest : o.2 ≡ Some (drop o.0 known) = u ∙ g.0.rest in
    let parts : ◌≡◌ {A = View} o (front known o.0) = ap₂ (λ (x : List ℕ) (y : Option (List ℕ)). (o.0, x, y)) text rest in
    parts ∙ ap (front known) g.1

pub one_outcome : OneOutcome
one_outcome = record {
  read_full = λ remaining s known out e a b p q.
      seen_is remaining s p.0 known out p.1 e a p.2 p.3 p.4 ∙ sym (seen_is remaining s q.0 known out q.1 e b q.2 q.3 q.4);
}
