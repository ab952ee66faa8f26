-- What a loop of reads keeps: what comes of filling on from here comes of filling from the start.
use Rattle.std.specs.Prelude.{ℕ, List, Result}
use Rattle.edge.specs.Filling.{Reading, Filled}

abbrev pub GoesOn : {S E : Type 0} → Reading S E → S → List ℕ → S → List ℕ → ℕ → Type 0
GoesOn {S} {E} One s out s' out' n =
    (answer : ℕ × Result (Unit {0}) E) (s'' : S) (out'' : List ℕ) → Filled One s' out' n answer s'' out'' → Filled One s out 0 answer s'' out''
