-- A machine that takes a letter only if the new state passes a test. The machine says how a page goes on, and the test says whether the page
-- can still be completed.
use Rattle.std.specs.Prelude.{Bool, true, cond, List, ◌≡◌}
use Rattle.lines.specs.Machine.{Machine, Step, refused, next, after}

module _ {W S L : Type 0} (viable : S → Bool) (m : Machine W S L) where
  abbrev pub passing : Step S → Step S
  passing refused = refused
  passing (next s) = cond (viable s) (next s) refused

  abbrev pub only_where : Machine W S L
  only_where = record { start = m.start; step = λ s l. passing (m.step s l); final = m.final; built = m.built }

  -- a state from which a letter leads to a viable one is viable
  abbrev pub GoesBack : Type 0
  GoesBack = (s q : S) (l : L) → m.step s l ≡ next q → viable q ≡ true → viable s ≡ true

  -- testing every state on the way comes to the same as testing the last one
  pub record OnlyLastCounts : Type 0 where
    pub takes : (s q : S) (ls : List L) → after m s ls ≡ next q → viable q ≡ true → after only_where s ls ≡ next q
    pub taken : (s q : S) (ls : List L) → viable s ≡ true → after only_where s ls ≡ next q → (after m s ls ≡ next q) × (viable q ≡ true)
