-- Machines that take letters one by one, and what a machine over lines says of a text.
use Rattle.std.specs.Prelude.{ℕ, suc, List, [], ◌∷◌, Bool, cond, ◌&&◌}
use Rattle.lines.specs.Lines.{Line, is_empty, lines_of, rest_of}

-- the outcome of a step: it is refused, or it leads to this
pub data Step (A : Type 0) : Type 0 where
  refused : Step A
  next : A → Step A

module _ {A B : Type 0} where
  -- f of what a step leads to, and b if it is refused
  abbrev pub follow : Step A → (A → B) → B → B
  follow refused f b = b
  follow (next a) f b = f a

-- a machine over letters L, with states S. What it has read is a W
pub record Machine (W S L : Type 0) : Type 0 where
  pub start : S
  pub step : S → L → Step S
  -- whether the letters may end here
  pub final : S → Bool
  -- what the letters up to here say
  pub built : S → W

module _ {W S L : Type 0} (m : Machine W S L) where
  -- the state after these letters, if all are taken
  unfoldable pub after : S → List L → Step S
  after s [] = next s
  after s (l ∷ ls) = follow (m.step s l) (λ s'. after s' ls) refused

-- what a machine says of a text: what it has read, or the number of a line, counted from 1
pub data Verdict (W : Type 0) : Type 0 where
  gives : W → Verdict W
  wrong : ℕ → Verdict W

module _ {W S : Type 0} (m : Machine W S Line) where
  -- n lines have been taken. These lines are left, and then a rest without LF. A line that the machine refuses is wrong, and so are a rest and
  -- a line that is missing
  unfoldable pub walk : S → ℕ → List Line → List ℕ → Verdict W
  walk s n [] rest = cond (is_empty rest && m.final s) (gives (m.built s)) (wrong (suc n))
  walk s n (l ∷ ls) rest = follow (m.step s l) (λ s'. walk s' (suc n) ls rest) (wrong (suc n))

  unfoldable pub verdict : List ℕ → Verdict W
  verdict t = walk m.start 0 (lines_of t) (rest_of t)

module _ {W : Type 0} where
  -- the number of the wrong line, and 0 if there is none
  abbrev pub line_in : Verdict W → ℕ
  line_in (gives v) = 0
  line_in (wrong n) = n

-- the number of the first line that is wrong to the machine, and 0 if none is
abbrev pub first_refused : {W S : Type 0} → Machine W S Line → List ℕ → ℕ
first_refused m t = line_in (verdict m t)
