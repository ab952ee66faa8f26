-- Where the lines of a text are.
use Rattle.std.specs.Prelude.{ℕ, ◌+◌, ◌≤◌, ◌<◌, max, true, false, List, [], ◌∷◌, ◌≡◌, length, get_or, drop}
use Rattle.digits.specs.Once.{Once}
use Rattle.lines.specs.declared.Place.{Place}
use Rattle.lines.specs.Lines.{Line, LF, lines_of}

-- the place of the first of these lines, which begin at `at`; if there is none, that of the bytes that are left
abbrev pub first_place : ℕ → List Line → ℕ → Place
first_place at [] left = record { start = at; end = at + left; whole = false }
first_place at (l ∷ ls) left = record { start = at; end = at + length l; whole = true }

-- the first line from a place on
unfoldable pub line_at : List ℕ → ℕ → Place
line_at s at = first_place at (lines_of (drop at s)) (length (drop at s))

-- ---- the same by bytes

-- no byte from place a up to but not including place e is LF
abbrev pub NoLF : List ℕ → ℕ → ℕ → Type 0
NoLF s a e = (i : ℕ) → a ≤ i → i < e → get_or s i 0 ≡ LF → ⊥

-- a whole line goes up to the first LF, with the LF. If there is none, all bytes are left, and none if the place is past the end
pub data Stands (s : List ℕ) (at : ℕ) : Place → Type 0 where
  to_LF : (i : ℕ) → at ≤ i → i < length s → NoLF s at i → get_or s i 0 ≡ LF → Stands s at (record { start = at; end = i + 1; whole = true })
  to_end : NoLF s at (length s) → Stands s at (record { start = at; end = max at (length s); whole = false })

-- the first line is at such a place, and there is only one
pub record LinesStand : Type 0 where
  pub stands : (s : List ℕ) (at : ℕ) → Stands s at (line_at s at)
  pub one_place : (s : List ℕ) (at : ℕ) → Once (Stands s at)
