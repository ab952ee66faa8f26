-- The lines of a text, and what it means that one text begins with the first lines of another. A text is a list of bytes.
use Rattle.std.specs.Prelude.{ℕ, ◌≤◌, List, [], ◌∷◌, ◌++◌, Bool, true, false, cond, ◌&&◌, ◌≡◌, ◌↔◌, eqb, length, take}
use Rattle.text.specs.Lines.{lines}
pub use Rattle.text.specs.Lines.{LF}

module _ {A : Type 0} where
  abbrev pub is_empty : List A → Bool
  is_empty [] = true
  is_empty (x ∷ xs) = false

  abbrev pub every : (A → Bool) → List A → Bool
  every p [] = true
  every p (x ∷ xs) = p x && every p xs

-- the bytes of a line, with its LF
abbrev pub Line : Type 0
Line = List ℕ

-- a line has one LF, as its last byte
unfoldable pub is_line : Line → Bool
is_line [] = false
is_line (b ∷ l) = cond (eqb b LF) (is_empty l) (is_line l)

-- a byte other than LF is the first of the line that follows it; if no line follows, it is in none
abbrev pub lead : ℕ → List Line → List Line
lead b [] = []
lead b (l ∷ ls) = (b ∷ l) ∷ ls

-- and then it is in the rest
abbrev pub trail : ℕ → List Line → List ℕ → List ℕ
trail b [] rest = b ∷ rest
trail b (l ∷ ls) rest = rest

-- the lines of a text, each with its LF
unfoldable pub lines_of : List ℕ → List Line
lines_of [] = []
lines_of (b ∷ t) = cond (eqb b LF) ((b ∷ []) ∷ lines_of t) (lead b (lines_of t))

-- what is after the last LF. It is no line, since it has no LF
unfoldable pub rest_of : List ℕ → List ℕ
rest_of [] = []
rest_of (b ∷ t) = cond (eqb b LF) (rest_of t) (trail b (lines_of t) (rest_of t))

-- the text that consists of these lines
abbrev pub joined : List Line → List ℕ
joined [] = []
joined (l ∷ ls) = l ++ joined ls

-- a text is its lines and then its rest, there is one line for each LF, and no other lines make the same text
pub record Parted : Type 0 where
  pub whole : (t : List ℕ) → joined (lines_of t) ++ rest_of t ≡ t
  pub are_lines : (t : List ℕ) → every is_line (lines_of t) ≡ true
  pub counted : (t : List ℕ) → length (lines_of t) ≡ lines t
  pub only_these : (ls : List Line) → every is_line ls ≡ true → lines_of (joined ls) ≡ ls

-- text u begins with the first n lines of text t, each with its LF. So t has n lines at least
pub record Begins (n : ℕ) (t u : List ℕ) : Type 0 where
  pub has : n ≤ length (lines_of t)
  pub rest : List ℕ
  pub goes : u ≡ joined (take n (lines_of t)) ++ rest

-- that is: u has the same first n lines
abbrev pub BeginsByLines : Type 0
BeginsByLines = (n : ℕ) (t u : List ℕ) → Begins n t u ↔ ((n ≤ length (lines_of t)) × (take n (lines_of u) ≡ take n (lines_of t)))
