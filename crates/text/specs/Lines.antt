-- The bytes that separate columns and end lines, and how many lines a text has.
use Rattle.std.specs.Prelude.{ℕ, suc, List, [], ◌∷◌, cond, eqb}

abbrev pub TAB : ℕ
TAB = 9

abbrev pub LF : ℕ
LF = 10

abbrev pub lines : List ℕ → ℕ
lines [] = 0
lines (b ∷ text) = cond (eqb b LF) (suc (lines text)) (lines text)
