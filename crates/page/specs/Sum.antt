-- The sum of all bytes of a text.
use Rattle.std.specs.Prelude.{ℕ, ◌+◌, List, [], ◌∷◌}

unfoldable pub sum_of : List ℕ → ℕ
sum_of [] = 0
sum_of (b ∷ text) = b + sum_of text

-- the last line shows the sum modulo this
abbrev pub sum_modulus : ℕ
sum_modulus = 65536
