-- Numbers as ASCII digits with leading zeros.
use Rattle.std.specs.Prelude.{ℕ, zero, suc, ◌+◌, ◌-◌, ◌*◌, ◌/◌, ◌%◌, List, [], ◌∷◌, ◌++◌, Bool, cond, ◌&&◌, get_or, leb, Option, Some, None}

-- the widths, in digits, of numbers that are read: the longest field has ten
abbrev pub is_width : ℕ → Bool
is_width w = leb 1 w && leb w 10

-- the widths of numbers that are written: no number of 64 bits has more than twenty digits
abbrev pub is_put_width : ℕ → Bool
is_put_width w = leb 1 w && leb w 20

-- the ASCII digits 0 to 9, 30h to 39h
abbrev pub is_digit : ℕ → Bool
is_digit b = leb 48 b && leb b 57

-- the last w digits of n
unfoldable pub digits : ℕ → ℕ → List ℕ
digits zero n = []
digits (suc w) n = digits w (n / 10) ++ ((48 + n % 10) ∷ [])

-- the digits as they are written; for a width outside 1 to 20 nothing is written
abbrev pub number_text : ℕ → ℕ → List ℕ
number_text w n = cond (is_put_width w) (digits w n) []

-- reads w more digits from place p of s, after digits whose value is v; a place past the end has no digit
unfoldable pub number_from : List ℕ → ℕ → ℕ → ℕ → Option ℕ
number_from s p zero v = Some v
number_from s p (suc w) v = cond (is_digit (get_or s p 0)) (number_from s (suc p) w (v * 10 + (get_or s p 0 - 48))) None

-- the number of w digits at place `at` of s
unfoldable pub number_at : List ℕ → ℕ → ℕ → Option ℕ
number_at s at w = cond (is_width w) (number_from s at w 0) None
