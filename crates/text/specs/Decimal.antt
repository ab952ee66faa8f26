-- Numbers in decimal, without leading zeros.
use Rattle.std.specs.Prelude.{ℕ, zero, suc, ◌/◌, ◌^◌, ◌≤◌, ◌<◌, List, [], ◌∷◌, cond, ◌≡◌, ltb, length, get_or, Some}
use Rattle.digits.specs.Digits.{digits, number_from}

-- how many digits a number has, given that it has at most k + 1
unfoldable pub width_within : ℕ → ℕ → ℕ
width_within zero n = 1
width_within (suc k) n = cond (ltb n 10) 1 (suc (width_within k (n / 10)))

-- how many digits a number of 64 bits has: at most twenty
unfoldable pub width : ℕ → ℕ
width n = width_within 19 n

unfoldable pub decimal : ℕ → List ℕ
decimal n = digits (width n) n

-- a number is shown whole: there is at least one digit, the digits read as the number, and only the number 0 begins with 0
pub record Whole (n : ℕ) : Type 0 where
  pub some : 1 ≤ length (decimal n)
  pub reads : number_from (decimal n) 0 (length (decimal n)) 0 ≡ Some n
  pub plain : get_or (decimal n) 0 0 ≡ 48 → decimal n ≡ 48 ∷ []

-- every number of at most twenty digits is shown whole
abbrev pub DecimalIsWhole : Type 0
DecimalIsWhole = (n : ℕ) → n < 10 ^ 20 → Whole n
