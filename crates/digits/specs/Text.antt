-- Letters and lists of them.
use Rattle.std.specs.Prelude.{ℕ, suc, ◌-◌, ◌/◌, ◌%◌, ◌^◌, List, [], ◌∷◌, Bool, true, false, cond, ◌||◌, ◌≡◌, eqb, ltb}
use Prim.Native.Char.{code}
use Prim.Native.String.{String, [] as done, ◌∷◌ as ◌then◌}

-- the bytes of an ASCII text
abbrev pub codes : String → List ℕ
codes done = []
codes (c then s) = code c ∷ codes s

-- whether a byte is in a list
unfoldable pub one_of : List ℕ → ℕ → Bool
one_of [] b = false
one_of (x ∷ xs) b = eqb b x || one_of xs b

-- the place of a byte in a list, counted from 0; the list's length if it is not in it
unfoldable pub place_of : List ℕ → ℕ → ℕ
place_of [] b = 0
place_of (x ∷ xs) b = cond (eqb b x) 0 (suc (place_of xs b))

-- whether a byte is in a set of bytes below 128. The set is two numbers: bit b of the first for bytes below 64,
-- and bit b - 64 of the second for the others
unfoldable pub in_set : ℕ → ℕ → ℕ → Bool
in_set low high b = cond (ltb b 64) (eqb (low / 2 ^ b % 2) 1) (cond (ltb b 128) (eqb (high / 2 ^ (b - 64) % 2) 1) false)

-- worked cases: the first and the last byte of each number, in the set and not in it, and the first byte past both
pub record SetsWorked : Type 0 where
  pub byte_0 : in_set 1 0 0 ≡ true
  pub not_byte_0 : in_set 2 1 0 ≡ false
  pub byte_63 : in_set 9223372036854775808 0 63 ≡ true
  pub not_byte_63 : in_set 9223372036854775807 9223372036854775808 63 ≡ false
  pub byte_64 : in_set 0 1 64 ≡ true
  pub not_byte_64 : in_set 1 2 64 ≡ false
  pub byte_127 : in_set 0 9223372036854775808 127 ≡ true
  pub not_byte_127 : in_set 9223372036854775808 9223372036854775807 127 ≡ false
  pub byte_128 : in_set 18446744073709551615 18446744073709551615 128 ≡ false
