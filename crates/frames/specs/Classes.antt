-- What the bytes of a field can be: a class for each of its places, and the first byte that is not in its class.
use Rattle.std.specs.Prelude.{ℕ, suc, ◌+◌, List, [], ◌∷◌, Bool, cond, get_or, replicate}
use Rattle.frames.specs.Rules.{between, is_raw}

-- a class of bytes for each place of a field: those that good values show there
abbrev pub Classes : Type 0
Classes = List (ℕ → Bool)

-- the digits from lo to hi
unfoldable pub digit_from : ℕ → ℕ → ℕ → Bool
digit_from lo hi = between (48 + lo) (48 + hi)

abbrev pub digit_to : ℕ → ℕ → Bool
digit_to = digit_from 0

-- n places with any digit, and n places with any raw byte
abbrev pub any_digits : ℕ → Classes
any_digits n = replicate n (digit_to 9)

abbrev pub any_raw : ℕ → Classes
any_raw n = replicate n is_raw

-- the first place from p on whose byte of s is not in its class, or `own` if there is none
unfoldable pub first_off : Classes → List ℕ → ℕ → ℕ → ℕ
first_off [] s p own = own
first_off (class ∷ classes) s p own = cond (class (get_or s p 0)) (first_off classes s (suc p) own) p

-- the place of the byte that spoils the field at this offset of s: its own offset if each byte is in its class
abbrev pub spoiled_place : Classes → List ℕ → ℕ → ℕ
spoiled_place classes s at = first_off classes s at at
