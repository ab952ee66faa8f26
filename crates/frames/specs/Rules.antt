-- Rules for the values of fields that several kinds of frame share.
use Rattle.std.specs.Prelude.{ℕ, Bool, ◌&&◌, ◌||◌, leb, eqb}
use Rattle.digits.specs.Text.{codes, one_of}

unfoldable pub between : ℕ → ℕ → ℕ → Bool
between lo hi v = leb lo v && leb v hi

unfoldable pub up_to : ℕ → ℕ → Bool
up_to hi v = leb v hi

-- 0 to 9, A to Z, a to z: three ranges with other characters between them
unfoldable pub is_requester : ℕ → Bool
is_requester b = between 48 57 b || between 65 90 b || between 97 122 b

unfoldable pub is_output : ℕ → Bool
is_output = one_of (codes "SABT")

-- a byte that is kept as it is, 20h to 7Eh
unfoldable pub is_raw : ℕ → Bool
is_raw = between 32 126

abbrev pub space : ℕ
space = 32

-- the address of a stopwatch: a space, or 0 to 9
unfoldable pub is_address : ℕ → Bool
is_address b = eqb b space || between 48 57 b
