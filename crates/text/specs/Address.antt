-- How an address is shown in a text.
use Rattle.std.specs.Prelude.{ℕ, cond, eqb}

-- an address that is a space is shown as a minus sign, which no address is
abbrev pub blank : ℕ
blank = 32

abbrev pub minus : ℕ
minus = 45

unfoldable pub address_shown : ℕ → ℕ
address_shown b = cond (eqb b blank) minus b

-- the address that is shown so
unfoldable pub shown_address : ℕ → ℕ
shown_address b = cond (eqb b minus) blank b
