-- What a shape is: how the value of a field is written in a frame. It is one number, several in a row, or bytes kept as they are.
use Rattle.std.specs.Prelude.{ℕ, zero, suc, ◌+◌, List, [], ◌∷◌, ◌++◌, Bool, true, ◌&&◌, get_or, Option, Some, None}
use Rattle.digits.specs.Form as D
use Rattle.digits.specs.Form.{Form}
use Rattle.times.specs.Clock.{clock}

-- what is found at a place: a value, or none
pub data Value (A : Type 0) : Type 0 where
  is : A → Value A
  none : Value A

-- its width in bytes, the value at a place of a frame, and the bytes of a value
pub record Shape (A : Type 0) : Type 0 where
  pub width : ℕ
  pub got : List ℕ → ℕ → Value A
  pub put : A → List ℕ

-- ---- one number

abbrev pub value : Option ℕ → Value ℕ
value (Some v) = is v
value None = none

abbrev pub one : Form → Shape ℕ
one k = record { width = k.width; got = λ s p. value (k.got s p); put = k.put }

abbrev pub byte : Shape ℕ
byte = one D.byte

-- w digits
abbrev pub number : ℕ → Shape ℕ
number w = one (D.number w)

-- a time of day, HHMMSSdddd, as ticks
abbrev pub time : Shape ℕ
time = one clock

-- ---- two shapes, one after the other

module _ {A B : Type 0} where
  abbrev pub pair : Value A → Value B → Value (A × B)
  pair (is a) (is b) = is (a, b)
  pair (is a) none = none
  pair none y = none

  abbrev pub both : Shape A → Shape B → Shape (A × B)
  both a b = record {
    width = a.width + b.width;
    got = λ s p. pair (a.got s p) (b.got s (p + a.width));
    put = λ v. a.put v.0 ++ b.put v.1;
  }

-- ---- n bytes, kept as they are

-- the n bytes of l from place i on
abbrev pub bytes_of : List ℕ → ℕ → ℕ → List ℕ
bytes_of l i zero = []
bytes_of l i (suc n) = get_or l i 0 ∷ bytes_of l (suc i) n

abbrev pub run : ℕ → Shape (List ℕ)
run n = record { width = n; got = λ s p. is (bytes_of s p n); put = λ v. bytes_of v 0 n }

-- each of the n bytes of l from place i on meets the rule
unfoldable pub all_from : (ℕ → Bool) → List ℕ → ℕ → ℕ → Bool
all_from rule l i zero = true
all_from rule l i (suc n) = rule (get_or l i 0) && all_from rule l (suc i) n
