-- What a form is: how the value of a field is written in a frame.
use Rattle.std.specs.Prelude.{ℕ, ◌+◌, ◌^◌, ◌≤◌, List, [], ◌∷◌, ◌++◌, Bool, true, ◌≡◌, ltb, length, get_or, take, drop, Option, Some, None}
use Rattle.digits.specs.Digits.{digits, number_at}

-- its width in bytes, the value at a place of a frame, and the bytes of a value
pub record Form : Type 0 where
  pub width : ℕ
  pub got : List ℕ → ℕ → Option ℕ
  pub put : ℕ → List ℕ

-- one byte, as it is
abbrev pub byte : Form
byte = record { width = 1; got = λ s p. Some (get_or s p 0); put = λ v. v ∷ [] }

-- w digits
abbrev pub number : ℕ → Form
number w = record { width = w; got = λ s p. number_at s p w; put = λ v. digits w v }

-- what a value becomes, if it becomes anything
abbrev pub named : (ℕ → Option ℕ) → Option ℕ → Option ℕ
named other (Some v) = other v
named other None = None

-- a form with the bytes of another one, in which the record holds another number: `other` turns the number in the frame into the record's, or gives None, and `own` turns it back
abbrev pub renamed : Form → (ℕ → Option ℕ) → (ℕ → ℕ) → Form
renamed k other own = record { width = k.width; got = λ s p. named other (k.got s p); put = λ v. k.put (own v) }

-- what every form must meet: a value takes the form's width, reading depends only on the form's own bytes, and a value that was read is written as the bytes that were there
pub record Lawful (k : Form) : Type 0 where
  pub long : (v : ℕ) → length (k.put v) ≡ k.width
  pub local : (pre t post : List ℕ) → length t ≡ k.width → k.got (pre ++ t ++ post) (length pre) ≡ k.got t 0
  pub again : (s : List ℕ) (p v : ℕ) → p + k.width ≤ length s → k.got s p ≡ Some v → take k.width (drop p s) ≡ k.put v

-- reading and writing are inverse: the form is lawful, and each good value, when written, reads back as itself
pub record Inverse (k : Form) (good : ℕ → Bool) : Type 0 where
  pub lawful : Lawful k
  pub back : (v : ℕ) → good v ≡ true → k.got (k.put v) 0 ≡ Some v

-- reading and writing a number that has room in its digits are inverse, at every width from 1 to 10
abbrev pub NumberInverse : Type 0
NumberInverse = (w : ℕ) → 1 ≤ w → w ≤ 10 → Inverse (number w) (λ v. ltb v (10 ^ w))
