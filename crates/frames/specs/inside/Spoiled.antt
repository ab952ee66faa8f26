-- The spoiled byte as the code looks for it: each field has a text with a class for each of its places.
use Rattle.std.specs.Prelude.{ℕ, List, [], ◌∷◌, Bool, cond, eqb}
use Rattle.digits.specs.Text.{codes}
use Rattle.frames.specs.declared.timing.TimingKind.{TimingKind}
use Rattle.frames.specs.declared.timing.TimingKind.TheVariants.{Clock as clock_kind, Net as net_kind, Raw as raw_kind}
use Rattle.frames.specs.Rules.{between, is_raw}
use Rattle.frames.specs.Classes.{Classes, first_off}
use Rattle.frames.specs.Timing.{is_sign}

-- a byte is in the class of a space if it is raw, of + if it is a sign, of = if it is 2, and of a digit if it is a digit up to this one
unfoldable pub in_class : ℕ → ℕ → Bool
in_class class = cond (eqb class 32) is_raw (cond (eqb class 43) is_sign (cond (eqb class 61) (between 50 50) (between 48 class)))

-- the classes that a text stands for
abbrev pub classes_of : List ℕ → Classes
classes_of [] = []
classes_of (class ∷ text) = in_class class ∷ classes_of text

-- if the field at this offset is the wrong one, the byte that spoils it by its text; otherwise what is known already
unfoldable pub looked_in : List ℕ → ℕ → ℕ → List ℕ → ℕ → ℕ
looked_in s wrong at text known = cond (eqb wrong at) (first_off (classes_of text) s at at) known

-- HHMMSSdddd
abbrev pub time_classes : List ℕ
time_classes = codes "2959599999"

-- a field of one byte is its own spoiled byte
abbrev pub request_byte : List ℕ → ℕ → ℕ
request_byte s wrong =
    looked_in s wrong 19 (codes "199")
    (looked_in s wrong 16 (codes "299")
    (looked_in s wrong 13 (codes "299")
    (looked_in s wrong 7 (codes "59999")
    (looked_in s wrong 4 (codes "999") wrong))))

abbrev pub dynamic_byte : List ℕ → ℕ → ℕ
dynamic_byte s wrong =
    looked_in s wrong 39 (codes "99999")
    (looked_in s wrong 28 time_classes
    (looked_in s wrong 24 (codes "299")
    (looked_in s wrong 21 (codes "299")
    (looked_in s wrong 16 (codes "69999")
    (looked_in s wrong 13 (codes "299")
    (looked_in s wrong 10 (codes "299")
    (looked_in s wrong 5 (codes "69999") wrong)))))))

-- in the fields of a reply before time and date
abbrev pub head_byte : List ℕ → ℕ → ℕ
head_byte s wrong =
    looked_in s wrong 26 (codes "299")
    (looked_in s wrong 23 (codes "999")
    (looked_in s wrong 20 (codes "299")
    (looked_in s wrong 17 (codes "199")
    (looked_in s wrong 12 (codes "59999")
    (looked_in s wrong 7 (codes "99999") wrong)))))

-- in time and date
abbrev pub timing_byte : TimingKind → List ℕ → ℕ → ℕ → ℕ
timing_byte clock_kind s wrong known = looked_in s wrong 40 (codes "3919=099") (looked_in s wrong 30 time_classes known)
timing_byte net_kind s wrong known = looked_in s wrong 40 (codes "+9999999") (looked_in s wrong 30 time_classes known)
timing_byte raw_kind s wrong known = looked_in s wrong 40 (codes "        ") (looked_in s wrong 30 (codes "          ") known)

abbrev pub reply_byte : TimingKind → List ℕ → ℕ → ℕ
reply_byte kind s wrong = looked_in s wrong 48 (codes "  ") (timing_byte kind s wrong (head_byte s wrong))
