-- A layout: the fields of a kind of frame in order, and the parts of its record R that hold their values. The fields after a field may depend on its value.
use Rattle.std.specs.Prelude.{ℕ, zero, suc, ◌+◌, ◌<◌, List, [], ◌∷◌, ◌++◌, Bool, true, false, ◌≡◌}
use Rattle.digits.specs.declared.refusal.Refusal.{Refusal}
use Rattle.digits.specs.Refusals.{FIELD}
use Rattle.digits.specs.Told.{Told, gives, refuses, tried}
use Rattle.frames.specs.Shape.{Value, is, none}
use Rattle.frames.specs.Classes.{spoiled_place}
use Rattle.frames.specs.Field.{Field}

pub data Layout (R : Type 0) : Type 1 where
  -- a field: its offset, what it is, the part of a record that holds its value, and the layout after it
  field : {A : Type 0} → ℕ → Field A → (R → A) → (A → Layout R) → Layout R
  -- a further test of a record, which reading a frame skips; if it fails, the record is wrong at this offset
  suits : ℕ → (R → Bool) → Layout R → Layout R
  -- the record with these values
  end : R → Layout R

-- the offset, if a test fails; otherwise what the rest says
abbrev pub wrong_unless : Bool → ℕ → ℕ → ℕ
wrong_unless true at rest = rest
wrong_unless false at rest = at

module _ {R : Type 0} where
  -- ---- a frame: its fields, from place p of the bytes s on

  -- a field's value, tested: this refusal if there is no value or the rule fails; otherwise the rest
  abbrev pub taken : {A : Type 0} → (A → Bool) → Refusal → Value A → (A → Told R) → Told R
  taken rule f (is v) rest = tried (rule v) f (rest v)
  taken rule f none rest = refuses f

  -- the record that the fields hold, or FIELD with the offsets of the first wrong one and of the byte that spoils it
  unfoldable pub fields_of : Layout R → ℕ → List ℕ → Told R
  fields_of (field at f part next) p s = taken f.rule (FIELD at (spoiled_place f.classes s at)) (f.shape.got s p) λ v. fields_of (next v) (p + f.shape.width) s
  fields_of (suits at test rest) p s = fields_of rest p s
  fields_of (end r) p s = gives r

  -- ---- a record

  -- the offset of its first wrong part, or 0 if none is wrong
  unfoldable pub record_wrong : Layout R → R → ℕ
  record_wrong (field at f part next) r = wrong_unless (f.rule (part r)) at (record_wrong (next (part r)) r)
  record_wrong (suits at test rest) r = wrong_unless (test r) at (record_wrong rest r)
  record_wrong (end q) r = zero

  -- the bytes of its fields
  unfoldable pub write : Layout R → R → List ℕ
  write (field at f part next) r = f.shape.put (part r) ++ write (next (part r)) r
  write (suits at test rest) r = write rest r
  write (end q) r = []

-- ---- a layout of a part Q, as the layout of a record R that has more parts: `of` is the part Q of a record, and `whole` makes the record from Q

module _ {Q R : Type 0} (of : R → Q) (whole : Q → R) where
  abbrev pub within : Layout Q → Layout R
  within (field at f part next) = field at f (λ r. part (of r)) λ v. within (next v)
  within (suits at test rest) = suits at (λ r. test (of r)) (within rest)
  within (end q) = end (whole q)

-- ---- each field is at the offset that it states

-- a layout whose fields begin at these offsets, in a frame of `size` bytes; the last offset is that of the CR
pub data Placed {R : Type 0} : Layout R → List ℕ → ℕ → Type 1 where
  -- a field's stated offset is its place, and the next field is right after its bytes, of which there is at least one
  stands : {A : Type 0} {p q size : ℕ} {offsets : List ℕ} {f : Field A} {part : R → A} {next : A → Layout R}
      → p < q → q ≡ p + f.shape.width → ((v : A) → f.rule v ≡ true → Placed (next v) (q ∷ offsets) size) → Placed (field p f part next) (p ∷ q ∷ offsets) size
  -- a further test reports the place that the fields have reached
  besides : {p size : ℕ} {offsets : List ℕ} {test : R → Bool} {rest : Layout R} → Placed rest (p ∷ offsets) size → Placed (suits p test rest) (p ∷ offsets) size
  -- after the last field only the CR is left, the frame's last byte
  ends : {p : ℕ} {r : R} → Placed (end r) (p ∷ []) (suc p)
