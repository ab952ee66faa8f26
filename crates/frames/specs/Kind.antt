-- A kind of frame with its records of type R, and how it is read and written: lead byte, R, fields from the address on, CR.
use Rattle.std.specs.Prelude.{ℕ, ◌-◌, List, [], ◌∷◌, ◌++◌, Bool, false, ◌&&◌, ◌≡◌, length, get_or, drop, eqb, leb, Result}
use Rattle.digits.specs.Refusals.{KIND, LENGTH, END, ADDRESS, RECORD, ROOM}
use Rattle.digits.specs.Told.{Told, gives, refuses, tried}
use Rattle.frames.specs.declared.refusals.WriteRefusal.{WriteRefusal}
use Rattle.frames.specs.Refusals.{write_told}
use Rattle.frames.specs.Rules.{is_address}
use Rattle.frames.specs.Layout.{Layout, fields_of, record_wrong, write}

pub record Kind (R : Type 0) : Type 1 where
  pub lead : ℕ
  pub size : ℕ
  pub fields : Layout R

abbrev pub letter_r : ℕ
letter_r = 82

abbrev pub CR : ℕ
CR = 13

-- the fields begin with the address, at byte 2
abbrev pub fields_begin : ℕ
fields_begin = 2

-- ---- reading

-- the lead byte is right; an empty frame has none
abbrev pub lead_is : ℕ → List ℕ → Bool
lead_is lead [] = false
lead_is lead (b ∷ s) = eqb b lead

-- the refusals by lead byte, length, CR, and letter R with the address, in this order
unfoldable pub head_told : ℕ → ℕ → List ℕ → Told (Unit {0})
head_told lead size s =
    tried (lead_is lead s) KIND
    (tried (eqb (length s) size) LENGTH
    (tried (eqb (get_or s (size - 1) 0) CR) END
    (tried (eqb (get_or s 1 0) letter_r && is_address (get_or s 2 0)) ADDRESS
    (gives tt))))

module _ {A : Type 0} where
  -- a refusal stays; if there is none, the rest is tried
  abbrev pub and_then : Told (Unit {0}) → Told A → Told A
  and_then (gives _) rest = rest
  and_then (refuses f) rest = refuses f

module _ {R : Type 0} (k : Kind R) where
  -- reading: first the tests above, then the fields
  unfoldable pub read : List ℕ → Told R
  read s = and_then (head_told k.lead k.size s) (fields_of k.fields fields_begin s)

  -- ---- writing

  -- the offset of a record's first wrong part, or 0 if the record is well formed
  unfoldable pub wrong_in : R → ℕ
  wrong_in r = record_wrong k.fields r

  -- the frame of a record
  unfoldable pub frame_of : R → List ℕ
  frame_of r = k.lead ∷ letter_r ∷ (write k.fields r ++ (CR ∷ []))

-- the refusals of writing, in their order: RECORD, then ROOM
unfoldable pub write_tried : ℕ → ℕ → ℕ → Told (Unit {0})
write_tried wrong size room = tried (eqb wrong 0) (RECORD wrong) (tried (leb size room) ROOM (gives tt))

-- an output after writing: the frame in its first bytes, or no change if it was refused
abbrev pub output_after : Told (Unit {0}) → List ℕ → ℕ → List ℕ → List ℕ
output_after (gives _) frame size out = frame ++ drop size out
output_after (refuses f) frame size out = out

-- what is promised of writing the record r to the output out: the answer, and every byte of the output
pub record Wrote {R : Type 0} (k : Kind R) (r : R) (out : List ℕ) (answer : Result (Unit {0}) WriteRefusal) (out' : List ℕ) : Type 0 where
  pub told : write_told answer ≡ write_tried (wrong_in k r) k.size (length out)
  pub bytes : out' ≡ output_after (write_tried (wrong_in k r) k.size (length out)) (frame_of k r) k.size out
