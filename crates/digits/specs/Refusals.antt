-- The table of refusals: why a call is refused, by number. FIELD and RECORD have an offset, and FIELD has the offset of the spoiled byte too; all others have 0 there.
use Rattle.std.specs.Prelude.{ℕ, [], ◌∷◌, Bool, true, false, cond, not, ◌&&◌, ◌||◌, ◌≡◌, eqb, leb}
use Rattle.digits.specs.declared.refusal.Refusal.{Refusal}

-- a refusal with the offsets of a field and of the byte that spoils it, one with an offset alone, and one with none
abbrev pub spoiled_at : ℕ → ℕ → ℕ → Refusal
spoiled_at number offset spoiled = record { number = number; offset = offset; spoiled = spoiled }

abbrev pub placed : ℕ → ℕ → Refusal
placed number offset = spoiled_at number offset 0

abbrev pub plain : ℕ → Refusal
plain number = placed number 0

-- the frame is empty or has another lead byte
abbrev pub KIND : Refusal
KIND = plain 1

-- the frame does not have the kind's length
abbrev pub LENGTH : Refusal
LENGTH = plain 2

-- the frame's last byte is not CR
abbrev pub END : Refusal
END = plain 3

-- byte 1 or 2 is wrong
abbrev pub ADDRESS : Refusal
ADDRESS = plain 4

-- a field of a frame is wrong: the offset of the first wrong field, and the offset of the byte that spoils it
abbrev pub FIELD : ℕ → ℕ → Refusal
FIELD = spoiled_at 5

-- a part of a record is wrong: the offset of the first wrong part
abbrev pub RECORD : ℕ → Refusal
RECORD = placed 6

-- the output is too short
abbrev pub ROOM : Refusal
ROOM = plain 7

-- Tnow, Tev or Taux is out of range
abbrev pub TIME : Refusal
TIME = plain 8

-- state and memory are not a desk
abbrev pub DESK : Refusal
DESK = plain 9

-- an opening whose information is q
abbrev pub NO_ANSWER_DUE : Refusal
NO_ANSWER_DUE = plain 10

-- the key is already at a seat, ended or not
abbrev pub IN_USE : Refusal
IN_USE = plain 11

-- all seats are in use
abbrev pub NO_SEAT : Refusal
NO_SEAT = plain 12

-- no seat has the reply's key
abbrev pub STRAY : Refusal
STRAY = plain 13

-- the seat with the reply's key has had its E or Z
abbrev pub ENDED : Refusal
ENDED = plain 14

-- a Z for a seat that holds records
abbrev pub OUT_OF_PLACE : Refusal
OUT_OF_PLACE = plain 15

-- no cell is free
abbrev pub FULL : Refusal
FULL = plain 16

-- a look at a letter that no reply has, or at a status that is not R, E or Z
abbrev pub NO_SUCH : Refusal
NO_SUCH = plain 17

-- a text that no desk writes as its page: the number, from 1, of the first line up to which no desk's page begins so
abbrev pub PAGE : ℕ → Refusal
PAGE = placed 18

-- a refusal of the table: a number from 1 to 17; a spoiled byte, not before the field, for 5 and otherwise 0; and an offset other than 0 exactly for 5 and 6
abbrev pub is_refusal : Refusal → Bool
is_refusal f =
    leb 1 f.number && leb f.number 17
    && cond (eqb f.number 5) (leb f.offset f.spoiled) (eqb f.spoiled 0)
    && cond (eqb f.number 5 || eqb f.number 6) (not (eqb f.offset 0)) (eqb f.offset 0)

-- worked cases: the numbers in the table's order, and which refusals have an offset and a spoiled byte
pub record TableWorked : Type 0 where
  pub numbers : KIND.number ∷ LENGTH.number ∷ END.number ∷ ADDRESS.number ∷ (FIELD 9 11).number ∷ (RECORD 9).number ∷ ROOM.number ∷ TIME.number
      ∷ DESK.number ∷ NO_ANSWER_DUE.number ∷ IN_USE.number ∷ NO_SEAT.number ∷ STRAY.number ∷ ENDED.number ∷ OUT_OF_PLACE.number ∷ FULL.number ∷ NO_SUCH.number ∷ []
      ≡ 1 ∷ 2 ∷ 3 ∷ 4 ∷ 5 ∷ 6 ∷ 7 ∷ 8 ∷ 9 ∷ 10 ∷ 11 ∷ 12 ∷ 13 ∷ 14 ∷ 15 ∷ 16 ∷ 17 ∷ []
  pub offsets : (FIELD 9 11).offset ∷ (RECORD 9).offset ∷ ROOM.offset ∷ FULL.offset ∷ NO_SUCH.offset ∷ [] ≡ 9 ∷ 9 ∷ 0 ∷ 0 ∷ 0 ∷ []
  pub spoiled_bytes : (FIELD 9 11).spoiled ∷ (RECORD 9).spoiled ∷ ROOM.spoiled ∷ FULL.spoiled ∷ NO_SUCH.spoiled ∷ [] ≡ 11 ∷ 0 ∷ 0 ∷ 0 ∷ 0 ∷ []
  pub field_numbers : (o p : ℕ) → FIELD o p ≡ record { number = 5; offset = o; spoiled = p }
  pub record_numbers : (o : ℕ) → RECORD o ≡ record { number = 6; offset = o; spoiled = 0 }
  pub none_0 : is_refusal (plain 0) ≡ false
  pub last_17 : is_refusal (plain 17) ≡ true
  pub none_18 : is_refusal (plain 18) ≡ false
  pub field_placed : is_refusal (FIELD 30 32) ≡ true
  pub field_own : is_refusal (FIELD 30 30) ≡ true
  pub spoiled_before : is_refusal (FIELD 30 29) ≡ false
  pub field_nowhere : is_refusal (FIELD 0 3) ≡ false
  pub record_placed : is_refusal (RECORD 30) ≡ true
  pub record_spoiled : is_refusal (spoiled_at 6 30 30) ≡ false
  pub room_placed : is_refusal (placed 7 30) ≡ false
  pub room_spoiled : is_refusal (spoiled_at 7 0 30) ≡ false
