-- The names of refusals, as a host prints them.
use Rattle.std.specs.Prelude.{ℕ, suc, ◌≤◌, ◌<◌, List, [], ◌∷◌, ◌++◌, ◌≡◌, length, get_or, ltb}
use Rattle.digits.specs.Refusals.{KIND, LENGTH, END, ADDRESS, FIELD, RECORD, ROOM, TIME, DESK, NO_ANSWER_DUE, IN_USE, NO_SEAT, STRAY, ENDED, OUT_OF_PLACE, FULL, NO_SUCH}
use Rattle.digits.specs.Told.{Told, gives, tried}
use Rattle.digits.specs.Text.{codes}
use Rattle.frames.specs.Kind.{output_after}
use Rattle.rei2.specs.declared.request.WrittenAnswer.{WrittenAnswer}
use Rattle.rei2.specs.Frames.{written_answer}

-- by number, from 0 on; 0 is no refusal
unfoldable pub names : List (List ℕ)
names =
    codes "DONE"
    ∷ codes "KIND"
    ∷ codes "LENGTH"
    ∷ codes "END"
    ∷ codes "ADDRESS"
    ∷ codes "FIELD"
    ∷ codes "RECORD"
    ∷ codes "ROOM"
    ∷ codes "TIME"
    ∷ codes "DESK"
    ∷ codes "NO ANSWER DUE"
    ∷ codes "IN USE"
    ∷ codes "NO SEAT"
    ∷ codes "STRAY"
    ∷ codes "ENDED"
    ∷ codes "OUT OF PLACE"
    ∷ codes "FULL"
    ∷ codes "NO SUCH"
    ∷ []

-- any other number has the name UNKNOWN
unfoldable pub name_of : ℕ → List ℕ
name_of n = get_or names n (codes "UNKNOWN")

-- each refusal has its own name
pub record NamesTell : Type 0 where
  pub done : name_of 0 ≡ codes "DONE"
  pub kind : name_of KIND.number ≡ codes "KIND"
  pub length : name_of LENGTH.number ≡ codes "LENGTH"
  pub end : name_of END.number ≡ codes "END"
  pub address : name_of ADDRESS.number ≡ codes "ADDRESS"
  pub field : (at spoiled : ℕ) → name_of (FIELD at spoiled).number ≡ codes "FIELD"
  pub wrong_record : (at : ℕ) → name_of (RECORD at).number ≡ codes "RECORD"
  pub room : name_of ROOM.number ≡ codes "ROOM"
  pub time : name_of TIME.number ≡ codes "TIME"
  pub desk : name_of DESK.number ≡ codes "DESK"
  pub no_answer_due : name_of NO_ANSWER_DUE.number ≡ codes "NO ANSWER DUE"
  pub in_use : name_of IN_USE.number ≡ codes "IN USE"
  pub no_seat : name_of NO_SEAT.number ≡ codes "NO SEAT"
  pub stray : name_of STRAY.number ≡ codes "STRAY"
  pub ended : name_of ENDED.number ≡ codes "ENDED"
  pub out_of_place : name_of OUT_OF_PLACE.number ≡ codes "OUT OF PLACE"
  pub full : name_of FULL.number ≡ codes "FULL"
  pub no_such : name_of NO_SUCH.number ≡ codes "NO SUCH"
  pub others : (n : ℕ) → 18 ≤ n → name_of n ≡ codes "UNKNOWN"

-- ---- a name on an output, followed by a zero byte

-- it is refused if name and zero byte do not fit
abbrev pub name_tried : List ℕ → List ℕ → Told (Unit {0})
name_tried name out = tried (ltb (length name) (length out)) ROOM (gives tt)

-- what is promised of writing a name to out: the answer, whose size is that of the name without the zero byte, and every byte of the output
pub record NamedLent (name out : List ℕ) (answer : WrittenAnswer) (out' : List ℕ) : Type 0 where
  pub told : answer ≡ written_answer (length name) (name_tried name out)
  pub bytes : out' ≡ output_after (name_tried name out) (name ++ (0 ∷ [])) (suc (length name)) out

-- ---- room for every name, with its zero byte

abbrev pub name_size : ℕ
name_size = 14

abbrev pub NamesFit : Type 0
NamesFit = (n : ℕ) → length (name_of n) < name_size
