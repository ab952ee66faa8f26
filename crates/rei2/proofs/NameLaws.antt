-- The names of refusals, and what an output holds after one is written. Assumes nothing.
use Prim.Native.Nat.{ℕ, zero, suc, ◌+◌, ◌<◌, ◌≤◌}
use mathlib.Core.List.{List, [], ◌∷◌, ◌++◌}
use mathlib.Core.Path.{◌≡◌, refl, sym, ap, ◌∙◌}
use native.Mathlib.Omega.{arith}
use native.Mathlib.Nat.{zero-add}
use mathlib.Core.Bool.{Bool, true, ◌&&◌, and-eq-true_iff}
use lib.ListN.{length, get_or, set, drop, length-append, get_or-eq_default}
use lib.Seq.{sets, sets-eq}
use lib.Dec.{ltb}
use borrow.Author.Tests.{ltb-true, lt-ltb, le-ltb}
use Rattle.digits.specs.Refusals.{ROOM}
use Rattle.digits.specs.Text.{codes}
use Rattle.rei2.specs.declared.request.WrittenAnswer.{WrittenAnswer}
use Rattle.rei2.specs.Names.{names, name_of, NamesTell, NamedLent, name_size, NamesFit}

pub names_tell : NamesTell
unfolding name_of names
names_tell = record {
  done = refl;
  kind = refl;
  length = refl;
  end = refl;
  address = refl;
  field = λ at spoiled. refl;
  wrong_record = λ at. refl;
  room = refl;
  time = refl;
  desk = refl;
  no_answer_due = refl;
  in_use = refl;
  no_seat = refl;
  stray = refl;
  ended = refl;
  out_of_place = refl;
  full = refl;
  no_such = refl;
  others = λ n l. get_or-eq_default names (codes "UNKNOWN") l;
}

module _ (n : ℕ) (name out : List ℕ) (a : WrittenAnswer) (out' : List ℕ) where
  pub named : name_of n ≡ name → NamedLent name out a out' → NamedLent (name_of n) out a out'
  named e h = rw e h

-- ---- every name has room

every_fits : List (List ℕ) → Bool
every_fits [] = true
every_fits (x ∷ xs) = ltb (length x) name_size && every_fits xs

in_table : (table : List (List ℕ)) (n : ℕ) (other : List ℕ) → length other < name_size → every_fits table ≡ true → length (get_or table n other) < name_size
unfolding every_fits
in_table [] n other l e = l
in_table (x ∷ xs) zero other l e = ltb-true (length x) name_size ((and-eq-true_iff (ltb (length x) name_size) (every_fits xs)).0 e).0
in_table (x ∷ xs) (suc n) other l e = in_table xs n other l ((and-eq-true_iff (ltb (length x) name_size) (every_fits xs)).0 e).1

pub names_fit : NamesFit
unfolding name_of names every_fits
names_fit n = in_table names n (codes "UNKNOWN") (omega arith) refl

-- ---- a name and a zero byte on an output

sets_last : (vs l : List ℕ) (i a : ℕ) → sets l i (vs ++ (a ∷ [])) ≡ set (sets l i vs) (i + length vs) a
sets_last [] l i a = ap (λ (k : ℕ). set l k a) (let e : i ≡ i + 0 = omega arith in e)
sets_last (v ∷ vs) l i a = sets_last vs (set l i v) (suc i) a ∙ ap (λ (k : ℕ). set (sets (set l i v) (suc i) vs) k a) (let e : suc i + length vs ≡ i + suc (length vs) = omega arith in e)

module _ (name out : List ℕ) where
  pub no_room : length out ≤ length name → NamedLent name out (record { refusal = ROOM.number; offset = 0; size = 0 }) out
  no_room l = let e = le-ltb (length name) (length out) l in record { told = rw e; bytes = rw e }

  pub put_whole : length name < length out → (out' : List ℕ) → out' ≡ set (sets out 0 name) (length name) 0 → NamedLent name out (record { refusal = 0; offset = 0; size = length name }) out'
  put_whole l out' e =
      let size : length (name ++ (0 ∷ [])) ≡ suc (length name) = length-append name (0 ∷ []) ∙ (let z : length name + 1 ≡ suc (length name) = omega arith in z) in
      let fits : 0 + length (name ++ (0 ∷ [])) ≤ length out = rw size (omega (arith, l)) in
      let bytes : out' ≡ (name ++ (0 ∷ [])) ++ drop (suc (length name)) out =
      e ∙ ap (λ (k : ℕ). set (sets out 0 name) k 0) (sym (zero-add (length name))) ∙ sym (sets_last name out 0 0) ∙ sets-eq (name ++ (0 ∷ [])) out 0 fits ∙ ap (λ (k : ℕ). (name ++ (0 ∷ [])) ++ drop k out) (zero-add (length (name ++ (0 ∷ []))) ∙ size) in
      let t = lt-ltb (length name) (length out) l in record { told = rw t; bytes = rw t bytes }
