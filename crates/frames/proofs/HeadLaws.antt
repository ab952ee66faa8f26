-- The tests before the fields, and the tests before a frame is written, one by one. Assumes nothing.
use Prim.Native.Nat.{ℕ, ◌-◌, ◌≤◌, ◌<◌}
use mathlib.Core.List.{List, [], ◌∷◌}
use mathlib.Core.Bool.{Bool, true, false, ◌&&◌}
use mathlib.Core.Path.{◌≡◌, refl, sym}
use native.Mathlib.Omega.{arith}
use lib.Dec.{eqb}
use lib.ListN.{length, get_or}
use borrow.Author.Tests.{eq-eqb, ne_eqb, le-leb, lt-leb}
use Rattle.digits.specs.declared.refusal.Refusal.{Refusal}
use Rattle.digits.specs.Refusals.{KIND, LENGTH, END, ADDRESS, RECORD, ROOM}
use Rattle.digits.specs.Told.{Told, gives, refuses, tried, Sure}
use Rattle.digits.proofs.Sure.{sure_refuses, sure_gives, sure_tried}
use Rattle.frames.specs.Rules.{is_address}
use Rattle.frames.specs.Kind.{lead_is, letter_r, CR, head_told, and_then, write_tried}

-- ---- answers that are not refusals

module _ {A : Type 0} where
  pub tried_gives : (t : Bool) (f : Refusal) (rest : Told A) (a : A) → tried t f rest ≡ gives a → (t ≡ true) × (rest ≡ gives a)
  tried_gives true f rest a e = (refl, e)
  tried_gives false f rest a e = absurd (let z : ◌≡◌ {A = ℕ} 0 1 = cc in omega arith)

  pub then_gives : (t : Told (Unit {0})) (rest : Told A) (a : A) → and_then t rest ≡ gives a → (t ≡ gives tt) × (rest ≡ gives a)
  then_gives (gives x) rest a e = (refl, e)
  then_gives (refuses f) rest a e = absurd (let z : ◌≡◌ {A = ℕ} 0 1 = cc in omega arith)

-- ---- refusals are those of the table

pub sure_then : {A : Type 0} (t : Told (Unit {0})) (rest : Told A) → Sure t → Sure rest → Sure (and_then t rest)
sure_then (gives x) rest s s' = s'
sure_then (refuses f) rest s s' = sure_refuses f (s f refl)

pub sure_head : (lead size : ℕ) (s : List ℕ) → Sure (head_told lead size s)
unfolding head_told
sure_head lead size s =
    sure_tried (lead_is lead s) KIND _ (λ _. refl)
    (sure_tried (eqb (length s) size) LENGTH _ (λ _. refl)
    (sure_tried (eqb (get_or s (size - 1) 0) CR) END _ (λ _. refl)
    (sure_tried (eqb (get_or s 1 0) letter_r && is_address (get_or s 2 0)) ADDRESS _ (λ _. refl)
    (sure_gives tt))))

-- ---- the head of a frame

-- the byte at 0 tests the lead byte, also for an empty frame, if the lead byte is not 0
lead_at : (lead : ℕ) (s : List ℕ) → 0 < lead → lead_is lead s ≡ eqb (get_or s 0 0) lead
lead_at lead [] h = sym (ne_eqb 0 lead (λ (e : 0 ≡ lead). omega arith))
lead_at lead (b ∷ s) h = refl

module _ (lead size : ℕ) (s : List ℕ) (some : 0 < lead) where
  pub head_kind : (get_or s 0 0 ≡ lead → ⊥) → refuses KIND ≡ head_told lead size s
  unfolding head_told
  head_kind k = rw (lead_at lead s some, ne_eqb (get_or s 0 0) lead k)

  module _ (kind : get_or s 0 0 ≡ lead) where
    pub head_length : (length s ≡ size → ⊥) → refuses LENGTH ≡ head_told lead size s
    unfolding head_told
    head_length l = rw (lead_at lead s some, eq-eqb (get_or s 0 0) lead kind, ne_eqb (length s) size l)

    module _ (long : length s ≡ size) where
      pub head_end : (get_or s (size - 1) 0 ≡ CR → ⊥) → refuses END ≡ head_told lead size s
      unfolding head_told
      head_end e = rw (lead_at lead s some, eq-eqb (get_or s 0 0) lead kind, eq-eqb (length s) size long, ne_eqb (get_or s (size - 1) 0) CR e)

      module _ (ended : get_or s (size - 1) 0 ≡ CR) where
        pub head_letter : (get_or s 1 0 ≡ letter_r → ⊥) → refuses ADDRESS ≡ head_told lead size s
        unfolding head_told
        head_letter a =
            rw (lead_at lead s some, eq-eqb (get_or s 0 0) lead kind, eq-eqb (length s) size long, eq-eqb (get_or s (size - 1) 0) CR ended, ne_eqb (get_or s 1 0) letter_r a)

        module _ (letter : get_or s 1 0 ≡ letter_r) where
          pub head_address : is_address (get_or s 2 0) ≡ false → refuses ADDRESS ≡ head_told lead size s
          unfolding head_told
          head_address a =
              rw (lead_at lead s some, eq-eqb (get_or s 0 0) lead kind, eq-eqb (length s) size long, eq-eqb (get_or s (size - 1) 0) CR ended, eq-eqb (get_or s 1 0) letter_r letter, a)

          pub head_good : is_address (get_or s 2 0) ≡ true → gives tt ≡ head_told lead size s
          unfolding head_told
          head_good a =
              rw (lead_at lead s some, eq-eqb (get_or s 0 0) lead kind, eq-eqb (length s) size long, eq-eqb (get_or s (size - 1) 0) CR ended, eq-eqb (get_or s 1 0) letter_r letter, a)

-- ---- the tests of writing

module _ (wrong size room : ℕ) where
  pub write_record : (wrong ≡ 0 → ⊥) → refuses (RECORD wrong) ≡ write_tried wrong size room
  unfolding write_tried
  write_record w = rw (ne_eqb wrong 0 w)

  pub write_room : wrong ≡ 0 → room < size → refuses ROOM ≡ write_tried wrong size room
  unfolding write_tried
  write_room w h = rw (eq-eqb wrong 0 w, lt-leb size room h)

  pub write_done : wrong ≡ 0 → size ≤ room → gives tt ≡ write_tried wrong size room
  unfolding write_tried
  write_done w h = rw (eq-eqb wrong 0 w, le-leb size room h)
