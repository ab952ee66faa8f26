-- The search for the byte that spoils a field, as the code makes it: class by class. Assumes nothing.
use Prim.Native.Nat.{ℕ, suc, ◌+◌, ◌≤◌, ◌<◌}
use mathlib.Core.List.{List}
use mathlib.Core.Bool.{Bool, true, false, true≢false, false≢true, cond}
use mathlib.Core.Path.{◌≡◌, refl, sym, ap, ◌∙◌}
use native.Mathlib.Omega.{arith}
use native.Mathlib.Nat.{add-zero}
use lib.Dec.{eqb}
use borrow.Author.Tests.{eq-eqb, ne_eqb, le-leb, lt-leb}
use lib.ListN.{length, get_or, drop, drop_of_length-le}
use lib.Seq.{drop-cons}
use Rattle.digits.proofs.Tests.{by_less}
use Rattle.frames.specs.Rules.{between}
use Rattle.frames.specs.Classes.{first_off}
use Rattle.frames.specs.inside.Spoiled.{in_class, classes_of}

-- a range of one number
pub alone : (n b : ℕ) → eqb b n ≡ between n n b
unfolding between
alone n b =
    by_less b n (λ h. ne_eqb b n (λ e. omega arith) ∙ sym (rw (lt-leb n b h)))
    (λ h. by_less n b (λ k. ne_eqb b n (λ e. omega arith) ∙ sym (rw (le-leb n b h, lt-leb b n k)))
    (λ k. eq-eqb b n (omega arith) ∙ sym (rw (le-leb n b h, le-leb b n k))))

-- what is left to look at from place i of the field on
abbrev pub left : List ℕ → ℕ → List ℕ → ℕ → ℕ
left s at text i = first_off (classes_of (drop i text)) s (at + i) at

pub look_first : (s : List ℕ) (at : ℕ) (text : List ℕ) → first_off (classes_of text) s at at ≡ left s at text 0
look_first s at text = rw (add-zero at)

module _ (s : List ℕ) (at : ℕ) (text : List ℕ) (i : ℕ) where
  look : (n p : ℕ) → n ≡ suc i → p ≡ suc (at + i) → i < length text → left s at text i ≡ cond (in_class (get_or text i 0) (get_or s (at + i) 0)) (first_off (classes_of (drop n text)) s p at) (at + i)
  unfolding first_off
  look n p e f h = rw (e, f) (ap (λ (t : List ℕ). first_off (classes_of t) s (at + i) at) (drop-cons text i 0 h))

  module _ (class b : ℕ) (t : Bool) (is-class : class ≡ get_or text i 0) (is_b : b ≡ get_or s (at + i) 0) (is-t : t ≡ in_class class b) where
    pub look_on : i < length text → t ≡ true → left s at text i ≡ left s at text (i + 1)
    look_on h e = look (i + 1) (at + (i + 1)) (omega arith) (omega arith) h ∙ rw (← is-class, ← is_b, ← is-t) (in_class_law t e)
      where
        in_class_law : (x : Bool) → x ≡ true → cond x (left s at text (i + 1)) (at + i) ≡ left s at text (i + 1)
        in_class_law true q = refl
        in_class_law false q = absurd (false≢true q)

    pub look_off : i < length text → t ≡ false → left s at text i ≡ at + i
    look_off h e = look (i + 1) (at + (i + 1)) (omega arith) (omega arith) h ∙ rw (← is-class, ← is_b, ← is-t) (not_in_class t e)
      where
        not_in_class : (x : Bool) → x ≡ false → cond x (left s at text (i + 1)) (at + i) ≡ at + i
        not_in_class true q = absurd (true≢false q)
        not_in_class false q = refl

  pub look_done : length text ≤ i → left s at text i ≡ at
  unfolding first_off
  look_done h = rw (drop_of_length-le text h)
