-- Runs of bytes: the turns of a loop over them, and a part of a frame. Assumes nothing.
use Prim.Native.Nat.{ℕ, zero, suc, ◌+◌, ◌-◌, ◌≤◌, ◌<◌}
use mathlib.Core.List.{List, [], ◌∷◌}
use mathlib.Core.Bool.{Bool, true, false, ◌&&◌}
use mathlib.Core.Path.{◌≡◌, refl, sym, subst, ap, ◌∙◌}
use denote.Param.Members.{Mut, Called}
use Rattle.std.specs.Array.{IsFromFnResult, IsFromFnResultFrom}
use native.Mathlib.Nat.{add-zero}
use native.Mathlib.Omega.{arith}
use lib.ListN.{length, get_or, take, drop}
use Rattle.frames.specs.Shape.{bytes_of, all_from}
use Rattle.frames.proofs.ShapeLaws.{bytes_taken, length_bytes}

-- ---- a turn of a loop over bytes

module _ (rule : ℕ → Bool) (l : List ℕ) (i n b : ℕ) (more : i < n) (read : b ≡ get_or l i 0) where
  pub run_goes : (all good x : Bool) → all ≡ good && all_from rule l i (n - i) → x ≡ rule b → all ≡ (good && x) && all_from rule l (i + 1) (n - (i + 1))
  unfolding all_from
  run_goes all false x e h = e
  run_goes all true x e h =
      let k : n - i ≡ suc (n - suc i) = omega arith in
      let j : i + 1 ≡ suc i = omega arith in
      e ∙ rw (k, j, ← read, ← h)

pub run_done : (rule : ℕ → Bool) (l : List ℕ) (i n : ℕ) (all good : Bool) → n ≤ i → all ≡ good && all_from rule l i (n - i) → good ≡ all
unfolding all_from
run_done rule l i n all false h e = sym e
run_done rule l i n all true h e = let k : n - i ≡ 0 = omega arith in sym (e ∙ rw k)

-- ---- a part of a frame

pub shifted : (rule : ℕ → Bool) (x : ℕ) (l : List ℕ) (i n : ℕ) → all_from rule (x ∷ l) (suc i) n ≡ all_from rule l i n
unfolding all_from
shifted rule x l i zero = refl
shifted rule x l i (suc n) = ap (λ (b : Bool). rule (get_or l i 0) && b) (shifted rule x l (suc i) n)

bytes_all : (rule : ℕ → Bool) (s : List ℕ) (p n : ℕ) → all_from rule (bytes_of s p n) 0 n ≡ all_from rule s p n
unfolding all_from
bytes_all rule s p zero = refl
bytes_all rule s p (suc n) = ap (λ (b : Bool). rule (get_or s p 0) && b) (shifted rule (get_or s p 0) (bytes_of s (suc p) n) 0 n ∙ bytes_all rule s (suc p) n)

-- what is told of the bytes of a part holds of the frame from there on
pub part_all : (rule : ℕ → Bool) (s : List ℕ) (p n : ℕ) → p + n ≤ length s → all_from rule (take n (drop p s)) 0 (length (take n (drop p s))) ≡ all_from rule s p n
part_all rule s p n h = rw (bytes_taken n p s h, length_bytes s p n) (bytes_all rule s p n)

-- a list whose bytes are those of a frame from place p on
pub bytes_are : (s : List ℕ) (p n : ℕ) (l : List ℕ) → length l ≡ n → ((i : ℕ) → i < n → get_or l i 0 ≡ get_or s (p + i) 0) → l ≡ bytes_of s p n
bytes_are s p zero [] h e = refl
bytes_are s p zero (x ∷ l) h e = absurd (omega (arith, h))
bytes_are s p (suc n) [] h e = absurd (omega (arith, h))
bytes_are s p (suc n) (x ∷ l) h e =
    let head : x ≡ get_or s p 0 = e 0 (omega arith) ∙ ap (λ (q : ℕ). get_or s q 0) (add-zero p) in
    let tail : l ≡ bytes_of s (suc p) n =
    bytes_are s (suc p) n l (omega (arith, h)) (λ i k. e (suc i) (omega (arith, k)) ∙ (let q : p + suc i ≡ suc p + i = omega arith in ap (λ (q : ℕ). get_or s q 0) q)) in
    rw (head, tail)

-- an array filled by calls at its indices, when each call at i gives what stands i places after p
module _ {F : Type 0} (g : Mut F (ℕ × Unit {0}) ℕ) (f : F) (s : List ℕ) (p : ℕ) (l : List ℕ)
    (call : (i x : ℕ) (q : F) → Called g f (i, tt) x q → (x ≡ get_or s (p + i) 0) × (q ≡ f)) where
  filled : (n i : ℕ) (q : F) → q ≡ f → IsFromFnResultFrom g q l i n → (k : ℕ) → k < n → get_or l (i + k) 0 ≡ get_or s (p + (i + k)) 0
  filled zero i q e h k m = absurd (omega (arith, m))
  filled (suc n) i q e h zero m =
      let j : i + 0 ≡ i = omega arith in
      let c = call i h.1 h.0 (subst (λ (r : F). Called g r (i, tt) h.1 h.0) e h.3) in
      rw j (h.2.1 0 ∙ c.0)
  filled (suc n) i q e h (suc k) m =
      let j : i + suc k ≡ i + 1 + k = omega arith in
      let c = call i h.1 h.0 (subst (λ (r : F). Called g r (i, tt) h.1 h.0) e h.3) in
      rw j (filled n (i + 1) h.0 c.1 h.4 k (omega (arith, m)))

  pub filled_bytes : (n : ℕ) → IsFromFnResult g f l n → l ≡ bytes_of s p n
  filled_bytes n h = bytes_are s p n l h.long (λ i k. let z : 0 + i ≡ i = omega arith in subst (λ (j : ℕ). get_or l j 0 ≡ get_or s (p + j) 0) z (filled n 0 f refl h.each i k))
