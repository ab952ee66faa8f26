-- What a caller of `next` uses: an answer is the next piece, and the cursor moves to its end. Assumes nothing.
use Prim.Native.Nat.{ℕ, zero, suc, ◌+◌, ◌-◌, ◌≤◌, ◌<◌}
use mathlib.Core.List.{List, [], ◌∷◌}
use mathlib.Core.Bool.{true, false≢true}
use mathlib.Core.Path.{◌≡◌, refl, ap, subst, ◌∙◌}
use native.Mathlib.Omega.{arith}
use native.Mathlib.Nat.{suc-add, zero-add}
use lib.ListN.{length, take, drop, length-append, length-drop}
use lib.Seq.{slice, take-nil}
use Rattle.frames.specs.Kind.{CR}
use Rattle.finder.specs.declared.Found.{Found}
use Rattle.finder.specs.declared.Found.TheVariants.{Whole, Cut}
use Rattle.std.specs.Prelude.{Option, Some, None}
use Rattle.finder.specs.Pieces.{Piece, whole, cut, start_of, bytes_of, end_of, pieces_from, first_of, found_from}
use Rattle.finder.specs.Demands.{is_open, Right, All, InOrder}
use Rattle.finder.proofs.Walk.{pieces_right, GoesOn, goes_on, pieces_ordered, fits}

-- p is the first of the pieces that are left at a cursor; it is the bytes from a up to e
pub record Next (s : List ℕ) (at a e : ℕ) (p : Piece) : Type 0 where
  pub rest : pieces_from s at ≡ p ∷ pieces_from s e
  pub from : at ≤ a
  pub some : a < e
  pub within : e ≤ length s

abbrev pub Told : List ℕ → ℕ → Option Found → Type 0
Told s at (Some (Whole a e c)) = Next s at a e (whole a (slice a e s)) × (c.at ≡ e)
Told s at (Some (Cut a c)) = Next s at a c.at (cut a (slice a c.at s))
Told s at None = pieces_from s at ≡ []

-- ---- the bytes of a piece

slice_is : (a m : ℕ) (l : List ℕ) → slice a (a + m) l ≡ take m (drop a l)
slice_is zero m l = rw (zero-add m)
slice_is (suc a) m [] = rw (take-nil {A = ℕ} (suc a + m), take-nil {A = ℕ} m)
slice_is (suc a) m (x ∷ l) = rw (suc-add a m) (slice_is a m l)

-- a part of a slice: the bytes from a up to e
pub part_is : (s : List ℕ) (a e : ℕ) → a < e → slice a e s ≡ take (e - a) (drop a s)
part_is s a e l = ap (λ (n : ℕ). slice a n s) (let k : e ≡ a + (e - a) = omega arith in k) ∙ slice_is a (e - a) s

pub bytes_are : (s : List ℕ) (p : Piece) → Right s p → slice (start_of p) (end_of p) s ≡ bytes_of p
bytes_are s (whole a f) r = slice_is a (length f) s ∙ r.0
bytes_are s (cut a f) r = slice_is a (length f) s ∙ r.0

some_byte : (f : List ℕ) → is_open f ≡ true → 0 < length f
unfolding is_open
some_byte [] h = absurd (false≢true h)
some_byte (x ∷ f) h = omega arith

some_bytes : (s : List ℕ) (p : Piece) → Right s p → 0 < length (bytes_of p)
some_bytes s (whole a f) r = let l = ap length r.1.2 ∙ length-append r.1.0 (CR ∷ []) in omega arith
some_bytes s (cut a f) r = some_byte f r.1

-- ---- the answer

module _ (s : List ℕ) (at : ℕ) where
  next_is : (p : Piece) (ps : List Piece) → pieces_from s at ≡ p ∷ ps → Next s at (start_of p) (end_of p) p
  next_is p ps e =
      let r = (subst (All (Right s)) e (pieces_right s at)).0 in
      let o = subst (λ (l : List Piece). InOrder at l (at + length (drop at s))) e (pieces_ordered s at) in
      let g : ps ≡ pieces_from s (end_of p) = subst (GoesOn s) e (goes_on s at) in
      let k = fits (end_of p) (at + length (drop at s)) ps o.1 in
      let l = some_bytes s p r in
      record { rest = rw (← g) e; from = o.0; some = omega arith; within = omega (arith, length-drop at s) }

  pub first_bytes : (p : Piece) (ps : List Piece) → pieces_from s at ≡ p ∷ ps → slice (start_of p) (end_of p) s ≡ bytes_of p
  first_bytes p ps e = bytes_are s p (subst (All (Right s)) e (pieces_right s at)).0

  told_of : (ps : List Piece) → pieces_from s at ≡ ps → Told s at (first_of ps)
  told_of [] e = e
  told_of (whole a f ∷ ps) e = (rw (first_bytes (whole a f) ps e) (next_is (whole a f) ps e), refl)
  told_of (cut a f ∷ ps) e = rw (first_bytes (cut a f) ps e) (next_is (cut a f) ps e)

  pub told : Told s at (found_from s at)
  unfolding found_from
  told = told_of (pieces_from s at) refl
