-- The answer of a call, by the tests that the code makes. Assumes nothing.
use Prim.Native.Nat.{ℕ, suc, ◌+◌, ◌≤◌, ◌<◌}
use mathlib.Core.List.{List, [], ◌∷◌, ◌++◌}
use mathlib.Core.Bool.{true, false}
use mathlib.Core.Path.{◌≡◌}
use native.Mathlib.Omega.{arith}
use native.Mathlib.Numerals.{add-one}
use borrow.Author.Tests.{eq-eqb, ne_eqb}
use lib.ListN.{length, get_or, take, drop, drop_of_length-le, length-append}
use lib.Seq.{slice, drop-cons, take-suc, drop-append-le, length-take-le, length-slice, slice_empty}
use Rattle.frames.specs.Kind.{CR}
use Rattle.finder.specs.declared.Found.{Found}
use Rattle.finder.specs.declared.Found.TheVariants.{Whole, Cut}
use Rattle.std.specs.Prelude.{Option, Some, None}
use Rattle.finder.specs.Leads.{is_lead}
use Rattle.finder.specs.Pieces.{inside, walk, pieces_from, first_of, found_from}

-- ---- outside a frame, at place i

module _ (s : List ℕ) (i : ℕ) where
  pub skipped : i < length s → is_lead (get_or s i 0) ≡ false → found_from s i ≡ found_from s (i + 1)
  unfolding found_from pieces_from walk
  skipped h e = rw (drop-cons s i 0 h, e, add-one i)

  pub none : length s ≤ i → found_from s i ≡ None
  unfolding found_from pieces_from walk
  none h = rw (drop_of_length-le s h)

-- ---- inside the frame that begins at a, at place i

-- one more byte
pub longer : (s : List ℕ) (a i : ℕ) → a ≤ i → i < length s → slice a (suc i) s ≡ slice a i s ++ (get_or s i 0 ∷ [])
longer s a i g h =
    rw (take-suc s i 0 h) (drop-append-le a (take i s) (get_or s i 0 ∷ []) (rw (length-take-le i s (omega arith)) g))

module _ (s : List ℕ) (a : ℕ) where
  -- the answer for the frame, from place i on
  unfoldable pub answer_at : ℕ → Option Found
  answer_at i = first_of (walk (inside a (slice a i s)) i (drop i s))

  pub begun : a < length s → is_lead (get_or s a 0) ≡ true → found_from s a ≡ answer_at (a + 1)
  unfolding found_from pieces_from walk answer_at
  begun h e = rw (add-one a, longer s a a (omega arith) h, slice_empty a s, drop-cons s a 0 h, e)

  module _ (i : ℕ) (g : a ≤ i) where
    pub end_cuts : i ≡ length s → answer_at i ≡ Some (Cut a (record { at = length s }))
    unfolding answer_at walk
    end_cuts h =
        let l : a + length (slice a i s) ≡ length s = rw (length-slice a i s (omega arith)) (omega arith) in
        rw (drop_of_length-le s {i = i} (omega arith), l)

    module _ (h : i < length s) where
      pub lead_cuts : is_lead (get_or s i 0) ≡ true → answer_at i ≡ Some (Cut a (record { at = i }))
      unfolding answer_at walk
      lead_cuts e =
          let l : a + length (slice a i s) ≡ i = rw (length-slice a i s (omega arith)) (omega arith) in
          rw (drop-cons s i 0 h, e, l)

      pub ends : is_lead (get_or s i 0) ≡ false → get_or s i 0 ≡ CR → answer_at i ≡ Some (Whole a (i + 1) (record { at = i + 1 }))
      unfolding answer_at walk
      ends e d =
          let l : a + length (slice a i s ++ (get_or s i 0 ∷ [])) ≡ i + 1 =
          rw (length-append (slice a i s) (get_or s i 0 ∷ []), length-slice a i s (omega arith)) (omega arith) in
          rw (drop-cons s i 0 h, e, eq-eqb (get_or s i 0) CR d, l)

      pub runs_on : is_lead (get_or s i 0) ≡ false → (get_or s i 0 ≡ CR → ⊥) → answer_at i ≡ answer_at (i + 1)
      unfolding answer_at walk
      runs_on e d = rw (drop-cons s i 0 h, e, ne_eqb (get_or s i 0) CR d, add-one i, longer s a i g h)
