-- A machine's walk over a text by places: what one line changes, and how the walk ends. Assumes nothing.
use Prim.Native.Nat.{ℕ, suc, ◌+◌, ◌≤◌, ◌<◌}
use mathlib.Core.Bool.{true, false}
use mathlib.Core.List.{List, []}
use mathlib.Core.Path.{◌≡◌, refl, ◌∙◌}
use native.Mathlib.Numerals.{add-one}
use lib.ListN.{length, drop, drop_of_length-le}
use lib.Seq.{slice, drop-cons}
use Rattle.lines.specs.declared.Place.{Place}
use Rattle.lines.specs.Lines.{Line, lines_of, rest_of}
use Rattle.lines.specs.Machine.{Machine, refused, next, follow, Verdict, gives, wrong, walk, verdict}
use Rattle.lines.specs.Places.{line_at}
use Rattle.lines.proofs.LineLaws.{text_is}
use Rattle.lines.proofs.PlaceLaws.{Next, next_whole, next_none}

module _ {W S : Type 0} (m : Machine W S Line) (t : List ℕ) where
  -- the verdict on what is left from place `at` on, after n lines
  abbrev pub left : S → ℕ → ℕ → Verdict W
  left s n at = walk m s n (lines_of (drop at t)) (rest_of (drop at t))

  pub left_start : verdict m t ≡ left m.start 0 0
  unfolding verdict
  left_start = refl

  -- ---- p is the place of the next line

  module _ (at : ℕ) (p : Place) (is : p ≡ line_at t at) where
    pub next_at : p.whole ≡ true → Next t at p
    next_at w = rw is (next_whole t at (rw is at w))

    by_line : (s : S) (n : ℕ) → p.whole ≡ true
        → left s n at ≡ follow (m.step s (slice at p.end t)) (λ s'. left s' (suc n) p.end) (wrong (suc n))
    unfolding walk
    by_line s n w = let x : Next t at p = next_at w in rw (x.lines, x.rest)

    pub line_taken : (s s' : S) (n : ℕ) → p.whole ≡ true → m.step s (slice at p.end t) ≡ next s' → left s n at ≡ left s' (n + 1) p.end
    line_taken s s' n w e = by_line s n w ∙ rw (e, add-one)

    pub line_refused : (s : S) (n : ℕ) → p.whole ≡ true → m.step s (slice at p.end t) ≡ refused → left s n at ≡ wrong (n + 1)
    line_refused s n w e = by_line s n w ∙ rw (e, add-one)

    -- a line without LF is wrong, whatever the machine
    pub line_short : (s : S) (n : ℕ) → at < length t → p.whole ≡ false → left s n at ≡ wrong (n + 1)
    unfolding walk
    line_short s n h w =
        let none : lines_of (drop at t) ≡ [] = next_none t at (rw is at w) in
        let all : rest_of (drop at t) ≡ drop at t = rw none at (text_is (drop at t)) in
        rw (none, all, drop-cons t at 0 h, add-one)

  -- ---- at the end of the text

  pub over_final : (s : S) (n at : ℕ) → length t ≤ at → m.final s ≡ true → left s n at ≡ gives (m.built s)
  unfolding walk lines_of rest_of
  over_final s n at h f = rw (drop_of_length-le t h, f)

  pub over_short : (s : S) (n at : ℕ) → length t ≤ at → m.final s ≡ false → left s n at ≡ wrong (n + 1)
  unfolding walk lines_of rest_of
  over_short s n at h f = rw (drop_of_length-le t h, f, add-one)
