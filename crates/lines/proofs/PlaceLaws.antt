-- Places of lines: where the first line from a place on ends, byte by byte, and what is left after it. Assumes nothing.
use Prim.Native.Nat.{ℕ, zero, suc, ◌+◌, ◌-◌, ◌≤◌, ◌<◌, max}
use mathlib.Core.Bool.{true, false, false≢true, true≢false}
use mathlib.Core.List.{List, [], ◌∷◌, ◌++◌, append_assoc, tail-eq_of_cons-eq}
use mathlib.Core.Path.{◌≡◌, refl, sym, ap, ◌∙◌}
use native.Mathlib.Omega.{arith}
use native.Mathlib.Nat.{le_refl}
use native.Mathlib.Numerals.{add-one}
use lib.Dec.{eqb}
use borrow.Author.Tests.{eqb-true, eqb-false, eq-eqb, ne_eqb}
use lib.ListN.{length, take, drop, get_or, length-append, length-drop, drop_of_length-le}
use lib.Seq.{drop-cons, drop-drop, take_at, drop_at, take-add, length-take-le, slice}
use Rattle.digits.specs.Once.{Once}
use Rattle.digits.proofs.Tests.{by-test, by_less}
use Rattle.lines.specs.declared.Place.{Place}
use Rattle.lines.specs.Lines.{Line, LF, is_line, lead, lines_of, rest_of, joined}
use Rattle.lines.specs.Places.{first_place, line_at, NoLF, Stands, to_LF, to_end, LinesStand}
use Rattle.lines.proofs.Tests.{every_cons}
use Rattle.lines.proofs.LineLaws.{lines_after, rest_after, text_is, are_lines}

-- ---- byte by byte: a line that begins at `at` ends where the line from a later byte on ends, if no LF is between

abbrev pub begun_at : ℕ → Place → Place
begun_at at p = record { start = at; end = p.end; whole = p.whole }

abbrev whole_at : ℕ → ℕ → Place
whole_at at end = record { start = at; end = end; whole = true }

abbrev left_at : ℕ → ℕ → Place
left_at at end = record { start = at; end = end; whole = false }

first_begun : (at : ℕ) (ls : List Line) (left : ℕ) → first_place at ls left ≡ begun_at at (first_place at ls left)
first_begun at [] left = refl
first_begun at (l ∷ ls) left = refl

lead_place : (at i b : ℕ) (ls : List Line) (left : ℕ) → begun_at at (first_place i (lead b ls) (suc left)) ≡ begun_at at (first_place (suc i) ls left)
lead_place at i b [] left = ap (left_at at) (omega arith)
lead_place at i b (l ∷ ls) left = ap (whole_at at) (omega arith)

module _ (s : List ℕ) (at : ℕ) where
  pub begun_here : line_at s at ≡ begun_at at (line_at s at)
  unfolding line_at
  begun_here = first_begun at (lines_of (drop at s)) (length (drop at s))

  pub past_byte : (i : ℕ) → i < length s → (get_or s i 0 ≡ LF → ⊥) → begun_at at (line_at s i) ≡ begun_at at (line_at s (i + 1))
  unfolding line_at lines_of
  past_byte i h e =
      rw (drop-cons s i 0 h, ne_eqb (get_or s i 0) LF e, add-one i)
      (lead_place at i (get_or s i 0) (lines_of (drop (suc i) s)) (length (drop (suc i) s)))

  pub at_LF : (i : ℕ) → i < length s → get_or s i 0 ≡ LF → begun_at at (line_at s i) ≡ whole_at at (i + 1)
  unfolding line_at lines_of
  at_LF i h e = rw (drop-cons s i 0 h, eq-eqb (get_or s i 0) LF e)

  pub at_end : (i : ℕ) → length s ≤ i → begun_at at (line_at s i) ≡ left_at at i
  unfolding line_at lines_of
  at_end i h = rw (drop_of_length-le s h) (ap (left_at at) (omega arith))

-- ---- the place of a line by its bytes

module _ (s : List ℕ) (at : ℕ) where
  no_LF_more : (i : ℕ) → NoLF s at i → (get_or s i 0 ≡ LF → ⊥) → NoLF s at (i + 1)
  no_LF_more i none e k g l q = by_less k i (λ h. none k g h q) (λ h. let z : k ≡ i = omega arith in e (rw z at q))

  -- the search has come to byte i, and so many bytes are left
  stands_from : (left i : ℕ) → length s - i ≡ left → at ≤ i → i ≤ max at (length s) → NoLF s at i
      → line_at s at ≡ begun_at at (line_at s i) → Stands s at (line_at s at)
  stands_from zero i h g m none e =
      let z : i ≡ max at (length s) = omega arith in
      rw (e, at_end s at i (omega arith), z) (to_end (λ k a l. none k a (omega arith)))
  stands_from (suc left) i h g m none e =
      by-test (eqb (get_or s i 0) LF)
      (λ t. let q = eqb-true (get_or s i 0) LF t in
      rw (e, at_LF s at i (omega arith) q) (to_LF i g (omega arith) none q))
      (λ t. let q = eqb-false (get_or s i 0) LF t in
      stands_from left (i + 1) (omega arith) (omega arith) (omega arith) (no_LF_more i none q) (e ∙ past_byte s at i (omega arith) q))

  stands : Stands s at (line_at s at)
  stands = stands_from (length s - at) at refl (le_refl at) (omega arith) (λ k g l. let z : ⊥ = omega arith in absurd z) (begun_here s at)

  one_place : Once (Stands s at)
  one_place _ _ (to_LF i g h none q) (to_LF j k l no_LF o) =
      by_less i j (λ x. absurd (no_LF i g x q)) (λ x. by_less j i (λ y. absurd (none j k y o)) (λ y. ap (whole_at at) (omega arith)))
  one_place _ _ (to_LF i g h none q) (to_end no_LF) = absurd (no_LF i g h q)
  one_place _ _ (to_end none) (to_LF j k l no_LF o) = absurd (none j k l o)
  one_place _ _ (to_end none) (to_end no_LF) = refl

pub lines_stand : LinesStand
lines_stand = record { stands = stands; one_place = one_place }

-- ---- from one line to the next

-- what follows the first line of a text
record Split (t : List ℕ) (l : Line) (ls : List Line) : Type 0 where
  tail : List ℕ
  is : l ++ tail ≡ t
  lines : lines_of tail ≡ ls
  rest : rest_of tail ≡ rest_of t
  some : 1 ≤ length l

line_some : (l : Line) → is_line l ≡ true → 1 ≤ length l
unfolding is_line
line_some [] h = absurd (false≢true h)
line_some (b ∷ l) h = omega arith

split : (t : List ℕ) (l : Line) (ls : List Line) → lines_of t ≡ l ∷ ls → Split t l ls
split t l ls h =
    let u = joined ls ++ rest_of t in
    let is : l ++ u ≡ t = sym (append_assoc l (joined ls) (rest_of t)) ∙ rw h at (text_is t) in
    let line : is_line l ≡ true = (every_cons is_line l ls (rw h at (are_lines t))).0 in
    record {
      tail = u;
      is = is;
      lines = tail-eq_of_cons-eq (sym (lines_after l u line) ∙ ap lines_of is ∙ h);
      rest = sym (rest_after l u line) ∙ ap rest_of is;
      some = line_some l line;
    }

-- p is the place of a whole line, so the lines from `at` on are its bytes and then the lines from its end on
pub record Next (s : List ℕ) (at : ℕ) (p : Place) : Type 0 where
  pub forward : at < p.end
  pub inside : p.end ≤ length s
  pub lines : lines_of (drop at s) ≡ slice at p.end s ∷ lines_of (drop p.end s)
  pub rest : rest_of (drop at s) ≡ rest_of (drop p.end s)

part_is : (s : List ℕ) (at n : ℕ) → at ≤ length s → slice at (at + n) s ≡ take n (drop at s)
part_is s at n h = rw (take-add at n s) (drop_at (take at s) (take n (drop at s)) at (length-take-le at s h))

next_first : (s : List ℕ) (at : ℕ) (ls : List Line) (left : ℕ) → lines_of (drop at s) ≡ ls → (first_place at ls left).whole ≡ true
    → Next s at (first_place at ls left)
next_first s at [] left h w = absurd (false≢true w)
next_first s at (l ∷ ls) left h w =
    let x : Split (drop at s) l ls = split (drop at s) l ls h in
    let n = length l in
    let fits : at + n ≤ length s = omega (arith, x.some, length-drop at s, length-append l x.tail, ap length x.is) in
    let bytes : slice at (at + n) s ≡ l = part_is s at n (omega arith) ∙ ap (take n) (sym x.is) ∙ take_at l x.tail n refl in
    let on : drop (at + n) s ≡ x.tail = sym (drop-drop n at s) ∙ ap (drop n) (sym x.is) ∙ drop_at l x.tail n refl in
    record {
      forward = omega (arith, x.some);
      inside = fits;
      lines = rw (h, bytes, on, x.lines);
      rest = rw on (sym x.rest);
    }

pub next_whole : (s : List ℕ) (at : ℕ) → (line_at s at).whole ≡ true → Next s at (line_at s at)
unfolding line_at
next_whole s at w = next_first s at (lines_of (drop at s)) (length (drop at s)) refl w

none_first : (at : ℕ) (ls : List Line) (left : ℕ) → (first_place at ls left).whole ≡ false → ls ≡ []
none_first at [] left w = refl
none_first at (l ∷ ls) left w = absurd (true≢false w)

pub next_none : (s : List ℕ) (at : ℕ) → (line_at s at).whole ≡ false → lines_of (drop at s) ≡ []
unfolding line_at
next_none s at w = none_first at (lines_of (drop at s)) (length (drop at s)) w
