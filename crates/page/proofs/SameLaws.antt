-- Lines compared byte by byte; and the line of a cell, of which only three bytes are compared. Assumes nothing.
use Rattle.std.proofs.Common.{◌≡◌, ℕ, ◌≤◌, Bool, true, ◌&&◌, eqb, List, [], ◌∷◌, ◌++◌, length, get_or, take, drop, refl, ap, arith, drop_of_length-le, eq-eqb, eqb-true}
use Rattle.std.specs.Cmp.Lexicographic.{pointwise}
use lib.Seq.{split_at, get_or_at, slice, length-slice}
use Rattle.digits.proofs.Tests.{by-test, and_true, and_l, and_r}
use Rattle.text.specs.Lines.{TAB, LF}
use Rattle.lines.specs.Lines.{Line}
use Rattle.lines.specs.Tokens.{same}
use Rattle.lines.proofs.TokenLaws.{same_is, same_itself}
use Rattle.desk.proofs.Below.{never, false_or}
use Rattle.page.specs.Version.{one, seat_digit}
use Rattle.page.specs.Page.{cell_line}

-- `==` on slices says whether they are the same
pub same_by : (a b : List ℕ) → pointwise eqb a b ≡ same a b
unfolding same
same_by [] [] = refl
same_by [] (y ∷ ys) = refl
same_by (x ∷ xs) [] = refl
same_by (x ∷ xs) (y ∷ ys) = ap (λ (t : Bool). eqb x y && t) (same_by xs ys)

-- ---- the line of a cell

-- the bytes around the middle of the frame
abbrev pub around : ℕ → Line → Bool
around i l = eqb (get_or l 0 0) (seat_digit i) && eqb (get_or l 1 0) TAB && eqb (get_or l 51 0) LF

around_line : (i : ℕ) (l : Line) → length l ≡ 52 → around i l ≡ true → cell_line one i (slice 2 51 l) ≡ l
unfolding cell_line
around_line i [] n e = absurd (omega arith)
around_line i (a ∷ []) n e = absurd (omega arith)
around_line i (a ∷ b ∷ r) n e =
    let t = and_l (eqb a (seat_digit i) && eqb b TAB) (eqb (get_or r 49 0) LF) e in
    let p : a ≡ seat_digit i = eqb-true a (seat_digit i) (and_l (eqb a (seat_digit i)) (eqb b TAB) t) in
    let q : b ≡ TAB = eqb-true b TAB (and_r (eqb a (seat_digit i)) (eqb b TAB) t) in
    let f : get_or r 49 0 ≡ LF = eqb-true (get_or r 49 0) LF (and_r (eqb a (seat_digit i) && eqb b TAB) (eqb (get_or r 49 0) LF) e) in
    let h : length r ≤ 50 = omega arith in
    let none : drop 50 r ≡ [] = drop_of_length-le r h in
    let whole : r ≡ take 49 r ++ (LF ∷ []) = rw (f, none) at (split_at r 49 0 (omega arith)) in
    rw (p, q, ← whole)

line_around : (i : ℕ) (mid l : Line) → length mid ≡ 49 → cell_line one i mid ≡ l → around i l ≡ true
unfolding cell_line
line_around i mid l n e =
    rw (← e) (and_true (and_true (eq-eqb (seat_digit i) (seat_digit i) refl) refl) (eq-eqb (get_or (mid ++ (LF ∷ [])) 49 0) LF (get_or_at mid LF [] 0 49 n)))

-- the middle is compared with itself
pub middle_long : (l : Line) → length l ≡ 52 → length (slice 2 51 l) ≡ 49
middle_long l n = length-slice 2 51 l (omega arith)

pub cell_same : (i : ℕ) (l : Line) → length l ≡ 52 → same (cell_line one i (slice 2 51 l)) l ≡ around i l
cell_same i l n =
    by-test (around i l)
    (λ e. rw (e, around_line i l n e) (same_itself l))
    (λ e. rw e (false_or (same (cell_line one i (slice 2 51 l)) l) (λ h. never (around i l) (line_around i (slice 2 51 l) l (middle_long l n) (same_is (cell_line one i (slice 2 51 l)) l h)) e)))
