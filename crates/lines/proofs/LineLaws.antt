-- Laws of the lines of a text. Assumes nothing.
use Prim.Native.Nat.{ℕ}
use mathlib.Core.Bool.{true, false, false≢true}
use mathlib.Core.List.{List, [], ◌∷◌, ◌++◌, append_assoc, append-nil}
use mathlib.Core.Path.{◌≡◌, refl, sym, ◌∙◌}
use lib.Dec.{eqb}
use lib.ListN.{length, take}
use Rattle.text.specs.Lines.{lines}
use Rattle.digits.proofs.Tests.{by-test}
use Rattle.lines.specs.Lines.{Line, LF, every, is_line, lead, trail, lines_of, rest_of, joined, Parted}
use Rattle.lines.proofs.Tests.{empty_is, every_cons, every_take}

-- ---- a line in front of a text is its first line, and the rest stays

pub lines_after : (l : Line) (t : List ℕ) → is_line l ≡ true → lines_of (l ++ t) ≡ l ∷ lines_of t
unfolding is_line lines_of
lines_after [] t h = absurd (false≢true h)
lines_after (b ∷ l) t h =
    by-test (eqb b LF)
    (λ e. rw (e, empty_is l (rw e at h)))
    (λ e. rw (e, lines_after l t (rw e at h)))

pub rest_after : (l : Line) (t : List ℕ) → is_line l ≡ true → rest_of (l ++ t) ≡ rest_of t
unfolding is_line rest_of
rest_after [] t h = absurd (false≢true h)
rest_after (b ∷ l) t h =
    by-test (eqb b LF)
    (λ e. rw (e, empty_is l (rw e at h)))
    (λ e. let k : is_line l ≡ true = rw e at h in rw (e, lines_after l t k, rest_after l t k))

-- ---- texts joined from lines

pub lines_front : (ls : List Line) (t : List ℕ) → every is_line ls ≡ true → lines_of (joined ls ++ t) ≡ ls ++ lines_of t
lines_front [] t h = refl
lines_front (l ∷ ls) t h =
    let c = every_cons is_line l ls h in
    rw (append_assoc, lines_after l (joined ls ++ t) c.0, lines_front ls t c.1)

pub rest_front : (ls : List Line) (t : List ℕ) → every is_line ls ≡ true → rest_of (joined ls ++ t) ≡ rest_of t
rest_front [] t h = refl
rest_front (l ∷ ls) t h =
    let c = every_cons is_line l ls h in
    rw (append_assoc, rest_after l (joined ls ++ t) c.0, rest_front ls t c.1)

pub lines_joined : (ls : List Line) → every is_line ls ≡ true → lines_of (joined ls) ≡ ls
unfolding lines_of
lines_joined ls h = simp append-nil at (lines_front ls [] h)

pub rest_joined : (ls : List Line) → every is_line ls ≡ true → rest_of (joined ls) ≡ []
unfolding rest_of
rest_joined ls h = simp append-nil at (rest_front ls [] h)

pub joined_append : (ls ks : List Line) → joined (ls ++ ks) ≡ joined ls ++ joined ks
joined_append [] ks = refl
joined_append (l ∷ ls) ks = rw (append_assoc, joined_append ls ks)

-- ---- a text is its lines and its rest

module _ (b : ℕ) where
  lead_whole : (ls : List Line) (rest : List ℕ) → joined (lead b ls) ++ trail b ls rest ≡ b ∷ (joined ls ++ rest)
  lead_whole [] rest = refl
  lead_whole (l ∷ ls) rest = refl

  lead_count : (ls : List Line) → length (lead b ls) ≡ length ls
  lead_count [] = refl
  lead_count (l ∷ ls) = refl

  lead_lines : (ls : List Line) → eqb b LF ≡ false → every is_line ls ≡ true → every is_line (lead b ls) ≡ true
  unfolding is_line
  lead_lines [] e h = refl
  lead_lines (l ∷ ls) e h = rw e h

pub text_is : (t : List ℕ) → joined (lines_of t) ++ rest_of t ≡ t
unfolding lines_of rest_of
text_is [] = refl
text_is (b ∷ t) =
    by-test (eqb b LF)
    (λ e. rw (e, text_is t))
    (λ e. rw (e, lead_whole b (lines_of t) (rest_of t), text_is t))

pub are_lines : (t : List ℕ) → every is_line (lines_of t) ≡ true
unfolding is_line lines_of
are_lines [] = refl
are_lines (b ∷ t) =
    by-test (eqb b LF)
    (λ e. rw (e, e) (are_lines t))
    (λ e. rw e (lead_lines b (lines_of t) e (are_lines t)))

counted : (t : List ℕ) → length (lines_of t) ≡ lines t
unfolding lines_of
counted [] = refl
counted (b ∷ t) =
    by-test (eqb b LF)
    (λ e. rw (e, counted t))
    (λ e. rw (e, lead_count b (lines_of t), counted t))

pub parted : Parted
parted = record { whole = text_is; are_lines = are_lines; counted = counted; only_these = lines_joined }

pub first_lines : (n : ℕ) (t : List ℕ) → every is_line (take n (lines_of t)) ≡ true
first_lines n t = every_take is_line n (lines_of t) (are_lines t)

-- a text without a rest
pub all_lines : (t : List ℕ) → rest_of t ≡ [] → joined (lines_of t) ≡ t
all_lines t e = sym (append-nil (joined (lines_of t))) ∙ rw e at (text_is t)
