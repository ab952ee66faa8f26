-- The worked cases hold, and the small machine reads its pages. Assumes nothing.
use Prim.Native.Nat.{ℕ}
use mathlib.Core.Bool.{true, false≢true}
use mathlib.Core.List.{List, [], ◌∷◌, ◌++◌, append-nil}
use mathlib.Core.Path.{◌≡◌, refl, sym, ap, ◌∙◌}
use Rattle.digits.proofs.Tests.{by-test, and_true}
use Rattle.lines.specs.Lines.{Line, LF, every, is_line, lines_of, rest_of, joined}
use Rattle.lines.specs.Machine.{refused, next, after, walk, verdict}
use Rattle.lines.specs.Reads.{Extends, Closes, Takes}
use Rattle.lines.specs.Tokens.{same}
use Rattle.lines.specs.Places.{line_at}
use Rattle.lines.specs.Cases.{LinesWorked, Echo, silent, once, twice, hears, is_twice, heard, echo, EchoReadsPages, EchoWorked}
use Rattle.lines.proofs.Tests.{every_cons, not_both}
use Rattle.lines.proofs.LineLaws.{lines_joined, rest_joined}
use Rattle.lines.proofs.ReadLaws.{reads_pages}
use Rattle.lines.proofs.TokenLaws.{along, same_is, same_itself}

pub lines_worked : LinesWorked
unfolding lines_of rest_of line_at
lines_worked = record {
  empty = refl;
  no_LF = refl;
  no_LF_rest = refl;
  one = refl;
  one_rest = refl;
  part = refl;
  part_rest = refl;
  two_empty = refl;
  first_place_case = refl;
  inside_line = refl;
  rest_place = refl;
  past_end = refl;
}

pub echo_worked : EchoWorked
unfolding verdict walk lines_of rest_of same
echo_worked = record {
  page = refl;
  empty_page = refl;
  no_LF = refl;
  second_missing = refl;
  second_other = refl;
  second_no_LF = refl;
  third = refl;
  third_no_LF = refl;
}

-- ---- the small machine reads its pages

abbrev page : Line → List ℕ
page l = l ++ l

-- the lines that lead to a state
abbrev lines_to : Echo → List Line
lines_to silent = []
lines_to (once k) = k ∷ []
lines_to (twice k) = k ∷ k ∷ []

two_lines : (l : Line) → joined (l ∷ l ∷ []) ≡ page l
two_lines l = ap (l ++◌) (append-nil l)

are_two : (l : Line) → is_line l ≡ true → every is_line (l ∷ l ∷ []) ≡ true
are_two l g = and_true g (and_true g refl)

takes : (l : Line) → is_line l ≡ true → Takes is_line page (λ l. l) echo l
unfolding after
takes l g = record {
  ends = rw (← two_lines l) (rest_joined (l ∷ l ∷ []) (are_two l g));
  state = twice l;
  reaches = rw (← two_lines l, lines_joined (l ∷ l ∷ []) (are_two l g), same_itself l);
  is_final = refl;
  is_built = refl;
}

kept : (ls : List Line) (l : Line) (s s' : Echo) → is_line l ≡ true → ls ≡ lines_to s → hears s l ≡ next s' → ls ++ l ∷ [] ≡ lines_to s'
kept ls l silent s' f h e = let q : once l ≡ s' = cc in rw (h, ← q)
kept ls l (once k) s' f h e =
    by-test (same k l)
    (λ t. let q : next (twice k) ≡ next s' = rw t at e in let o : twice k ≡ s' = cc in rw (h, ← o, same_is k l t))
    (λ t. absurd (not_both (hears (once k) l) s' e (rw t)))
kept ls l (twice k) s' f h e = absurd (not_both refused s' e refl)

led : (ls : List Line) (s : Echo) → every is_line ls ≡ true → after echo silent ls ≡ next s → ls ≡ lines_to s
led = along echo is_line (λ ls s. ls ≡ lines_to s) kept refl

extends : (s : Echo) → every is_line (lines_to s) ≡ true → Extends is_line page (lines_to s)
unfolding is_line
extends silent f = record { made = LF ∷ []; is_good_holds = refl; rest = LF ∷ LF ∷ []; goes = refl }
extends (once k) f = record { made = k; is_good_holds = (every_cons is_line k [] f).0; rest = k; goes = rw append-nil }
extends (twice k) f =
    record { made = k; is_good_holds = (every_cons is_line k (k ∷ []) f).0; rest = []; goes = sym (two_lines k) ∙ sym (append-nil _) }

closes : (s : Echo) → every is_line (lines_to s) ≡ true → is_twice s ≡ true → Closes is_line page (λ l. l) (lines_to s) (heard s)
closes silent f e = absurd (false≢true e)
closes (once k) f e = absurd (false≢true e)
closes (twice k) f e =
    record { made = k; is_good_holds = (every_cons is_line k (k ∷ []) f).0; is_page = sym (two_lines k); is_shown = refl }

pub echo_reads_pages : EchoReadsPages
echo_reads_pages =
    reads_pages is_line page (λ l. l) echo
    (record {
      takes = takes;
      extends = λ ls s f a. let h = led ls s f a in rw h (extends s (rw h at f));
      closes = λ ls s f a e. let h = led ls s f a in rw h (closes s (rw h at f) e);
    })
