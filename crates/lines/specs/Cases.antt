-- Worked cases: lines and rests of texts, places of lines, and the verdicts of a small machine.
use Rattle.std.specs.Prelude.{[], ◌∷◌, ◌++◌, Bool, true, false, cond, ◌≡◌}
use Rattle.digits.specs.Text.{codes}
use Rattle.lines.specs.Lines.{Line, is_line, lines_of, rest_of}
use Rattle.lines.specs.Machine.{Machine, Step, refused, next, gives, wrong, verdict}
use Rattle.lines.specs.Demands.{ReadsPages}
use Rattle.lines.specs.Tokens.{same}
use Rattle.lines.specs.Places.{line_at}

-- ---- lines and their places

pub record LinesWorked : Type 0 where
  pub empty : lines_of (codes "") ≡ []
  pub no_LF : lines_of (codes "a") ≡ []
  pub no_LF_rest : rest_of (codes "a") ≡ codes "a"
  pub one : lines_of (codes "a\n") ≡ codes "a\n" ∷ []
  pub one_rest : rest_of (codes "a\n") ≡ []
  pub part : lines_of (codes "a\nb") ≡ codes "a\n" ∷ []
  pub part_rest : rest_of (codes "a\nb") ≡ codes "b"
  pub two_empty : lines_of (codes "\n\n") ≡ codes "\n" ∷ codes "\n" ∷ []
  pub first_place_case : line_at (codes "a\nbc") 0 ≡ record { start = 0; end = 2; whole = true }
  pub inside_line : line_at (codes "a\nbc") 1 ≡ record { start = 1; end = 2; whole = true }
  pub rest_place : line_at (codes "a\nbc") 2 ≡ record { start = 2; end = 4; whole = false }
  pub past_end : line_at (codes "a\nbc") 7 ≡ record { start = 7; end = 7; whole = false }

-- ---- a small machine: its pages are a line, and then the same line again

pub data Echo : Type 0 where
  silent : Echo
  once : Line → Echo
  twice : Line → Echo

abbrev pub hears : Echo → Line → Step Echo
hears silent l = next (once l)
hears (once k) l = cond (same k l) (next (twice k)) refused
hears (twice k) l = refused

abbrev pub is_twice : Echo → Bool
is_twice silent = false
is_twice (once k) = false
is_twice (twice k) = true

abbrev pub heard : Echo → Line
heard silent = []
heard (once k) = k
heard (twice k) = k

abbrev pub echo : Machine Line Echo Line
echo = record { start = silent; step = hears; final = is_twice; built = heard }

abbrev pub EchoReadsPages : Type 0
EchoReadsPages = ReadsPages is_line (λ (l : Line). l ++ l) (λ l. l) echo

pub record EchoWorked : Type 0 where
  pub page : verdict echo (codes "a\na\n") ≡ gives (codes "a\n")
  pub empty_page : verdict echo (codes "") ≡ wrong 1
  pub no_LF : verdict echo (codes "a") ≡ wrong 1
  pub second_missing : verdict echo (codes "a\n") ≡ wrong 2
  pub second_other : verdict echo (codes "a\nb\na\n") ≡ wrong 2
  pub second_no_LF : verdict echo (codes "a\na") ≡ wrong 2
  pub third : verdict echo (codes "a\na\na\n") ≡ wrong 3
  pub third_no_LF : verdict echo (codes "a\na\na") ≡ wrong 3
