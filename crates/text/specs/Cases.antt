-- Worked cases: numbers in decimal, places, the bytes after a column and a line, and the lines of a text.
use Rattle.std.specs.Prelude.{[], ◌∷◌, ◌≡◌}
use Rattle.digits.specs.Text.{codes}
use Rattle.text.specs.Put.{place_after}
use Rattle.text.specs.Decimal.{decimal}
use Rattle.text.specs.Lines.{TAB, LF, lines}

pub record TextWorked : Type 0 where
  pub zero : decimal 0 ≡ codes "0"
  pub nine : decimal 9 ≡ codes "9"
  pub ten : decimal 10 ≡ codes "10"
  pub ninety_nine : decimal 99 ≡ codes "99"
  pub hundred : decimal 100 ≡ codes "100"
  pub largest : decimal 18446744073709551615 ≡ codes "18446744073709551615"
  pub next_place : place_after 7 5 ≡ 12
  pub last_place : place_after 18446744073709551610 5 ≡ 18446744073709551615
  pub past_places : place_after 18446744073709551610 6 ≡ 18446744073709551615
  pub ends : TAB ∷ LF ∷ [] ≡ codes "\t\n"
  pub two_lines : lines (codes "a\tb\n\nc") ≡ 2
