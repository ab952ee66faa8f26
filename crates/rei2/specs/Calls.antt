-- The answers of the other calls, in numbers.
use Rattle.std.specs.Prelude.{ℕ, List, ◌≡◌, ℤ, pos, Option, Some, None}
use Rattle.digits.specs.Told.{Told}
use Rattle.finder.specs.declared.Found.{Found}
use Rattle.finder.specs.declared.Found.TheVariants.{Whole, Cut}
use Rattle.listing.specs.Listing.{listed, out_after, cells_after, marks_after}
use Rattle.rei2.specs.declared.found.FrameAnswer.{FrameAnswer}
use Rattle.rei2.specs.declared.held.CellAnswer.{CellAnswer}
use Rattle.rei2.specs.declared.running.RunningAnswer.{RunningAnswer}
use Rattle.rei2.specs.declared.listed.ListedAnswer.{ListedAnswer}
use Rattle.rei2.specs.Numbers.{number_in, value_in}

-- what is found in a capture of `size` bytes: a cut frame ends where the next call starts; if nothing is left, `next` is the capture's end
abbrev pub frame_answer : Option Found → ℕ → FrameAnswer
frame_answer (Some (Whole start end next)) size = record { kind = 1; start = start; end = end; next = next.at }
frame_answer (Some (Cut start next)) size = record { kind = 2; start = start; end = next.at; next = next.at }
frame_answer None size = record { kind = 0; start = 0; end = 0; next = size }

abbrev pub cell_answer : Option ℕ → CellAnswer
cell_answer (Some i) = record { found = 1; cell = i }
cell_answer None = record { found = 0; cell = 0 }

abbrev pub running_answer : Told ℤ → RunningAnswer
running_answer t = record { refusal = number_in t; ticks = value_in (pos 0) t }

abbrev pub list_answer : Told ℕ → ListedAnswer
list_answer t = record { refusal = number_in t; size = value_in 0 t }

-- what is promised of listing s to an output: the answer, and all bytes and marks that are lent
pub record ListLent (lent-cells lent-marks s out : List ℕ) (answer : ListedAnswer) (cells' marks' out' : List ℕ) : Type 0 where
  pub told : answer ≡ list_answer (listed lent-cells lent-marks s out)
  pub bytes : out' ≡ out_after lent-cells lent-marks s out
  pub cells : cells' ≡ cells_after lent-cells lent-marks s out
  pub marks : marks' ≡ marks_after lent-cells lent-marks s out
