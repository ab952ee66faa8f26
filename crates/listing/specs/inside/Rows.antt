-- The text of a list, made from lent cells and marks.
use Rattle.std.specs.Prelude.{ℕ, zero, suc, List, [], ◌++◌}
use Rattle.desk.specs.Limits.{seat_count}
use Rattle.desk.specs.Memory.{records_of}
use Rattle.listing.specs.declared.Taken.{Taken}
use Rattle.listing.specs.Text.{heading, rows_text, end_text}

-- the rows of the seats below n
unfoldable pub seats_of : List ℕ → List ℕ → ℕ → ℕ → List ℕ
seats_of cells marks count zero = []
seats_of cells marks count (suc n) = seats_of cells marks count n ++ rows_text n (records_of cells marks n count)

abbrev pub list_lines : List ℕ → List ℕ → Taken → List ℕ
list_lines cells marks t = heading ++ seats_of cells marks t.count seat_count ++ end_text t.counts
