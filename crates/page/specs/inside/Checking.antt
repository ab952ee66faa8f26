-- What the code's check of a text says, beside the machine.
use Rattle.std.specs.Prelude.{◌≡◌, ℕ, suc, ◌+◌, ◌%◌, ◌<◌, Bool, true, ◌&&◌, List, take, drop, ◌==◌, Result, Ok, Err}
use Rattle.std.proofs.Math.Seq.{slice}
use Rattle.lines.specs.Lines.{lines_of, rest_of}
use Rattle.lines.specs.Machine.{Verdict, gives, wrong, walk, verdict}
use Rattle.lines.specs.Places.{line_at}
use Rattle.lines.specs.Tokens.{same}
use Rattle.page.specs.declared.read.Checked.{Checked}
use Rattle.page.specs.declared.sofar.Sofar.{Sofar}
use Rattle.page.specs.Version.{one}
use Rattle.page.specs.Sum.{sum_of, sum_modulus}
use Rattle.page.specs.Page.{last_line}
use Rattle.page.specs.inside.Tokens.{last_size}
use Rattle.page.specs.inside.Machine.{Reached, body, Shown, machine}
use Rattle.page.specs.inside.Taking.{state_of}

abbrev pub checked_told : Result Checked ℕ → Verdict Shown
checked_told (Ok r) = gives (record { row = r.row; bits = r.desk.bits; count = r.desk.count })
checked_told (Err n) = wrong n

-- the check says what the machine says
abbrev pub CheckedAs : List ℕ → Result Checked ℕ → Type 0
CheckedAs text r = checked_told r ≡ verdict (machine one) text

-- what the machine still has to say from a place on, after n lines
abbrev pub left_from : List ℕ → Reached → ℕ → ℕ → Verdict Shown
left_from text q n at = walk (machine one) q n (lines_of (drop at text)) (rest_of (drop at text))

-- what was read up to a place: the sum is that of all bytes before it
abbrev pub read_to : List ℕ → ℕ → Sofar → Reached
read_to text at s = body (state_of s (sum_of (take at text)))

-- the line at a place is the last one after what was read so far
unfoldable pub is_last : List ℕ → ℕ → Sofar → Bool
is_last text at s = same (last_line s.count (sum_of (take at text) % sum_modulus)) (slice at (at + last_size one) text) && s.waiting == 0

-- a line of the last line's length begins here
pub record AtLast (text : List ℕ) (at n : ℕ) : Type 0 where
  pub line : line_at text at ≡ record { start = at; end = at + last_size one; whole = true }
  -- no text has so many good lines
  pub few : n < 100000

-- it is number n, after one line less
abbrev pub LastChecked : List ℕ → ℕ → ℕ → Sofar → Result Checked ℕ → Type 0
LastChecked text at n s r = (k : ℕ) → n ≡ suc k → checked_told r ≡ left_from text (read_to text at s) k at
