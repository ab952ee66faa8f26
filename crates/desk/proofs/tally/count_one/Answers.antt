-- `desk::tally::count_one` meets its contract.
use native.Mathlib.Omega.{arith}
use Rattle.frames.proofs.LetterLaws.{letter_below, status_below}
use Rattle.desk.proofs.tally.count_one.Goals as goal

pub offset_bounds-tally-i : goal.offset_bounds-tally-i
offset_bounds-tally-i c = omega (arith, letter_below _ c.requires.0, c.letter_index-i.ensures)

pub offset_bounds-tally-j : goal.offset_bounds-tally-j
offset_bounds-tally-j c = omega (arith, status_below _ c.requires.1.0, c.status_index-j.ensures)

pub bounds-tally-i : goal.bounds-tally-i
bounds-tally-i c = omega (arith, letter_below _ c.requires.0, c.letter_index-i.ensures)

pub bounds-tally-j : goal.bounds-tally-j
bounds-tally-j c = omega (arith, status_below _ c.requires.1.0, c.status_index-j.ensures)

pub overflow_add-tally : goal.overflow_add-tally
overflow_add-tally c = let h = c.requires.1.1 in rw (c.letter_index-i.ensures, c.status_index-j.ensures) (omega (arith, h))

pub offset_bounds-tally-i-2 : goal.offset_bounds-tally-i-2
offset_bounds-tally-i-2 c = omega (arith, letter_below _ c.requires.0, c.letter_index-i.ensures)

pub offset_bounds-tally-j-2 : goal.offset_bounds-tally-j-2
offset_bounds-tally-j-2 c = omega (arith, status_below _ c.requires.1.0, c.status_index-j.ensures)

pub bounds-tally-i-2 : goal.bounds-tally-i-2
bounds-tally-i-2 c = omega (arith, letter_below _ c.requires.0, c.letter_index-i.ensures)

pub bounds-tally-j-2 : goal.bounds-tally-j-2
bounds-tally-j-2 c = omega (arith, status_below _ c.requires.1.0, c.status_index-j.ensures)

pub returns : goal.returns
returns c = rw (c.letter_index-i.ensures, c.status_index-j.ensures)
