-- `desk::tally::take_one` meets its contract.
use native.Mathlib.Omega.{arith}
use Rattle.frames.proofs.LetterLaws.{letter_below, status_below}
use mathlib.Core.Bool.{false≢true}
use mathlib.Core.List.{[]}
use lib.ListN.{get_or}
use mathlib.Core.Path.{sym}
use borrow.Author.Tests.{lt-ltb, le-ltb}
use borrow.Author.Rules.{rules}
use Rattle.desk.proofs.tally.take_one.Goals as goal

pub offset_bounds-left-i : goal.offset_bounds-left-i
offset_bounds-left-i c = omega (arith, letter_below _ c.requires.0, c.letter_index-i.ensures)

pub offset_bounds-left-j : goal.offset_bounds-left-j
offset_bounds-left-j c = omega (arith, status_below _ c.requires.1, c.status_index-j.ensures)

pub bounds-left-i : goal.bounds-left-i
bounds-left-i c = omega (arith, letter_below _ c.requires.0, c.letter_index-i.ensures)

pub bounds-left-j : goal.bounds-left-j
bounds-left-j c = omega (arith, status_below _ c.requires.1, c.status_index-j.ensures)

pub returns-then-n-eq0 : goal.returns-then-n-eq0
returns-then-n-eq0 c = (rw (← c.letter_index-i.ensures, ← c.status_index-j.ensures) (sym (le-ltb 0 (get_or (get_or c.args.left.now c.letter_index-i.result []) c.status_index-j.result 0) (search rules))), λ e. absurd (false≢true e))

pub offset_bounds-left-i-2 : goal.offset_bounds-left-i-2
offset_bounds-left-i-2 c = omega (arith, letter_below _ c.requires.0, c.letter_index-i.ensures)

pub offset_bounds-left-j-2 : goal.offset_bounds-left-j-2
offset_bounds-left-j-2 c = omega (arith, status_below _ c.requires.1, c.status_index-j.ensures)

pub bounds-left-i-else-n-eq0 : goal.bounds-left-i-else-n-eq0
bounds-left-i-else-n-eq0 c = omega (arith, letter_below _ c.requires.0, c.letter_index-i.ensures)

pub bounds-left-j-else-n-eq0 : goal.bounds-left-j-else-n-eq0
bounds-left-j-else-n-eq0 c = omega (arith, status_below _ c.requires.1, c.status_index-j.ensures)

pub returns : goal.returns
returns c = (rw (← c.letter_index-i.ensures, ← c.status_index-j.ensures) (sym (lt-ltb 0 (get_or (get_or c.args.left.now c.letter_index-i.result []) c.status_index-j.result 0) (search rules))), λ e. rw (c.letter_index-i.ensures, c.status_index-j.ensures))
