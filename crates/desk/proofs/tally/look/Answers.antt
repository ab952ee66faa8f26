-- `desk::tally::look` meets its contract.
use mathlib.Core.Path.{sym, ◌∙◌}
use native.Mathlib.Omega.{arith}
use Rattle.desk.proofs.TallyLaws.{looked, not_looked, row_below, column_below}
use Rattle.desk.proofs.tally.look.Goals as goal

pub offset_bounds-tally-i : goal.offset_bounds-tally-i
offset_bounds-tally-i c = let h = row_below c.args.tally.now c.args.letter c.args.status c.in-Some.i c.in-Some.j (sym c.entry.ensures ∙ c.in-Some.is) in omega (arith, h)

pub offset_bounds-tally-j : goal.offset_bounds-tally-j
offset_bounds-tally-j c = let h = column_below c.args.tally.now c.args.letter c.args.status c.in-Some.i c.in-Some.j (sym c.entry.ensures ∙ c.in-Some.is) in omega (arith, h)

pub bounds-tally-i : goal.bounds-tally-i
bounds-tally-i c = let h = row_below c.args.tally.now c.args.letter c.args.status c.in-Some.i c.in-Some.j (sym c.entry.ensures ∙ c.in-Some.is) in omega (arith, h)

pub bounds-tally-j : goal.bounds-tally-j
bounds-tally-j c = let h = column_below c.args.tally.now c.args.letter c.args.status c.in-Some.i c.in-Some.j (sym c.entry.ensures ∙ c.in-Some.is) in omega (arith, h)

pub returns-in-Some : goal.returns-in-Some
returns-in-Some c = looked c.args.tally.now c.args.letter c.args.status c.in-Some.i c.in-Some.j (sym c.entry.ensures ∙ c.in-Some.is)

pub returns-in-None : goal.returns-in-None
returns-in-None c = not_looked c.args.tally.now c.args.letter c.args.status (sym c.entry.ensures ∙ c.in-None.is)
