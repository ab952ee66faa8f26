-- `desk::tally::count` meets its contract.
use mathlib.Core.Path.{sym, ◌∙◌}
use native.Mathlib.Omega.{arith}
use Rattle.desk.proofs.TallyLaws.{counts, counts_no_more, counts_nothing, row_below, column_below}
use Rattle.desk.proofs.tally.count.Goals as goal

pub offset_bounds-tally-row : goal.offset_bounds-tally-row
offset_bounds-tally-row c = let h = row_below c.args.tally.now c.args.letter c.args.status c.in-Some.row c.in-Some.column (sym c.entry.ensures ∙ c.in-Some.is) in omega (arith, h)

pub offset_bounds-tally-column : goal.offset_bounds-tally-column
offset_bounds-tally-column c = let h = column_below c.args.tally.now c.args.letter c.args.status c.in-Some.row c.in-Some.column (sym c.entry.ensures ∙ c.in-Some.is) in omega (arith, h)

pub bounds-tally-row : goal.bounds-tally-row
bounds-tally-row c = let h = row_below c.args.tally.now c.args.letter c.args.status c.in-Some.row c.in-Some.column (sym c.entry.ensures ∙ c.in-Some.is) in omega (arith, h)

pub bounds-tally-column : goal.bounds-tally-column
bounds-tally-column c = let h = column_below c.args.tally.now c.args.letter c.args.status c.in-Some.row c.in-Some.column (sym c.entry.ensures ∙ c.in-Some.is) in omega (arith, h)

pub offset_bounds-tally-row-then-n-lt4294967295 : goal.offset_bounds-tally-row-then-n-lt4294967295
offset_bounds-tally-row-then-n-lt4294967295 c = let h = row_below c.args.tally.now c.args.letter c.args.status c.in-Some.row c.in-Some.column (sym c.entry.ensures ∙ c.in-Some.is) in omega (arith, h)

pub offset_bounds-tally-column-then-n-lt4294967295 : goal.offset_bounds-tally-column-then-n-lt4294967295
offset_bounds-tally-column-then-n-lt4294967295 c = let h = column_below c.args.tally.now c.args.letter c.args.status c.in-Some.row c.in-Some.column (sym c.entry.ensures ∙ c.in-Some.is) in omega (arith, h)

pub bounds-tally-row-then-n-lt4294967295 : goal.bounds-tally-row-then-n-lt4294967295
bounds-tally-row-then-n-lt4294967295 c = let h = row_below c.args.tally.now c.args.letter c.args.status c.in-Some.row c.in-Some.column (sym c.entry.ensures ∙ c.in-Some.is) in omega (arith, h)

pub bounds-tally-column-then-n-lt4294967295 : goal.bounds-tally-column-then-n-lt4294967295
bounds-tally-column-then-n-lt4294967295 c = let h = column_below c.args.tally.now c.args.letter c.args.status c.in-Some.row c.in-Some.column (sym c.entry.ensures ∙ c.in-Some.is) in omega (arith, h)

pub returns-then-n-lt4294967295 : goal.returns-then-n-lt4294967295
returns-then-n-lt4294967295 c = counts c.args.tally.now c.args.letter c.args.status _ _ (sym c.entry.ensures ∙ c.in-Some.is) (omega arith)

pub returns-else-n-lt4294967295 : goal.returns-else-n-lt4294967295
returns-else-n-lt4294967295 c = counts_no_more c.args.tally.now c.args.letter c.args.status _ _ (sym c.entry.ensures ∙ c.in-Some.is) (omega arith)

pub returns-in_default : goal.returns-in_default
returns-in_default c = counts_nothing c.args.tally.now c.args.letter c.args.status (sym c.entry.ensures ∙ c.in_default.is)
