-- `desk::tally::is_clear` meets its contract.
use mathlib.Core.Path.{refl}
use Rattle.desk.specs.Below.{all_below}
use Rattle.desk.specs.inside.Counted.{is_clear}
use Rattle.desk.proofs.Below.{all_end}
use Rattle.desk.proofs.TallyLaws.{row_or}
use borrow.Author.Rules.{rules}
use Rattle.desk.proofs.tally.is_clear.Goals as goal

pub loop-row-init : goal.loop-row-init
unfolding all_below
loop-row-init c = refl

pub loop-row-preserved : goal.loop-row-preserved
loop-row-preserved c = row_or c.args.tally.now c.loop-row.row-index c.loop-row.any c.loop-row.invariant

pub returns : goal.returns
unfolding is_clear
returns c = all_end c.loop-row.row-index 33 _ (search rules) c.loop-row.invariant
