-- `desk::columns::Columns::all_apart` meets its contract.
use mathlib.Core.Path.{refl, sym}
use borrow.Author.Rules.{rules}
use Rattle.desk.specs.Below.{all_below}
use Rattle.desk.specs.Limits.{seat_count}
use Rattle.desk.proofs.Below.{all_more, all_fails, all_to, not_came, not_left}
use Rattle.desk.proofs.columns.Columns.all_apart.Goals as goal

pub loop-key-init : goal.loop-key-init
unfolding all_below
loop-key-init c = refl

pub returns-then-not-is_alone : goal.returns-then-not-is_alone
returns-then-not-is_alone c = sym (all_fails seat_count c.loop-key.key-index _ (search rules) (not_came c.is_alone.ensures c.if-not-is_alone.true))

pub loop-key-preserved : goal.loop-key-preserved
loop-key-preserved c = all_more _ _ c.loop-key.invariant (not_left c.is_alone.ensures c.if-not-is_alone.false)

pub returns : goal.returns
returns c = sym (all_to c.loop-key.key-index seat_count _ (search rules) c.loop-key.invariant)
