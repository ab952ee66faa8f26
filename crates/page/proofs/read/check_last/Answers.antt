-- `page::read::check_last` meets its contract.
use Rattle.std.proofs.Common.{arith, rules}
use Rattle.desk.proofs.Below.{not_came, not_left}
use Rattle.page.proofs.ReadLaws.{last_inside, last_wrong, last_more, last_good}
use Rattle.page.proofs.read.check_last.Goals as goal

pub is_last-requires : goal.is_last-requires
is_last-requires c = last_inside _ _ _ c.args.s.now c.requires

pub returns-then-not-is_last : goal.returns-then-not-is_last
returns-then-not-is_last c = λ k e. last_wrong _ _ _ _ c.requires k e (not_came c.is_last.ensures c.if-not-is_last.true)

pub overflow_add-at : goal.overflow_add-at
overflow_add-at c = let h = last_inside _ _ _ c.args.s.now c.requires in search rules

pub returns-then-at-text : goal.returns-then-at-text
returns-then-at-text c = λ k e. last_more _ _ _ _ c.requires k e (not_left c.is_last.ensures c.if-not-is_last.false) (omega arith)

pub returns : goal.returns
returns c = λ k e. last_good _ _ _ _ c.requires k e (not_left c.is_last.ensures c.if-not-is_last.false) (omega arith)
