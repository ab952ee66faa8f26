-- `desk::reply::grown_seat` meets its contract.
use borrow.Author.Rules.{rules}
use Rattle.desk.proofs.reply.grown_seat.Goals as goal

pub advanced-p-requires : goal.advanced-p-requires
advanced-p-requires c = rw c.progress_of.ensures (search rules)

pub returns : goal.returns
returns c = rw (c.advanced-p.ensures, c.progress_of.ensures)
