-- `desk::reply::reply` meets its contract.
use Rattle.desk.proofs.reply.reply.Goals as goal

pub returns : goal.returns
returns c = rw c.on.ensures c.reply_step.ensures.1
