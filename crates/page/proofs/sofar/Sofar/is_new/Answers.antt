-- `page::sofar::Sofar::is_new` meets its contract.
use Rattle.std.proofs.Common.{rules}
use Rattle.page.proofs.TakeLaws.{key_new}
use Rattle.page.proofs.sofar.Sofar.is_new.Goals as goal

pub returns : goal.returns
returns c = key_new _ _ _ _ c.loop-i.invariant (search rules)
