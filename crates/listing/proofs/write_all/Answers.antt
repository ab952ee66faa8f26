-- `listing::write_all` meets its contract.
use native.Mathlib.Omega.{arith}
use Rattle.listing.proofs.ListLaws.{wrote_none, wrote_all}
use Rattle.listing.proofs.write_all.Goals as goal

pub returns-then-out-text : goal.returns-then-out-text
returns-then-out-text c = wrote_none c.args.text.now c.args.out.now c.if-out-text.true

pub returns : goal.returns
returns c = wrote_all c.args.text.now c.args.out.now _ _ (omega arith) c.if-out-text.false c.put_text.ensures
