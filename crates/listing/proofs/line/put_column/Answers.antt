-- `listing::line::put_column` meets its contract.
use native.Mathlib.Omega.{arith}
use Rattle.text.proofs.PutLaws.{put_then}
use Rattle.finder.proofs.Step.{part_is}
use Rattle.listing.proofs.line.put_column.Goals as goal

pub returns : goal.returns
returns c =
    let a = c.args in
    rw (part_is a.frame.now a.from a.to c.requires.0) (put_then a.out.now a.at _ _ _ _ _ _ (omega arith) c.put_one-p.ensures c.put_text.ensures)
