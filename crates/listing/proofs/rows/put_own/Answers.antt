-- `listing::rows::put_own` meets its contract.
use borrow.Author.Tests.{eq-eqb, ne_eqb}
use native.Mathlib.Omega.{arith}
use Rattle.text.proofs.PutLaws.{put_none}
use Rattle.listing.proofs.rows.put_own.Goals as goal

pub returns-then-mark-seat : goal.returns-then-mark-seat
returns-then-mark-seat c = rw (eq-eqb _ _ c.if-mark-seat.true) c.put_row.ensures

pub returns-else-mark-seat : goal.returns-else-mark-seat
returns-else-mark-seat c = rw (ne_eqb _ _ c.if-mark-seat.false) (put_none c.args.out.now c.args.at (omega arith))
