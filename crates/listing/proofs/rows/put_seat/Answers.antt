-- `listing::rows::put_seat` meets its contract.
use Rattle.desk.specs.Memory.{records_of}
use Rattle.text.proofs.PutLaws.{put_none}
use Rattle.listing.proofs.RowLaws.{seat_more}
use native.Mathlib.Omega.{arith}
use Rattle.listing.proofs.rows.put_seat.Goals as goal

pub loop-i-init : goal.loop-i-init
unfolding records_of
loop-i-init c = put_none _ _ (omega arith)

pub loop-i-preserved : goal.loop-i-preserved
loop-i-preserved c = seat_more _ _ _ _ _ _ _ _ (omega arith) _ _ c.loop-i.invariant c.put_own-p.ensures
