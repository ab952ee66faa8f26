-- `listing::rows::put_seats` meets its contract.
use Rattle.text.proofs.PutLaws.{put_none}
use Rattle.listing.specs.inside.Rows.{seats_of}
use Rattle.listing.proofs.RowLaws.{seats_more}
use native.Mathlib.Omega.{arith}
use Rattle.listing.proofs.rows.put_seats.Goals as goal

pub loop-s-init : goal.loop-s-init
unfolding seats_of
loop-s-init c = put_none _ _ (omega arith)

pub loop-s-preserved : goal.loop-s-preserved
loop-s-preserved c = seats_more _ _ _ _ _ _ _ _ (omega arith) _ _ c.loop-s.invariant c.put_seat-p.ensures
