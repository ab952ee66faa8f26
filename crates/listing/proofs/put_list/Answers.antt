-- `listing::put_list` meets its contract.
use native.Mathlib.Omega.{arith}
use Rattle.text.proofs.PutLaws.{put_then}
use Rattle.listing.proofs.put_list.Goals as goal

pub returns : goal.returns
returns c = put_then _ _ _ _ _ _ _ _ (omega arith) (put_then _ _ _ _ _ _ _ _ (omega arith) c.put_text-p.ensures c.put_seats-q.ensures) c.put_end.ensures
