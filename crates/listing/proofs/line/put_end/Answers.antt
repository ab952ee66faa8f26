-- `listing::line::put_end` meets its contract.
use native.Mathlib.Omega.{arith}
use mathlib.Core.List.{[], ◌∷◌}
use mathlib.Core.Path.{◌≡◌}
use Rattle.text.proofs.PutLaws.{put_then}
use Rattle.listing.specs.Text.{end}
use Rattle.listing.proofs.ColumnLaws.{count_more, end_is}
use Rattle.listing.proofs.line.put_end.Goals as goal

pub loop-count-preserved : goal.loop-count-preserved
loop-count-preserved c =
    let n = c.args.c in
    count_more _ _ end (n.opened ∷ n.collected ∷ n.dynamic ∷ n.refused ∷ []) c.loop-count.count-index _ _ _ _ _ _ (omega arith) (omega arith) c.loop-count.invariant c.put_one-p.ensures c.put_decimal-p.ensures

pub returns : goal.returns
returns c =
    let e : c.loop-count.count-index ≡ 4 = omega arith in
    rw (← end_is c.args.c) (put_then _ _ _ _ _ _ _ _ (omega arith) (rw e at c.loop-count.invariant) c.put_one.ensures)
