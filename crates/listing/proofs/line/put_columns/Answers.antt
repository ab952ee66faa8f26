-- `listing::line::put_columns` meets its contract: column after column.
use native.Mathlib.Omega.{arith}
use Prim.Native.Nat.{◌≤◌}
use lib.ListN.{length}
use Rattle.text.specs.Put.{most_place}
use mathlib.Core.Path.{◌∙◌}
use Rattle.text.proofs.PutLaws.{put_none}
use Rattle.listing.specs.Text.{columns}
use Rattle.listing.proofs.ColumnLaws.{column_more}
use Rattle.listing.proofs.line.put_columns.Goals as goal

pub put_column-p-requires : goal.put_column-p-requires
put_column-p-requires c = (omega arith, omega (arith, c.requires))

pub put_column-p-requires-2 : goal.put_column-p-requires-2
put_column-p-requires-2 c = (omega arith, omega (arith, c.requires))

pub put_column-p-requires-3 : goal.put_column-p-requires-3
put_column-p-requires-3 c = (omega arith, omega (arith, c.requires))

pub put_column-p-requires-4 : goal.put_column-p-requires-4
put_column-p-requires-4 c = (omega arith, omega (arith, c.requires))

pub put_column-p-requires-5 : goal.put_column-p-requires-5
put_column-p-requires-5 c = (omega arith, omega (arith, c.requires))

pub put_column-p-requires-6 : goal.put_column-p-requires-6
put_column-p-requires-6 c = (omega arith, omega (arith, c.requires))

pub put_column-p-requires-7 : goal.put_column-p-requires-7
put_column-p-requires-7 c = (omega arith, omega (arith, c.requires))

pub put_column-p-requires-8 : goal.put_column-p-requires-8
put_column-p-requires-8 c = (omega arith, omega (arith, c.requires))

pub put_column-p-requires-9 : goal.put_column-p-requires-9
put_column-p-requires-9 c = (omega arith, omega (arith, c.requires))

pub put_column-p-requires-10 : goal.put_column-p-requires-10
put_column-p-requires-10 c = (omega arith, omega (arith, c.requires))

pub put_column-requires : goal.put_column-requires
put_column-requires c = (omega arith, omega (arith, c.requires))

pub shape_of-out : goal.shape_of-out
shape_of-out c =
    c.put_column.auto.out
    ∙ c.put_column-p-10.auto.out
    ∙ c.put_column-p-9.auto.out
    ∙ c.put_column-p-8.auto.out
    ∙ c.put_column-p-7.auto.out
    ∙ c.put_column-p-6.auto.out
    ∙ c.put_column-p-5.auto.out
    ∙ c.put_column-p-4.auto.out
    ∙ c.put_column-p-3.auto.out
    ∙ c.put_column-p-2.auto.out
    ∙ c.put_address-p.auto.out
    ∙ c.put_column-p.auto.out

pub returns : goal.returns
unfolding columns
returns c =
    let out = c.args.out.now in
    let f = c.args.frame.now in
    let n : length out ≤ most_place = omega arith in
    column_more out f n 11 _ _ _ _ (column_more out f n 10 _ _ _ _ (column_more out f n 9 _ _ _ _ (column_more out f n 8 _ _ _ _ (column_more out f n 7 _ _ _ _ (column_more out f n 6 _ _ _ _ (column_more out f n 5 _ _ _ _ (column_more out f n 4 _ _ _ _ (column_more out f n 3 _ _ _ _ (column_more out f n 2 _ _ _ _ (column_more out f n 1 _ _ _ _ (column_more out f n 0 _ _ _ _ (put_none out 0 (omega arith))
    c.put_column-p.ensures)
    c.put_address-p.ensures)
    c.put_column-p-2.ensures)
    c.put_column-p-3.ensures)
    c.put_column-p-4.ensures)
    c.put_column-p-5.ensures)
    c.put_column-p-6.ensures)
    c.put_column-p-7.ensures)
    c.put_column-p-8.ensures)
    c.put_column-p-9.ensures)
    c.put_column-p-10.ensures)
    c.put_column.ensures
