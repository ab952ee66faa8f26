-- `text::put_decimal` meets its contract.
use Rattle.text.proofs.DecimalLaws.{put_digits}
use Rattle.text.proofs.put_decimal.Goals as goal

pub returns : goal.returns
returns c =
    let a = c.args in
    put_digits a.out.now a.at a.n _ _ _ c.width_of-w.ensures c.place_after.ensures c.put_number.ensures
