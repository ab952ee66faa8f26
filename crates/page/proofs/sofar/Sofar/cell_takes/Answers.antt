-- `page::sofar::Sofar::cell_takes` meets its contract.
use Rattle.desk.specs.Seats.{seat_at}
use Rattle.desk.specs.Step.{progress_of}
use Rattle.desk.proofs.ReplayLaws.{goes_step}
use Rattle.page.specs.inside.Taking.{cell_hears, cell_takes}
use Rattle.page.proofs.sofar.Sofar.cell_takes.Goals as goal

pub returns : goal.returns
unfolding cell_hears cell_takes
returns c =
    let a = c.args in
    rw (
      goes_step (progress_of (seat_at a.self.now.row a.i)) a.label.status,
      c.has_key.ensures,
      c.key_in.ensures,
      c.has_bit.ensures,
      c.ends_with.ensures,
      c.in_place.ensures,
      c.requires.1,
    )
