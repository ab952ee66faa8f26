-- `frames::record::write` meets its contract: the tests, then the stores.
use mathlib.Core.Path.{◌∙◌}
use Rattle.frames.proofs.KindLaws.{wrote_frame}
use Rattle.frames.proofs.record.write.Goals as goal

pub returns : goal.returns
returns g c =
    wrote_frame g.R.Record.kind _ _ c.put.ensures.long (c.in_ok-write_tries.ensures ∙ rw (c.wrong.ensures, c.SIZE.ensures, g.met.R.Record.of_kind.1)) _ c.put.ensures.stored
