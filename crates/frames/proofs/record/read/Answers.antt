-- `frames::record::read` meets its contract: a refusal of the head is the reader's.
use mathlib.Core.Path.{◌∙◌}
use Rattle.frames.proofs.KindLaws.{read_head}
use Rattle.frames.proofs.record.read.Goals as goal

pub returns-in_err-head_of : goal.returns-in_err-head_of
returns-in_err-head_of g c =
    let k = g.met.R.Record.of_kind in
    read_head g.R.Record.kind _ _ (c.in_err-head_of.ensures ∙ rw (c.LEAD.ensures, c.SIZE.ensures, k.0, k.1)) _ c.from_residual.ensures.1
