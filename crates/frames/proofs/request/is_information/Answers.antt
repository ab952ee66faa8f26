-- `frames::request::is_information` meets its contract: set and list agree at each of the 256 bytes, which is computed.
use mathlib.Core.Path.{refl, ◌∙◌}
use Rattle.digits.specs.Text.{one_of, in_set}
use Rattle.frames.specs.Request.{is_information}
use Rattle.digits.proofs.Tables.{agreed}
use Rattle.frames.proofs.request.is_information.Goals as goal

pub returns : goal.returns
unfolding in_set is_information one_of
returns c = c.in_set.ensures ∙ agreed (in_set _ _) is_information 256 refl c.args.b c.ranges.b.fits
