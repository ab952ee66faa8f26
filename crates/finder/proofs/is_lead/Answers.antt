-- `finder::is_lead` meets its contract.
use mathlib.Core.Bool.{or_assoc, or-false}
use Rattle.digits.specs.Text.{one_of}
use Rattle.finder.specs.Leads.{is_lead}
use Rattle.finder.proofs.is_lead.Goals as goal

pub returns : goal.returns
unfolding is_lead one_of
returns c = simp (or_assoc, or-false)
