-- `rei2::reply::timing_of` meets its contract.
use mir.Syntax.{w64}
use mir.Val.{to_z, of_z}
use mathlib.Core.Path.{◌≡◌, ap, ◌∙◌}
use native.Mathlib.Omega.{arith}
use borrow.Author.Rules.{rules}
use Rattle.frames.specs.declared.timing.Timing.TheVariants.{Net}
use Rattle.rei2.specs.Reply.{timing_of}
use Rattle.rei2.proofs.TimingLaws.{as_none}
use Rattle.rei2.proofs.reply.timing_of.Goals as goal

pub returns-in-0 : goal.returns-in-0
unfolding timing_of
returns-in-0 c = rw c.in-0.is

pub returns-in-1 : goal.returns-in-1
unfolding timing_of
returns-in-1 c = rw c.in-1.is

pub returns-in-2 : goal.returns-in-2
unfolding timing_of
returns-in-2 c = let r : to_z w64 (of_z w64 c.args.n.net) ≡ c.args.n.net = search rules in ap Net r ∙ rw c.in-2.is

pub returns-in_default : goal.returns-in_default
returns-in_default c = as_none c.args.n (omega arith)
