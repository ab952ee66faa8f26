-- `frames::check::sign_good` meets its contract.
use native.Mathlib.Omega.{arith}
use mathlib.Core.Path.{◌≡◌, ◌∙◌}
use borrow.Author.Rules.{rules}
use borrow.Author.Tests.{ne_eqb}
use lib.ListN.{length}
use Rattle.frames.specs.inside.Check.{is_zero, sign_good}
use Rattle.frames.proofs.RunLaws.{part_all}
use Rattle.frames.proofs.check.sign_good.Goals as goal

pub returns : goal.returns
unfolding sign_good
returns c =
    let s = c.args.s.now in
    let long : length s ≡ 51 = search rules in
    let time = c.all_in.ensures is_zero (λ b r k p. p) ∙ part_all is_zero s 30 10 (omega arith) in
    let days = c.all_in-2.ensures is_zero (λ b r k p. p) ∙ part_all is_zero s 41 7 (omega arith) in
    rw (ne_eqb _ _ c.if-s-eq43.false, days, time)
