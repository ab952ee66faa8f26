-- `frames::check::timing_good` meets its contract.
use native.Mathlib.Omega.{arith}
use mathlib.Core.Path.{◌∙◌}
use Rattle.frames.specs.Rules.{is_raw}
use Rattle.frames.proofs.RunLaws.{part_all}
use Rattle.frames.proofs.CheckLaws.{raw_good}
use Rattle.frames.proofs.check.timing_good.Goals as goal

pub returns-in-Raw : goal.returns-in-Raw
returns-in-Raw c =
    let s = c.args.s.now in
    let raw = c.all_in.ensures is_raw (λ b r k p. p) ∙ part_all is_raw s 30 20 (omega (arith, c.told-s)) in
    rw c.in-Raw.is (raw ∙ raw_good s)
