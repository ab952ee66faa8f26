-- `frames::check::codes_good` meets its contract.
use native.Mathlib.Omega.{arith}
use mathlib.Core.Bool.{◌&&◌}
use mathlib.Core.Path.{◌≡◌, sym, ◌∙◌}
use lib.ListN.{get_or}
use Rattle.frames.specs.Rules.{is_address, is_requester, is_raw}
use Rattle.frames.specs.inside.Check.{codes_good}
use Rattle.frames.proofs.RunLaws.{part_all}
use Rattle.frames.proofs.CheckLaws.{held, failed, made, unmade}
use Rattle.frames.proofs.check.codes_good.Goals.{then-is_address, else-is_address}
use Rattle.frames.proofs.check.codes_good.Goals as goal

pub returns-then-is_requester : goal.returns-then-is_requester
unfolding codes_good
returns-then-is_requester c =
    let s = c.args.s.now in
    let raw = c.all_in.ensures is_raw (λ b r k p. p) ∙ part_all is_raw s 3 2 (omega (arith, c.told-s)) in
    let codes : c.if-is_address.value ≡ is_address (get_or s 2 0) && is_requester (get_or s 6 0) = elim c.if-is_address.branch [
      | then-is_address w ↦ made (held c.is_address.ensures w.if-is_address.true) (w.value-is ∙ w.is_requester.ensures)
      | else-is_address w ↦ unmade _ (failed c.is_address.ensures w.if-is_address.false) (w.value-is ∙ w.if-is_address.false)
    ] in
    rw (raw, sym codes ∙ c.if-is_requester.true)
