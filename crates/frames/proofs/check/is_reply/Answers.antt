-- `frames::check::is_reply` meets its contract.
use native.Mathlib.Omega.{arith}
use mathlib.Core.Bool.{◌&&◌}
use mathlib.Core.Path.{◌≡◌, ◌∙◌}
use lib.ListN.{length}
use Rattle.digits.specs.Digits.{is_digit}
use Rattle.frames.specs.Shape.{all_from}
use Rattle.frames.specs.inside.Check.{bounds_good, codes_good, values_good}
use Rattle.frames.proofs.RunLaws.{part_all}
use Rattle.frames.proofs.CheckLaws.{held, failed, made, unmade, other_length, no_digits, reply_stops, reply_goes_on}
use Rattle.frames.proofs.check.is_reply.Goals.{After-all_in, then-bounds_good, else-bounds_good, then-codes_good, else-codes_good}
use Rattle.frames.proofs.check.is_reply.Goals as goal

long : (c : After-all_in) → length c.in-Some.s.now ≡ 51
long c = rw c.in-Some.ensures.cases.same c.in-Some.ensures.cases.long

digits : (c : After-all_in) → c.all_in.result ≡ all_from is_digit c.in-Some.s.now 7 22
digits c = c.all_in.ensures is_digit (λ b r k p. p) ∙ part_all is_digit c.in-Some.s.now 7 22 (omega (arith, long c))

pub returns-in_default : goal.returns-in_default
returns-in_default c = other_length _ c.in_default.ensures.cases

pub returns-then-not-all_in : goal.returns-then-not-all_in
returns-then-not-all_in c =
    let x = (goal.at.returns-then-not-all_in c).After-all_in in
    rw (← c.in-Some.ensures.cases.same) (no_digits _ (long x) (failed (digits x) c.if-not-all_in.true))

pub values_good-requires : goal.values_good-requires
values_good-requires c = held (digits (goal.at.values_good-requires c).After-all_in) c.if-not-all_in.false

pub returns-then-values_good : goal.returns-then-values_good
returns-then-values_good c =
    let x = (goal.at.returns-then-values_good c).After-all_in in
    let s = c.in-Some.s.now in
    let two : c.if-bounds_good.value ≡ bounds_good s && codes_good s = elim c.if-bounds_good.branch [
      | then-bounds_good w ↦ made (held c.bounds_good.ensures w.if-bounds_good.true) (w.value-is ∙ w.codes_good.ensures)
      | else-bounds_good w ↦ unmade _ (failed c.bounds_good.ensures w.if-bounds_good.false) (w.value-is ∙ w.if-bounds_good.false)
    ] in
    let three : c.if-codes_good.value ≡ bounds_good s && codes_good s && values_good s = elim c.if-codes_good.branch [
      | then-codes_good w ↦ made (held two w.if-codes_good.true) (w.value-is ∙ w.values_good.ensures)
      | else-codes_good w ↦ unmade _ (failed two w.if-codes_good.false) (w.value-is ∙ w.if-codes_good.false)
    ] in
    rw (c.timing_good.ensures, c.kind_of.ensures, ← c.in-Some.ensures.cases.same)
    (reply_goes_on s (long x) (held (digits x) c.if-not-all_in.false) (held three c.if-values_good.true))

pub returns-else-values_good : goal.returns-else-values_good
returns-else-values_good c =
    let x = (goal.at.returns-else-values_good c).After-all_in in
    let s = c.in-Some.s.now in
    let two : c.if-bounds_good.value ≡ bounds_good s && codes_good s = elim c.if-bounds_good.branch [
      | then-bounds_good w ↦ made (held c.bounds_good.ensures w.if-bounds_good.true) (w.value-is ∙ w.codes_good.ensures)
      | else-bounds_good w ↦ unmade _ (failed c.bounds_good.ensures w.if-bounds_good.false) (w.value-is ∙ w.if-bounds_good.false)
    ] in
    let three : c.if-codes_good.value ≡ bounds_good s && codes_good s && values_good s = elim c.if-codes_good.branch [
      | then-codes_good w ↦ made (held two w.if-codes_good.true) (w.value-is ∙ w.values_good.ensures)
      | else-codes_good w ↦ unmade _ (failed two w.if-codes_good.false) (w.value-is ∙ w.if-codes_good.false)
    ] in
    rw (c.if-values_good.false, ← c.in-Some.ensures.cases.same)
    (reply_stops s (long x) (held (digits x) c.if-not-all_in.false) (failed three c.if-values_good.false))
