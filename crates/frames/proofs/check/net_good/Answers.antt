-- `frames::check::net_good` meets its contract.
use native.Mathlib.Omega.{arith}
use mathlib.Core.Bool.{true, ◌&&◌, and-eq-true_iff}
use mathlib.Core.Path.{◌≡◌, ap₂, ◌∙◌}
use Rattle.digits.specs.Digits.{is_digit}
use Rattle.frames.specs.Rules.{is_raw}
use Rattle.frames.specs.Shape.{all_from}
use Rattle.frames.proofs.RunLaws.{part_all}
use Rattle.frames.proofs.CheckLaws.{held, failed, spare_and_time, net_stops, net_goes_on, net_bad}
use Rattle.frames.proofs.check.net_good.Goals.{After-all_in-2, After-all_in-3, After-time_good}
use Rattle.frames.proofs.check.net_good.Goals as goal

read : (c : After-all_in-2) → c.all_in.result && c.all_in-2.result ≡ all_from is_digit c.args.s.now 30 10 && all_from is_digit c.args.s.now 41 7
read c =
    ap₂ ◌&&◌ (c.all_in.ensures is_digit (λ b r k p. p) ∙ part_all is_digit c.args.s.now 30 10 (omega (arith, c.told-s)))
    (c.all_in-2.ensures is_digit (λ b r k p. p) ∙ part_all is_digit c.args.s.now 41 7 (omega (arith, c.told-s)))

digits : (c : After-all_in-3) → (all_from is_digit c.args.s.now 30 10 ≡ true) × (all_from is_digit c.args.s.now 41 7 ≡ true)
digits c = (and-eq-true_iff _ _).0 (held (read (goal.at.After-all_in-3 c).After-all_in-2) c.if-not-digits.false)

tests : (c : After-time_good) → c.all_in-3.result && c.time_good.result ≡ spare_and_time c.args.s.now
tests c = ap₂ ◌&&◌ (c.all_in-3.ensures is_raw (λ b r k p. p) ∙ part_all is_raw c.args.s.now 48 2 (omega (arith, c.told-s))) c.time_good.ensures

pub returns-then-not-digits : goal.returns-then-not-digits
returns-then-not-digits c = net_bad _ (failed (read (goal.at.returns-then-not-digits c).After-all_in-2) c.if-not-digits.true)

pub time_good-requires : goal.time_good-requires
time_good-requires c = (digits c).0

pub returns-then-all_in-time_good : goal.returns-then-all_in-time_good
returns-then-all_in-time_good c =
    let x = goal.at.returns-then-all_in-time_good c in
    rw c.sign_good.ensures (net_goes_on _ (digits x.After-all_in-3) (held (tests x.After-time_good) c.if-all_in-time_good.true))

pub returns-else-all_in-time_good : goal.returns-else-all_in-time_good
returns-else-all_in-time_good c =
    let x = goal.at.returns-else-all_in-time_good c in
    c.if-all_in-time_good.false ∙ net_stops _ (digits x.After-all_in-3) (failed (tests x.After-time_good) c.if-all_in-time_good.false)
