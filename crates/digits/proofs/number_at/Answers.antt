-- `digits::number_at` meets its contract: each turn is one step of `number_from`.
use native.Mathlib.Omega.{arith}
use mathlib.Core.Path.{◌≡◌, sym, ◌∙◌}
use native.Mathlib.Nat.{add-zero, sub-zero, add_assoc, sub-add-eq}
use Prim.Native.Nat.{◌+◌, ◌<◌}
use lib.ListN.{get_or}
use Rattle.digits.proofs.Reading.{some_width, no_width, no_room, of_part, step_off, step_on, step_done, grown}
use Rattle.digits.proofs.number_at.Goals as goal

pub returns-then-width-lt1 : goal.returns-then-width-lt1
returns-then-width-lt1 c = no_width _ _ _ c.then-width-lt1.either

pub returns-in_err-get : goal.returns-in_err-get
returns-in_err-get c = c.from_residual.ensures ∙ sym (no_room _ _ _ (omega arith) (omega arith) (omega (arith, c.in_err-get.ensures.lookup)))

pub returns-in_err-b-items : goal.returns-in_err-b-items
returns-in_err-b-items c =
    c.from_residual-in_err-b-items.ensures
    ∙ sym (no_room _ _ _ (omega arith) (omega arith) (omega (arith, c.in_ok-get.ensures.lookup, c.in_err-b-items.ensures.lookup)))

pub loop-b-init : goal.loop-b-init
loop-b-init c = record { read = rw (add-zero c.args.at, sub-zero c.args.width) (some_width _ _ _ (omega arith) (omega arith)); small = omega arith }

pub returns-then-not-is_ascii_digit : goal.returns-then-not-is_ascii_digit
returns-then-not-is_ascii_digit c =
    let a = c.args in
    let i = c.loop-b.b-index in
    let b = c.in_ok-b-items.b-items.now in
    let l : i < a.width = omega (arith, c.in_ok-b-items.ensures.lookup) in
    let e : get_or b i 0 ≡ get_or a.s.now (a.at + i) 0 =
    of_part a.s.now c.in_ok-get.field-0.now b a.at a.width i c.in_ok-get.ensures.lookup.0.2 c.in_ok-b-items.ensures.lookup.0.2 l in
    sym (c.loop-b.invariant.read ∙ step_off _ _ _ _ _ (omega arith) e (sym c.if-not-is_ascii_digit.ensures.value))

pub loop-b-preserved : goal.loop-b-preserved
loop-b-preserved c =
    let a = c.args in
    let i = c.loop-b.b-index in
    let b = c.in_ok-b-items.b-items.now in
    let l : i < a.width = omega (arith, c.in_ok-b-items.ensures.lookup) in
    let e : get_or b i 0 ≡ get_or a.s.now (a.at + i) 0 =
    of_part a.s.now c.in_ok-get.field-0.now b a.at a.width i c.in_ok-get.ensures.lookup.0.2 c.in_ok-b-items.ensures.lookup.0.2 l in
    let d = c.if-not-is_ascii_digit.ensures.cases in
    record {
      read = rw (← add_assoc a.at i 1, sub-add-eq a.width i 1) (c.loop-b.invariant.read ∙ step_on _ _ _ _ _ (omega arith) e (omega (arith, d)) (omega (arith, d)));
      small = grown c.loop-b.v i _ (omega (arith, d)) c.loop-b.invariant.small;
    }

pub returns : goal.returns
returns c = sym (c.loop-b.invariant.read ∙ step_done _ _ _ _ (omega (arith, c.in_ok-b-items.ensures.lookup)))
