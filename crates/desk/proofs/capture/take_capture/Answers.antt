-- `desk::capture::take_capture` meets its contract.
use native.Mathlib.Omega.{arith}
use mathlib.Core.List.{List}
use mathlib.Core.Path.{refl, sym, ap, subst, ◌∙◌}
use Rattle.finder.proofs.Step.{Told, told}
use Rattle.desk.specs.declared.state.Seat.{Seat}
use Rattle.std.specs.Prelude.{Ok, Some}
use Rattle.desk.specs.Memory.{Memory, memory}
use Rattle.desk.specs.Desk.{is_desk}
use Rattle.desk.specs.Capture.{TookCapture}
use Rattle.desk.specs.inside.Shown.{shown}
use Rattle.desk.proofs.Below.{not_came, not_left}
use Rattle.desk.proofs.CaptureLaws.{goes_cut, goes_whole, begins, took_none, took_all}
use borrow.Author.Rules.{rules}
use Rattle.desk.proofs.capture.take_capture.Goals as goal

pub returns-then-not-shows_desk : goal.returns-then-not-shows_desk
returns-then-not-shows_desk c =
    let a = c.args in
    took_none (memory a.desk a.row a.cells.now a.marks.now a.tally.now) a.capture.now (not_came c.shows_desk.ensures.desk c.if-not-shows_desk.true)

pub loop-found-init : goal.loop-found-init
loop-found-init c =
    let a = c.args in
    let start : Memory = memory a.desk (shown c.shows_desk.new.columns) a.cells.now a.marks.now a.tally.now in
    let shows = c.shows_desk.ensures.shown (not_left refl c.if-not-shows_desk.false) in
    let is = ap (λ (r : List Seat). is_desk (memory a.desk r a.cells.now a.marks.now a.tally.now)) shows ∙ not_left c.shows_desk.ensures.desk c.if-not-shows_desk.false in
    (begins start a.capture.now c.default-counts.result is c.default-counts.ensures, (search rules, (refl, refl)))

pub shape_of-cells : goal.shape_of-cells
shape_of-cells c = c.loop-found.invariant.1.1.0

pub shape_of-marks : goal.shape_of-marks
shape_of-marks c = c.loop-found.invariant.1.1.1

pub returns : goal.returns
returns c =
    let a = c.args in
    let l = c.loop-found in
    let start : Memory = memory a.desk (shown c.shows_desk.new.columns) a.cells.now a.marks.now a.tally.now in
    let shows = c.shows_desk.ensures.shown (not_left refl c.if-not-shows_desk.false) in
    let is = ap (λ (r : List Seat). is_desk (memory a.desk r a.cells.now a.marks.now a.tally.now)) shows ∙ not_left c.shows_desk.ensures.desk c.if-not-shows_desk.false in
    let s = a.capture.now in
    let here : Told s l.at c.next.result = subst (Told s l.at) (sym c.next.ensures) (told s l.at) in
    let t = subst (Told _ _) c.in_default.is here in
    let took = took_all start s l.at _ _ is l.invariant.0 t in
    subst (λ (r : List Seat). TookCapture (memory a.desk r a.cells.now a.marks.now a.tally.now) s (Ok l.counts) (memory l.desk c.row.result l.cells l.marks l.tally)) shows
    (subst (λ (r : List Seat). TookCapture start s (Ok l.counts) (memory l.desk r l.cells l.marks l.tally)) (sym c.row.ensures) took)

pub count-requires : goal.count-requires
count-requires c =
    let here : Told c.args.capture.now c.loop-found.at c.next.result = let s = c.args.capture.now in
    let at = c.loop-found.at in
    subst (Told s at) (sym c.next.ensures) (told s at) in
    let t = subst (Told _ _) (c.in-Some.is ∙ ap Some c.in-Cut.is) (here) in let g = c.loop-found.invariant.0 in omega (arith, g.few, t.from, t.some, t.within)

pub loop-found-smaller-in-Cut : goal.loop-found-smaller-in-Cut
loop-found-smaller-in-Cut c =
    let here : Told c.args.capture.now c.loop-found.at c.next.result = let s = c.args.capture.now in
    let at = c.loop-found.at in
    subst (Told s at) (sym c.next.ensures) (told s at) in
    let t = subst (Told _ _) (c.in-Some.is ∙ ap Some c.in-Cut.is) (here) in omega (arith, t.from, t.some, t.within)

pub loop-found-preserved-in-Cut : goal.loop-found-preserved-in-Cut
loop-found-preserved-in-Cut c =
    let here : Told c.args.capture.now c.loop-found.at c.next.result = let s = c.args.capture.now in
    let at = c.loop-found.at in
    subst (Told s at) (sym c.next.ensures) (told s at) in
    let t = subst (Told _ _) (c.in-Some.is ∙ ap Some c.in-Cut.is) (here) in
    let g = c.loop-found.invariant in
    (goes_cut _ _ _ _ _ g.0 _ _ _ (omega (arith, t.from, t.some)) t.rest c.count.ensures, (t.within, g.1.1))

pub slice_bounds-frame-count : goal.slice_bounds-frame-count
slice_bounds-frame-count c =
    let here : Told c.args.capture.now c.loop-found.at c.next.result = let s = c.args.capture.now in
    let at = c.loop-found.at in
    subst (Told s at) (sym c.next.ensures) (told s at) in
    let t = subst (Told _ _) (c.in-Some.is ∙ ap Some c.in-Whole.is) (here) in omega (arith, t.0.some)

pub slice_bounds-frame-start : goal.slice_bounds-frame-start
slice_bounds-frame-start c =
    let here : Told c.args.capture.now c.loop-found.at c.next.result = let s = c.args.capture.now in
    let at = c.loop-found.at in
    subst (Told s at) (sym c.next.ensures) (told s at) in
    let t = subst (Told _ _) (c.in-Some.is ∙ ap Some c.in-Whole.is) (here) in omega (arith, t.0.some)

pub slice_bounds-frame-end : goal.slice_bounds-frame-end
slice_bounds-frame-end c =
    let here : Told c.args.capture.now c.loop-found.at c.next.result = let s = c.args.capture.now in
    let at = c.loop-found.at in
    subst (Told s at) (sym c.next.ensures) (told s at) in
    let t = subst (Told _ _) (c.in-Some.is ∙ ap Some c.in-Whole.is) (here) in omega (arith, t.0.within)

pub meet-fate-requires : goal.meet-fate-requires
meet-fate-requires c = c.loop-found.invariant.0.desk

pub count-requires-in-Whole : goal.count-requires-in-Whole
count-requires-in-Whole c =
    let here : Told c.args.capture.now c.loop-found.at c.next.result = let s = c.args.capture.now in
    let at = c.loop-found.at in
    subst (Told s at) (sym c.next.ensures) (told s at) in
    let t = subst (Told _ _) (c.in-Some.is ∙ ap Some c.in-Whole.is) (here) in let g = c.loop-found.invariant.0 in omega (arith, g.few, t.0.from, t.0.some, t.0.within)

pub loop-found-smaller : goal.loop-found-smaller
loop-found-smaller c =
    let here : Told c.args.capture.now c.loop-found.at c.next.result = let s = c.args.capture.now in
    let at = c.loop-found.at in
    subst (Told s at) (sym c.next.ensures) (told s at) in
    let t = subst (Told _ _) (c.in-Some.is ∙ ap Some c.in-Whole.is) (here) in omega (arith, t.0.from, t.0.some, t.0.within, t.1)

pub loop-found-preserved : goal.loop-found-preserved
loop-found-preserved c =
    let here : Told c.args.capture.now c.loop-found.at c.next.result = let s = c.args.capture.now in
    let at = c.loop-found.at in
    subst (Told s at) (sym c.next.ensures) (told s at) in
    let t = subst (Told _ _) (c.in-Some.is ∙ ap Some c.in-Whole.is) (here) in
    let g = c.loop-found.invariant in
    let w = c.meet-fate in (
      goes_whole _ _ _ _ _ g.0 _ _ _ (omega (arith, t.0.from, t.0.some)) t.0.rest t.0.some _ _ w.ensures c.count-in-Whole.ensures _ t.1,
      (omega (arith, t.0.within, t.1), (w.auto.cells ∙ g.1.1.0, w.auto.marks ∙ g.1.1.1)),
    )
