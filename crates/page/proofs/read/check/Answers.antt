-- `page::read::check` meets its contract: after each line, what the machine has to say of the text is what it still has to say from there on.
use Rattle.std.proofs.Common.{sym, ◌∙◌, add-one, arith, rules}
use borrow.Author.Tests.{not-true, not-false}
use Rattle.page.proofs.ReadLaws.{part_line, part_size, first_by, line_inside, at_last, first_short, first_wrong, first_on, line_on, line_off, line_more, text_short, text_ends}
use Rattle.page.proofs.read.check.Goals as goal

pub returns-then-not-first : goal.returns-then-not-first
returns-then-not-first c = first_short _ c.next_line-first.result c.next_line-first.ensures (not-true _ c.if-not-first.true)

pub slice_bounds-ne-end : goal.slice_bounds-ne-end
slice_bounds-ne-end c = let x = line_inside _ 0 c.next_line-first.result c.next_line-first.ensures (not-false _ c.if-not-first.false) in search rules

pub returns-then-ne : goal.returns-then-ne
returns-then-ne c =
    let p = c.next_line-first.result in
    let first = first_by c.args.text.now p.end _ _ c.as_slice.ensures c.ne.ensures in
    first_wrong _ p c.next_line-first.ensures (not-false _ c.if-not-first.false) (not-true _ (sym first ∙ c.if-ne.true))

pub loop-at-init : goal.loop-at-init
loop-at-init c =
    let p = c.next_line-first.result in
    let is = c.next_line-first.ensures in
    let w = not-false _ c.if-not-first.false in
    record {
      inside = (line_inside _ 0 p is w).1;
      few = omega arith;
      is = first_on _ p is w (not-false _ (sym (first_by c.args.text.now p.end _ _ c.as_slice.ensures c.ne.ensures) ∙ c.if-ne.false)) c.default-row.result (search rules);
    }

pub returns-then-not-line : goal.returns-then-not-line
returns-then-not-line c =
    text_short _ c.loop-at.at c.next_line-line.result c.next_line-line.ensures c.loop-at.s c.loop-at.n (omega arith) (not-true _ c.if-not-line.true) ∙ sym c.loop-at.invariant.is

pub overflow_sub-end : goal.overflow_sub-end
overflow_sub-end c = let x = line_inside _ c.loop-at.at c.next_line-line.result c.next_line-line.ensures (not-false _ c.if-not-line.false) in omega arith

pub check_last-requires : goal.check_last-requires
check_last-requires c =
    let h = c.loop-at.invariant in
    let s = c.loop-at.s in
    let r = s.roomy in
    let l = s.seated in
    let f = h.few in
    record { line = at_last _ c.loop-at.at c.next_line-line.result c.next_line-line.ensures (not-false _ c.if-not-line.false) c.if-end-at-eq-LAST_LINE.true; few = omega arith }

pub returns-then-end-at-eq-LAST_LINE : goal.returns-then-end-at-eq-LAST_LINE
returns-then-end-at-eq-LAST_LINE c = c.check_last.ensures c.loop-at.n (add-one c.loop-at.n) ∙ sym c.loop-at.invariant.is

pub slice_bounds-take_line-count : goal.slice_bounds-take_line-count
slice_bounds-take_line-count c = let x = line_inside _ c.loop-at.at c.next_line-line.result c.next_line-line.ensures (not-false _ c.if-not-line.false) in search rules

pub slice_bounds-take_line-start : goal.slice_bounds-take_line-start
slice_bounds-take_line-start c = let x = line_inside _ c.loop-at.at c.next_line-line.result c.next_line-line.ensures (not-false _ c.if-not-line.false) in search rules

pub slice_bounds-take_line-end : goal.slice_bounds-take_line-end
slice_bounds-take_line-end c = let x = line_inside _ c.loop-at.at c.next_line-line.result c.next_line-line.ensures (not-false _ c.if-not-line.false) in search rules

pub take_line-requires : goal.take_line-requires
take_line-requires c =
    let x = line_inside _ c.loop-at.at c.next_line-line.result c.next_line-line.ensures (not-false _ c.if-not-line.false) in
    (λ e. c.if-end-at-eq-LAST_LINE.false (sym (part_size _ c.loop-at.at c.next_line-line.result.end (omega arith) x.1) ∙ e))

pub returns-then-not-take_line : goal.returns-then-not-take_line
returns-then-not-take_line c =
    let x = line_inside _ c.loop-at.at c.next_line-line.result c.next_line-line.ensures (not-false _ c.if-not-line.false) in
    line_off _ c.loop-at.at c.next_line-line.result c.next_line-line.ensures (not-false _ c.if-not-line.false) c.loop-at.s c.loop-at.n _ (part_line _ c.loop-at.at c.next_line-line.result.end (omega arith)) c.take_line.result c.take_line.new.self c.take_line.ensures c.if-not-take_line.true ∙ sym c.loop-at.invariant.is

pub loop-at-smaller : goal.loop-at-smaller
loop-at-smaller c = let x = line_inside _ c.loop-at.at c.next_line-line.result c.next_line-line.ensures (not-false _ c.if-not-line.false) in omega arith

pub loop-at-preserved : goal.loop-at-preserved
loop-at-preserved c =
    let x = line_inside _ c.loop-at.at c.next_line-line.result c.next_line-line.ensures (not-false _ c.if-not-line.false) in
    let t = c.if-not-take_line.false in
    let more = line_more _ c.loop-at.at c.next_line-line.result c.next_line-line.ensures (not-false _ c.if-not-line.false) c.loop-at.s c.loop-at.n _ (part_line _ c.loop-at.at c.next_line-line.result.end (omega arith)) c.take_line.result c.take_line.new.self c.take_line.ensures t in
    let f = c.loop-at.invariant.few in
    record {
      inside = x.1;
      few = omega arith;
      is = c.loop-at.invariant.is ∙ line_on _ c.loop-at.at c.next_line-line.result c.next_line-line.ensures (not-false _ c.if-not-line.false) c.loop-at.s c.loop-at.n _ (part_line _ c.loop-at.at c.next_line-line.result.end (omega arith)) c.take_line.result c.take_line.new.self c.take_line.ensures t;
    }

pub returns : goal.returns
returns c = text_ends _ c.loop-at.at c.loop-at.s c.loop-at.n (omega arith) ∙ sym c.loop-at.invariant.is
