-- `page::sofar::Sofar::take_cell` meets its contract.
use Rattle.std.proofs.Common.{◌≡◌, ℕ, ◌&&◌, eqb, List, get_or, sym, ap, ◌∙◌}
use Rattle.text.specs.Lines.{TAB, LF}
use Rattle.frames.specs.Kind.{read}
use Rattle.frames.specs.Reply.{reply, is_good}
use Rattle.desk.proofs.Below.{not_came, not_left}
use Rattle.page.specs.inside.Tokens.{value_of}
use Rattle.page.proofs.SameLaws.{around}
use Rattle.page.proofs.TakeLaws.{cell_unnamed, cell_unlike, cell_no_reply, cell_like}
use Rattle.page.proofs.sofar.Sofar.take_cell.Goals as goal

pub returns-in_default : goal.returns-in_default
returns-in_default c = cell_unnamed _ _ c.requires _ (ap value_of c.in_default.ensures.named) (sym c.in_default.ensures.named)

pub returns-then-not-line-seat_digit : goal.returns-then-not-line-seat_digit
returns-then-not-line-seat_digit c =
    let a = c.args in
    let l = a.line.now in
    let tested : eqb (get_or l 0 0) c.seat_digit.result && eqb (get_or l 1 0) TAB && eqb (get_or l 51 0) LF ≡ around c.in-Some.i l = rw c.seat_digit.ensures in
    cell_unlike a.self.now l c.requires c.in-Some.i (ap value_of c.in-Some.ensures.named) (not_came tested c.if-not-line-seat_digit.true)

pub returns-then-not-is_reply : goal.returns-then-not-is_reply
returns-then-not-is_reply c =
    let a = c.args in
    cell_no_reply a.self.now a.line.now c.requires c.in-Some.i (ap value_of c.in-Some.ensures.named)
    (not_came (c.is_reply.ensures ∙ ap (λ (f : List ℕ). is_good (read reply f)) c.framed-frame.ensures) c.if-not-is_reply.true)

pub returns : goal.returns
returns c =
    let a = c.args in
    let l = a.line.now in
    let tested : eqb (get_or l 0 0) c.seat_digit.result && eqb (get_or l 1 0) TAB && eqb (get_or l 51 0) LF ≡ around c.in-Some.i l = rw c.seat_digit.ensures in
    let turn = c.cell_turn.ensures in
    cell_like a.self.now l c.requires c.in-Some.i (ap value_of c.in-Some.ensures.named) c.in-Some.ensures.within
    (not_left tested c.if-not-line-seat_digit.false)
    (not_left (c.is_reply.ensures ∙ ap (λ (f : List ℕ). is_good (read reply f)) c.framed-frame.ensures) c.if-not-is_reply.false)
    (rw (c.label_at.ensures, c.framed-frame.ensures) at turn.taken)
    (rw (c.label_at.ensures, c.framed-frame.ensures) at turn.then)
