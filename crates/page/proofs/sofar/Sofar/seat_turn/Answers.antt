-- `page::sofar::Sofar::seat_turn` meets its contract.
use Rattle.std.proofs.Common.{sym, arith}
use Rattle.desk.proofs.Below.{not_came, not_left}
use Rattle.page.proofs.TakeLaws.{set_held, seat_test, Adds, seat_adds, seat_roomy}
use Rattle.page.proofs.sofar.Sofar.seat_turn.Goals as goal

pub returns-then-not-self-i-clause-taken : goal.returns-then-not-self-i-clause-taken
returns-then-not-self-i-clause-taken c =
    let a = c.args in
    sym (not_came (seat_test a.self.now a.i a.k a.ended c.is_new.ensures) c.if-not-self-i.true)

pub returns-then-not-self-i-clause-then : goal.returns-then-not-self-i-clause-then
returns-then-not-self-i-clause-then c =
    let a = c.args in
    rw (not_came (seat_test a.self.now a.i a.k a.ended c.is_new.ensures) c.if-not-self-i.true)

pub invariant_of-self : goal.invariant_of-self
invariant_of-self c =
    let a = c.args in
    let s = a.self.now in
    let takes = not_left (seat_test s a.i a.k a.ended c.is_new.ensures) c.if-not-self-i.false in
    let new : Adds s a.i a.k a.ended = seat_adds s a.i a.k a.ended c.requires.0 c.requires.1 takes in
    let r = seat_roomy s a.i a.k a.ended takes in
    record {
      roomy = r;
      seated = rw new.one_shifted new.bits;
      in_use = rw (new.one_shifted, new.ended_shifted) new.said;
      held = set_held _ _ _ _ (omega arith) s.held;
    }

pub returns-clause-taken : goal.returns-clause-taken
returns-clause-taken c =
    let a = c.args in
    sym (not_left (seat_test a.self.now a.i a.k a.ended c.is_new.ensures) c.if-not-self-i.false)

pub returns-clause-then : goal.returns-clause-then
returns-clause-then c =
    let a = c.args in
    let s = a.self.now in
    let takes = not_left (seat_test s a.i a.k a.ended c.is_new.ensures) c.if-not-self-i.false in
    let new : Adds s a.i a.k a.ended = seat_adds s a.i a.k a.ended c.requires.0 c.requires.1 takes in
    rw (takes, new.one_shifted, new.ended_shifted)
