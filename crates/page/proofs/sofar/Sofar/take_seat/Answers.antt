-- `page::sofar::Sofar::take_seat` meets its contract.
use Rattle.std.proofs.Common.{◌≡◌, ℕ, ◌≤◌, Bool, true, ◌&&◌, leb, sym, refl, ap, leb-true}
use Rattle.digits.proofs.Tests.{and_l, and_r}
use Rattle.desk.specs.Key.{is_key}
use Rattle.desk.specs.declared.key.Key.{Key}
use Rattle.desk.proofs.Below.{not_came, not_left}
use Rattle.page.specs.inside.Tokens.{value_of}
use Rattle.page.proofs.TakeLaws.{seat_unnamed, key_narrow, seat_unfit, seat_unlike, seat_like}
use Rattle.page.proofs.sofar.Sofar.take_seat.Goals as goal

-- a test of a key, and of what is said of its end
tested : {x y : Bool} (ended : ℕ) → x ≡ y → x && leb ended 1 ≡ y && leb ended 1
tested ended e = ap (λ (x : Bool). x && leb ended 1) e

ended_few : (k : Key) (ended : ℕ) → is_key k && leb ended 1 ≡ true → ended ≤ 1
ended_few k ended p = leb-true ended 1 (and_r (is_key k) (leb ended 1) p)

pub returns-in_default : goal.returns-in_default
returns-in_default c = seat_unnamed _ _ c.requires _ _ _ (ap value_of c.in_default.ensures.named) refl refl (sym c.in_default.ensures.named)

pub returns-then-not-is_key-ended : goal.returns-then-not-is_key-ended
returns-then-not-is_key-ended c =
    seat_unfit c.args.self.now c.args.line.now c.requires _ _ _ (ap value_of c.in-Some.ensures.named) c.key_shown-k.ensures c.digit_value-ended.ensures
    (not_came (tested _ c.is_key.ensures) c.if-not-is_key-ended.true)

pub is_written-requires : goal.is_written-requires
is_written-requires c =
    let k = c.key_shown-k.result in
    let p = not_left (tested _ c.is_key.ensures) c.if-not-is_key-ended.false in
    (c.in-Some.ensures.within, (key_narrow k (and_l (is_key k) _ p), ended_few k _ p))

pub returns-then-not-is_written : goal.returns-then-not-is_written
returns-then-not-is_written c =
    seat_unlike c.args.self.now c.args.line.now c.requires _ _ _ (ap value_of c.in-Some.ensures.named) c.key_shown-k.ensures c.digit_value-ended.ensures
    (not_came c.is_written.ensures c.if-not-is_written.true)

pub seat_turn-requires : goal.seat_turn-requires
seat_turn-requires c = (c.in-Some.ensures.within, ended_few c.key_shown-k.result _ (not_left (tested _ c.is_key.ensures) c.if-not-is_key-ended.false))

pub returns : goal.returns
returns c =
    seat_like c.args.self.now c.args.line.now c.requires _ _ _ (ap value_of c.in-Some.ensures.named) c.key_shown-k.ensures c.digit_value-ended.ensures
    c.in-Some.ensures.within (not_left (tested _ c.is_key.ensures) c.if-not-is_key-ended.false) (not_left c.is_written.ensures c.if-not-is_written.false)
    c.seat_turn.ensures.taken c.seat_turn.ensures.then
