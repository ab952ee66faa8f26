-- `desk::opening::open_step` meets its contract.
use mathlib.Core.List.{List}
use mathlib.Core.Path.{◌≡◌, refl, sym}
use native.Mathlib.Omega.{arith}
use Prim.Native.Nat.{ℕ}
use lib.ListN.{length, set}
use Rattle.digits.specs.Told.{gives}
use Rattle.desk.specs.Limits.{seat_count}
use Rattle.desk.specs.Memory.{Memory, memory}
use Rattle.desk.specs.Calls.{open_tried, opens}
use Rattle.desk.proofs.StepLaws.{OpensAt, opens_taken}
use Rattle.desk.proofs.OutcomeLaws.{one_changed, none_changed, not_opened_law, opening_done}
use borrow.Author.Rules.{rules}
use Rattle.desk.proofs.opening.open_step.Goals as goal

pub overflow_cast-result : goal.overflow_cast-result
overflow_cast-result c =
    let M : Memory = memory c.args.desk c.args.row c.args.cells.now c.args.marks.now c.args.tally.now in
    let F : List ℕ = c.args.frame.now in
    let opens-at : gives c.in-Ok.opening ≡ open_tried M F = rw c.in-Ok.is at c.tried.ensures in
    let known : OpensAt M c.in-Ok.opening = (opens_taken M F c.in-Ok.opening (sym opens-at)).at in
    let l = known.below in omega (arith, l)

pub opened_state-requires : goal.opened_state-requires
opened_state-requires c =
    let M : Memory = memory c.args.desk c.args.row c.args.cells.now c.args.marks.now c.args.tally.now in
    let F : List ℕ = c.args.frame.now in
    let opens-at : gives c.in-Ok.opening ≡ open_tried M F = rw c.in-Ok.is at c.tried.ensures in
    let known : OpensAt M c.in-Ok.opening = (opens_taken M F c.in-Ok.opening (sym opens-at)).at in
    (known.below, (known.facts.bits, known.clear))

pub returns-in-Ok : goal.returns-in-Ok
returns-in-Ok c =
    let M : Memory = memory c.args.desk c.args.row c.args.cells.now c.args.marks.now c.args.tally.now in
    let F : List ℕ = c.args.frame.now in
    let opens-at : gives c.in-Ok.opening ≡ open_tried M F = rw c.in-Ok.is at c.tried.ensures in
    let known : OpensAt M c.in-Ok.opening = (opens_taken M F c.in-Ok.opening (sym opens-at)).at in
    let full : length c.args.row ≡ seat_count = search rules in
    let a = c.args in
    let opening = c.in-Ok.opening in
    let state = c.opened_state.ensures in
    let did = opening_done M F opening _ opens-at (λ i. record {
      row = set a.row opening.seat (c.new_seat.ensures i);
      bits = state.0 i;
      count = state.1 i;
      cells = a.cells.now;
      marks = a.marks.now;
      tally = a.tally.now;
    }) in
    (one_changed M _ (opens M F) full opening.seat c.new_seat.result known.below refl did, did)

pub returns-in-Err : goal.returns-in-Err
returns-in-Err c =
    let M : Memory = memory c.args.desk c.args.row c.args.cells.now c.args.marks.now c.args.tally.now in
    let F : List ℕ = c.args.frame.now in
    let did = not_opened_law M F _ (rw c.in-Err.is at c.tried.ensures) in
    (none_changed M (opens M F) _ did, did)
