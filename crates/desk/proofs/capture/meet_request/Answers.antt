-- `desk::capture::meet_request` meets its contract.
use mathlib.Core.List.{List}
use mathlib.Core.Path.{◌≡◌, refl, sym, ◌∙◌}
use Prim.Native.Nat.{ℕ}
use Rattle.digits.specs.Told.{gives, refuses}
use Rattle.desk.specs.Memory.{Memory, memory}
use Rattle.desk.specs.inside.Shown.{shown}
use Rattle.desk.specs.inside.Columns.{row_of}
use Rattle.desk.specs.declared.capture.Fate.TheVariants.{Opened}
use Rattle.desk.specs.Calls.{open_tried, opens, open_refused}
use Rattle.desk.proofs.ColumnLaws.{legal_keyed}
use Rattle.desk.proofs.StepLaws.{opens_taken}
use Rattle.desk.proofs.OutcomeLaws.{opening_done, not_opened_law}
use Rattle.desk.proofs.JudgeLaws.{open_row, opened_columns}
use Rattle.desk.proofs.CaptureLaws.{met_by}
use Rattle.desk.proofs.capture.meet_request.Goals as goal

pub set_key-requires : goal.set_key-requires
set_key-requires c =
    let a = c.args in
    let w = c.requires in
    let k = a.columns.now in
    let m : Memory = memory a.desk.now (shown k) w.cells w.marks w.tally in
    let f : List ℕ = a.frame.now in
    let tried = c.judged.ensures ∙ open_row a.desk.now (shown k) k w.cells w.marks w.tally refl w.desk f in
    let o = c.in-Ok.opening in
    let given : gives o ≡ open_tried m f = rw c.in-Ok.is at tried in
    let known = (opens_taken m f o (sym given)).at in
    (known.below, (legal_keyed o.key known.legal).short)

pub opened_state-requires : goal.opened_state-requires
opened_state-requires c =
    let a = c.args in
    let w = c.requires in
    let k = a.columns.now in
    let m : Memory = memory a.desk.now (shown k) w.cells w.marks w.tally in
    let f : List ℕ = a.frame.now in
    let tried = c.judged.ensures ∙ open_row a.desk.now (shown k) k w.cells w.marks w.tally refl w.desk f in
    let o = c.in-Ok.opening in
    let given : gives o ≡ open_tried m f = rw c.in-Ok.is at tried in
    let known = (opens_taken m f o (sym given)).at in
    (known.below, (known.facts.bits, known.clear))

pub returns-in-Ok : goal.returns-in-Ok
returns-in-Ok c cells marks tally is =
    let a = c.args in
    let k = a.columns.now in
    let m : Memory = memory a.desk.now (shown k) cells marks tally in
    let f : List ℕ = a.frame.now in
    let tried = c.judged.ensures ∙ open_row a.desk.now (shown k) k cells marks tally refl is f in
    let o = c.in-Ok.opening in
    let given : gives o ≡ open_tried m f = rw c.in-Ok.is at tried in
    let known = (opens_taken m f o (sym given)).at in
    let state = c.opened_state.ensures in
    let to = c.set_key.ensures in
    let row = (λ i. row_of (to.keys i) (to.held i) (to.ended i)) ∙ opened_columns a.desk.now k.keys k.held k.ended cells marks tally k.sized is o.seat o.key known.below known.clear (legal_keyed o.key known.legal) in
    met_by m f _ _ (opens m f) Opened (gives o.seat) refl
    (opening_done m f o _ given (λ i. record { row = row i; bits = state.0 i; count = state.1 i; cells = cells; marks = marks; tally = tally }))

pub returns-in-Err : goal.returns-in-Err
returns-in-Err c cells marks tally is =
    let a = c.args in
    let k = a.columns.now in
    let m : Memory = memory a.desk.now (shown k) cells marks tally in
    let f : List ℕ = a.frame.now in
    let tried = c.judged.ensures ∙ open_row a.desk.now (shown k) k cells marks tally refl is f in
    let why = open_refused c.in-Err.field-0 in
    met_by m f _ _ (opens m f) Opened (refuses why) refl (not_opened_law m f why (rw c.in-Err.is at tried))
