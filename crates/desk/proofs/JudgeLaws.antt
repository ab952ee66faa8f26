-- On a desk, the tests of a call over columns are those over the row, and the columns that it leaves show the row that it leaves. Assumes nothing.
use Prim.Native.Nat.{ℕ, ◌-◌, ◌<◌}
use mathlib.Core.List.{List}
use mathlib.Core.Bool.{Bool, true, false}
use mathlib.Core.Path.{◌≡◌, refl, sym, ap, ◌∙◌}
use native.Mathlib.Omega.{arith}
use lib.Dec.{ltb}
use lib.ListN.{length, get_or, set, take}
use lib.Seq.{take_all}
use Rattle.digits.specs.Told.{Told, gives, refuses}
use Rattle.digits.proofs.Tests.{by-test}
use Rattle.frames.specs.Kind.{read}
use Rattle.frames.specs.Request.{request}
use Rattle.frames.specs.declared.request.StaticRequest.{StaticRequest}
use Rattle.frames.specs.declared.reply.ReplyLabel.{ReplyLabel}
use Rattle.desk.specs.declared.state.Seat.{Seat}
use Rattle.desk.specs.declared.state.Desk.{Desk}
use Rattle.desk.specs.declared.key.Key.{Key}
use Rattle.desk.specs.declared.step.Progress.{Progress}
use Rattle.desk.specs.Limits.{seat_count}
use Rattle.desk.specs.Below.{all_below}
use Rattle.desk.specs.Key.{request_key, key_in}
use Rattle.desk.specs.Hearing.{heard}
use Rattle.desk.specs.Step.{advanced}
use Rattle.desk.specs.Seats.{seat_at, used_bit, seat_with}
use Rattle.desk.specs.Memory.{Memory, memory, capacity}
use Rattle.desk.specs.Desk.{is_desk}
use Rattle.desk.specs.Calls.{what_is_given, new_seat, grown, key_tried, request_tried, open_tried, seat_tried, label_tried, reply_tried}
use Rattle.desk.specs.declared.columns.Columns.{Columns}
use Rattle.desk.specs.inside.Columns.{Sized, key_number, row_of}
use Rattle.desk.specs.inside.Shown.{shown}
use Rattle.desk.specs.inside.Clauses.{seat_good, seat_good_at}
use Rattle.desk.specs.inside.Judging.{number_tried, column_asked, step_tried, column_tried}
use Rattle.desk.proofs.Below.{all_of}
use Rattle.desk.proofs.KeyLaws.{request_legal}
use Rattle.desk.proofs.ReplayLaws.{desk_facts}
use Rattle.desk.proofs.ColumnLaws.{Keyed, legal_keyed, heard_keyed, key_number_law, seat_at_law, key_set, progress_set, unused_held, unused_ended, found}
use Rattle.desk.proofs.OutcomeLaws.{open_on, reply_on}

-- the seats of a desk are good
pub desk_good : (m : Memory) → is_desk m ≡ true → all_below seat_count (seat_good_at m.row m.bits) ≡ true
unfolding seat_good
desk_good m d =
    let f = desk_facts m d in
    all_of seat_count (seat_good_at m.row m.bits) (λ i l. by-test (used_bit m.bits i) (λ u. rw u (f.keys i l u)) (λ u. rw u (f.zeros i l u)))

module _ (d : Desk) (keys held ended cells marks : List ℕ) (tally : List (List ℕ)) (z : Sized keys held ended) (is : is_desk (memory d (row_of keys held ended) cells marks tally) ≡ true) where
  abbrev row : List Seat
  row = row_of keys held ended

  abbrev m : Memory
  m = memory d row cells marks tally

  good : all_below seat_count (seat_good_at row d.bits) ≡ true
  good = desk_good m is

  -- ---- the tests

  asked_by : (r : StaticRequest) → Keyed (request_key r) → column_asked keys d.bits r ≡ request_tried row d.bits r
  unfolding column_asked number_tried request_tried key_tried
  asked_by r k = rw (found keys held ended z d.bits good (request_key r) k)

  pub open_by_columns : (f : List ℕ) → what_is_given (read request f) (column_asked keys d.bits) ≡ open_tried m f
  open_by_columns f = go (read request f) refl ∙ open_on m f is
    where
      go : (t : Told StaticRequest) → read request f ≡ t → what_is_given t (column_asked keys d.bits) ≡ what_is_given t (request_tried row d.bits)
      go (gives r) e = asked_by r (legal_keyed (request_key r) (request_legal f r e))
      go (refuses why) e = refl

  label_by : (free : Bool) (l : ReplyLabel) → Keyed (key_in l) → column_tried keys held ended free l ≡ label_tried row d.bits free l
  unfolding column_tried label_tried step_tried seat_tried
  label_by free l k = rw (found keys held ended z d.bits good (key_in l) k, seat_at_law keys held ended z (seat_with row d.bits (key_in l)))

  pub reply_by_columns : (f : List ℕ) → what_is_given (heard f) (column_tried keys held ended (ltb d.count (capacity m))) ≡ reply_tried m f
  reply_by_columns f = go (heard f) refl ∙ reply_on m f is
    where
      go : (t : Told ReplyLabel) → heard f ≡ t → what_is_given t (column_tried keys held ended (ltb d.count (capacity m))) ≡ what_is_given t (label_tried row d.bits (ltb d.count (capacity m)))
      go (gives l) e = label_by (ltb d.count (capacity m)) l (heard_keyed f l e)
      go (refuses why) e = refl

  -- ---- what a call leaves

  -- a seat that was not in use gets a key
  pub opened_columns : (s : ℕ) (k : Key) → s < seat_count → used_bit d.bits s ≡ false → Keyed k → row_of (set keys s (key_number k)) held ended ≡ set row s (new_seat k)
  opened_columns s k l u h =
      let q = key_number_law k h.short in
      rw (key_set keys held ended z s (key_number k), unused_held keys held ended z d.bits good s l u, unused_ended keys held ended z d.bits good s l u)
      (λ i. set row s (new_seat (q i)))

  -- a seat holds one more record
  pub grown_columns : (s status : ℕ) → let p = advanced (record { held = get_or held s 0; ended = get_or ended s 0 }) status in row_of keys (set held s p.held) (set ended s p.ended) ≡ set row s (grown (seat_at row s) status)
  grown_columns s status =
      let p : Progress = advanced (record { held = get_or held s 0; ended = get_or ended s 0 }) status in
      progress_set keys held ended z s p.held p.ended ∙ ap (λ (x : Seat). set row s (grown x status)) (sym (seat_at_law keys held ended z s))

-- ---- the same for a row that the columns show

pub open_row : (d : Desk) (row : List Seat) (c : Columns) (cells marks : List ℕ) (tally : List (List ℕ)) → shown c ≡ row → is_desk (memory d row cells marks tally) ≡ true
    → (f : List ℕ) → what_is_given (read request f) (column_asked c.keys d.bits) ≡ open_tried (memory d row cells marks tally) f
open_row d row c cells marks tally e is f =
    open_by_columns d c.keys c.held c.ended cells marks tally c.sized (ap (λ (r : List Seat). is_desk (memory d r cells marks tally)) e ∙ is) f
    ∙ ap (λ (r : List Seat). open_tried (memory d r cells marks tally) f) e

pub reply_row : (d : Desk) (row : List Seat) (c : Columns) (cells marks : List ℕ) (tally : List (List ℕ)) → shown c ≡ row → is_desk (memory d row cells marks tally) ≡ true
    → (f : List ℕ) → what_is_given (heard f) (column_tried c.keys c.held c.ended (ltb d.count (capacity (memory d row cells marks tally)))) ≡ reply_tried (memory d row cells marks tally) f
reply_row d row c cells marks tally e is f =
    reply_by_columns d c.keys c.held c.ended cells marks tally c.sized (ap (λ (r : List Seat). is_desk (memory d r cells marks tally)) e ∙ is) f
    ∙ ap (λ (r : List Seat). reply_tried (memory d r cells marks tally) f) e

-- ---- a frame whose pointer and length were taken apart is the same frame

pub same_frame : (f : List ℕ) → take (length f - 0) f ≡ f
same_frame f = take_all (length f - 0) f (omega arith)
