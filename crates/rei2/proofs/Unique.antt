-- Only one outcome meets the promise of a call on lent memory. Assumes nothing.
use Prim.Native.Nat.{ℕ}
use mathlib.Core.List.{List, []}
use mathlib.Core.Path.{◌≡◌, sym, ◌∙◌}
use Rattle.frames.specs.Kind.{Kind}
use Rattle.desk.specs.declared.state.Seat.{Seat}
use Rattle.desk.specs.Memory.{Memory}
use Rattle.rei2.specs.declared.request.WrittenAnswer.{WrittenAnswer}
use Rattle.rei2.specs.Lent.{Lent}
use Rattle.rei2.specs.Frames.{WroteLent}
use Rattle.rei2.specs.Unique.{OneOutcome}

module _ {A : Type 0} (says : A) (after : Memory) where
  lent_once : (a b : A × (List Seat × (List ℕ × (List ℕ × List (List ℕ))))) → Lent says after a.0 a.1.0 a.1.1.0 a.1.1.1.0 a.1.1.1.1 → Lent says after b.0 b.1.0 b.1.1.0 b.1.1.1.0 b.1.1.1.1 → a ≡ b
  lent_once a b h k =
      λ i. ((h.answer ∙ sym k.answer) i, ((h.seats ∙ sym k.seats) i, ((h.cells ∙ sym k.cells) i, ((h.marks ∙ sym k.marks) i, (h.tally ∙ sym k.tally) i))))

wrote_once : {R : Type 0} (k : Kind R) (x : R) (out : List ℕ) (a b : WrittenAnswer × List ℕ) → WroteLent k x out a.0 a.1 → WroteLent k x out b.0 b.1 → a ≡ b
wrote_once k x out a b h g = λ i. ((h.told ∙ sym g.told) i, (h.bytes ∙ sym g.bytes) i)

pub one_outcome : OneOutcome
one_outcome = record {
  rei2_reset = λ seats desk tally a b h k. λ i. (((h [] []).answer ∙ sym (k [] []).answer) i, (((h [] []).seats ∙ sym (k [] []).seats) i, ((h [] []).tally ∙ sym (k [] []).tally) i));
  rei2_open = λ seats desk cells marks tally frame a b h k. λ i. ((h.answer ∙ sym k.answer) i, (h.seats ∙ sym k.seats) i);
  rei2_reply = λ seats desk cells marks tally frame. lent_once _ _;
  rei2_capture = λ seats desk cells marks tally capture. lent_once _ _;
  rei2_write_request = wrote_once _;
  rei2_write_reply = λ c out a b h k. λ i. ((h.told ∙ sym k.told) i, (h.bytes ∙ sym k.bytes) i);
  rei2_write_dynamic = wrote_once _;
  rei2_list = λ cells marks capture out a b h k.
      λ i. ((h.told ∙ sym k.told) i, ((h.cells ∙ sym k.cells) i, ((h.marks ∙ sym k.marks) i, (h.bytes ∙ sym k.bytes) i)));
  rei2_refusal_name = λ name out a b h k. λ i. ((h.told ∙ sym k.told) i, (h.bytes ∙ sym k.bytes) i);
}
