-- What is demanded of reading and writing a kind of frame: three statements. `Whole` is to say that a record's arrays have their lengths.
use Rattle.std.specs.Prelude.{ℕ, ◌≤◌, List, ◌++◌, ◌↔◌, ◌≡◌, length, take, drop}
use Rattle.digits.specs.declared.refusal.Refusal.{Refusal}
use Rattle.digits.specs.Told.{gives, refuses}
use Rattle.frames.specs.Kind.{Kind, read, wrong_in, frame_of, write_tried, output_after}

-- the output after writing r to out
abbrev pub output_of : {R : Type 0} → Kind R → R → List ℕ → List ℕ
output_of k r out = output_after (write_tried (wrong_in k r) k.size (length out)) (frame_of k r) k.size out

pub record Faithful {R : Type 0} (k : Kind R) (Whole : R → Type 0) : Type 0 where
  -- a well formed record, written to an output with enough room, reads back as itself
  pub reads_back : (r : R) → Whole r → wrong_in k r ≡ 0 → (out : List ℕ) → k.size ≤ length out
      → (write_tried (wrong_in k r) k.size (length out) ≡ gives tt) × (read k (take k.size (output_of k r out)) ≡ gives r)
  -- an accepted frame, written again, gives its own bytes
  pub writes_again : (s : List ℕ) (r : R) → read k s ≡ gives r → (out : List ℕ) → k.size ≤ length out
      → (write_tried (wrong_in k r) k.size (length out) ≡ gives tt) × (output_of k r out ≡ s ++ drop k.size out)
  -- a frame is refused exactly if no well formed record writes it
  pub refused_exactly : (s : List ℕ)
      → ((f : Refusal) × (read k s ≡ refuses f)) ↔ ((r : R) → Whole r → wrong_in k r ≡ 0 → frame_of k r ≡ s → ⊥)
