-- What a call leaves as it was.
use Rattle.std.specs.Prelude.{ℕ, ◌+◌, ◌*◌, ◌<◌, ◌≤◌, List, ◌≡◌, length, get_or}
use Rattle.digits.specs.declared.refusal.Refusal.{Refusal}
use Rattle.digits.specs.Told.{gives, refuses}
use Rattle.desk.specs.Limits.{cell_size}
use Rattle.desk.specs.Seats.{seat_at, used_bit}
use Rattle.desk.specs.Memory.{Memory, mark_at, held_by}
use Rattle.desk.specs.Calls.{resets, opens, replies}
use Rattle.desk.specs.Capture.{captures}

-- a refused call changes nothing
pub record RefusedKeeps : Type 0 where
  pub reset : (m : Memory) (why : Refusal) → (resets m).answer ≡ refuses why → (resets m).after ≡ m
  pub opening : (m : Memory) (f : List ℕ) (why : Refusal) → (opens m f).answer ≡ refuses why → (opens m f).after ≡ m
  pub reply : (m : Memory) (f : List ℕ) (why : Refusal) → (replies m f).answer ≡ refuses why → (replies m f).after ≡ m
  pub capture : (m : Memory) (s : List ℕ) (why : Refusal) → (captures m s).answer ≡ refuses why → (captures m s).after ≡ m

-- seat i is as before: its five numbers, whether it is in use, and the records it holds
pub record SameSeat (m after : Memory) (i : ℕ) : Type 0 where
  pub seat : seat_at after.row i ≡ seat_at m.row i
  pub used : used_bit after.bits i ≡ used_bit m.bits i
  pub held : held_by after i ≡ held_by m i

-- a call that is taken changes only its own seat; an opening leaves count, cells and marks; a reply changes at most the next cell and its mark
pub record KeepsMemory : Type 0 where
  pub opening_others : (m : Memory) (f : List ℕ) (s : ℕ) → (opens m f).answer ≡ gives s → (i : ℕ) → (i ≡ s → ⊥) → SameSeat m (opens m f).after i
  pub reply_others : (m : Memory) (f : List ℕ) (s : ℕ) → (replies m f).answer ≡ gives s → (i : ℕ) → (i ≡ s → ⊥) → SameSeat m (replies m f).after i
  pub opening_count : (m : Memory) (f : List ℕ) → (opens m f).after.count ≡ m.count
  pub opening_cells : (m : Memory) (f : List ℕ) → (opens m f).after.cells ≡ m.cells
  pub opening_marks : (m : Memory) (f : List ℕ) → (opens m f).after.marks ≡ m.marks
  pub reply_bits : (m : Memory) (f : List ℕ) → (replies m f).after.bits ≡ m.bits
  pub reply_sizes : (m : Memory) (f : List ℕ) → (length (replies m f).after.cells ≡ length m.cells) × (length (replies m f).after.marks ≡ length m.marks)
  pub cells_before : (m : Memory) (f : List ℕ) (j : ℕ) → j < m.count * cell_size → get_or (replies m f).after.cells j 0 ≡ get_or m.cells j 0
  pub cells_after_holds : (m : Memory) (f : List ℕ) (j : ℕ) → m.count * cell_size + cell_size ≤ j → get_or (replies m f).after.cells j 0 ≡ get_or m.cells j 0
  pub other_marks : (m : Memory) (f : List ℕ) (j : ℕ) → (j ≡ m.count → ⊥) → mark_at (replies m f).after.marks j ≡ mark_at m.marks j
