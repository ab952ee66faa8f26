-- A cell that is written holds the frame, and the cells before and after it stay as they were. Assumes nothing.
use Prim.Native.Nat.{ℕ, ◌+◌, ◌-◌, ◌<◌, ◌≤◌}
use mathlib.Core.List.{List, ◌++◌, append_assoc}
use mathlib.Core.Path.{◌≡◌, sym, ap, ◌∙◌}
use native.Mathlib.Omega.{arith}
use native.Mathlib.Nat.{add-zero}
use lib.ListN.{length, get_or, take, drop, length-append, length-drop, take-append-drop, get_or-append}
use lib.Seq.{sets, sets-eq, take-append-le, drop-append-le, take_at, drop_at, drop-drop, length-take-le, get_or-take, get_or-drop}
use Rattle.desk.specs.Limits.{cell_size}
use Rattle.desk.specs.Calls.{with_cell}

-- a frame stored byte by byte
pub with_cell_law : (cells : List ℕ) (at : ℕ) (f : List ℕ) → at + cell_size ≤ length cells → length f ≡ cell_size → sets cells at f ≡ with_cell cells at f
with_cell_law cells at f room full =
    let h : at + length f ≤ length cells = rw full room in
    sets-eq f cells at h ∙ ap (λ (n : ℕ). take at cells ++ f ++ drop (at + n) cells) full

front : (a r : List ℕ) (k : ℕ) → k + cell_size ≤ length a → take cell_size (drop k (a ++ r)) ≡ take cell_size (drop k a)
front a r k h =
    let l : k ≤ length a = omega arith in
    let n : cell_size ≤ length (drop k a) = simp length-drop (omega arith) in
    ap (take cell_size) (drop-append-le k a r l) ∙ take-append-le cell_size (drop k a) r n

module _ (d : List ℕ) (at : ℕ) (f : List ℕ) (room : at + cell_size ≤ length d) (full : length f ≡ cell_size) where
  head_length : length (take at d) ≡ at
  head_length = length-take-le at d (omega arith)

  pub cell_before : (k : ℕ) → k + cell_size ≤ at → take cell_size (drop k (with_cell d at f)) ≡ take cell_size (drop k d)
  cell_before k h =
      let e = head_length in
      let a : k + cell_size ≤ length (take at d) = omega arith in
      let b : k + cell_size ≤ length (take at d ++ f) = simp length-append (omega arith) in
      front (take at d ++ f) (drop (at + cell_size) d) k b
      ∙ front (take at d) f k a
      ∙ sym (front (take at d) (drop at d) k a)
      ∙ ap (λ (l : List ℕ). take cell_size (drop k l)) (take-append-drop at d)

  pub cell_new : take cell_size (drop at (with_cell d at f)) ≡ f
  cell_new =
      ap (λ (l : List ℕ). take cell_size (drop at l)) (append_assoc (take at d) f (drop (at + cell_size) d))
      ∙ ap (take cell_size) (drop_at (take at d) (f ++ drop (at + cell_size) d) at head_length)
      ∙ take_at f (drop (at + cell_size) d) cell_size full

  pub length_with : length (with_cell d at f) ≡ length d
  length_with =
      let e = head_length in
      let a = length-append (take at d ++ f) (drop (at + cell_size) d) in
      let b = length-append (take at d) f in
      let c = length-drop (at + cell_size) d in
      omega arith

  pub drop_with : (n : ℕ) → at + cell_size ≤ n → drop n (with_cell d at f) ≡ drop n d
  drop_with n l =
      let e = head_length in
      let a : length (take at d ++ f) ≡ at + cell_size = length-append (take at d) f ∙ omega (arith, e, full) in
      let more = n - (at + cell_size) in
      let k : at + cell_size + more ≡ n = omega arith in
      let x : drop (at + cell_size) (with_cell d at f) ≡ drop (at + cell_size) d = drop_at (take at d ++ f) (drop (at + cell_size) d) (at + cell_size) a in
      rw k at (sym (drop-drop more (at + cell_size) (with_cell d at f)) ∙ ap (drop more) x ∙ drop-drop more (at + cell_size) d)

  pub before_with : (j : ℕ) → j < at → get_or (with_cell d at f) j 0 ≡ get_or d j 0
  before_with j l =
      let e = head_length in
      let a : j < length (take at d ++ f) = simp length-append (omega arith) in
      get_or-append (take at d ++ f) (drop (at + cell_size) d) 0 j a ∙ get_or-append (take at d) f 0 j (omega arith) ∙ get_or-take at d j 0 l

  pub after_with : (j : ℕ) → at + cell_size ≤ j → get_or (with_cell d at f) j 0 ≡ get_or d j 0
  after_with j l =
      let first : (x : List ℕ) → get_or (drop j x) 0 0 ≡ get_or x j 0 = λ x. get_or-drop j x 0 0 ∙ ap (λ (i : ℕ). get_or x i 0) (add-zero j) in
      sym (first (with_cell d at f)) ∙ ap (λ (x : List ℕ). get_or x 0 0) (drop_with j l) ∙ first d
