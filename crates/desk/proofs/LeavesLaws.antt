-- What a capture leaves unchanged in the lent memory. Assumes nothing.
use Prim.Native.Nat.{ℕ, ◌*◌}
use mathlib.Core.List.{List, [], ◌∷◌}
use mathlib.Core.Bool.{true}
use mathlib.Core.Path.{◌≡◌, refl, ap, ◌∙◌}
use native.Mathlib.Omega.{arith}
use lib.ListN.{length, drop}
use lib.Seq.{drop-set-lt}
use Rattle.finder.specs.Pieces.{Piece, whole, cut}
use Rattle.desk.specs.Limits.{most_cells, cell_size, store_size}
use Rattle.desk.specs.Memory.{Memory}
use Rattle.desk.specs.Desk.{is_desk}
use Rattle.desk.specs.Calls.{Outcome, opens, replies}
use Rattle.desk.specs.Capture.{Step, meets, meets_piece, after_all}
use Rattle.desk.proofs.WrittenLaws.{drop_with}
use Rattle.desk.proofs.StepLaws.{took_room, by_reply}
use Rattle.desk.proofs.KeepsLaws.{keeps_memory}
use Rattle.desk.proofs.CaptureLaws.{by_lead, meets_desk}

-- the lengths, and everything after the cells and marks that a desk can use
pub record Leaves (m x : Memory) : Type 0 where
  pub cells : length x.cells ≡ length m.cells
  pub marks : length x.marks ≡ length m.marks
  pub cells_after_holds : drop store_size x.cells ≡ drop store_size m.cells
  pub marks_after_law : drop most_cells x.marks ≡ drop most_cells m.marks

same : (m : Memory) → Leaves m m
same m = record { cells = refl; marks = refl; cells_after_holds = refl; marks_after_law = refl }

reply_leaves : (m : Memory) (f : List ℕ) → Leaves m (replies m f).after
reply_leaves m f =
    let s = keeps_memory.reply_sizes m f in
    let after = by_reply m f (λ (o : Outcome). (drop store_size o.after.cells ≡ drop store_size m.cells) × (drop most_cells o.after.marks ≡ drop most_cells m.marks))
    (λ t k. let r = took_room m f t k in (drop_with m.cells (m.count * cell_size) f r.cells r.frame store_size (omega (arith, r.count)), drop-set-lt most_cells m.marks m.count t.seat r.count))
    (λ why. (refl, refl)) in
    record { cells = s.0; marks = s.1; cells_after_holds = after.0; marks_after_law = after.1 }

open_leaves : (m : Memory) (f : List ℕ) → Leaves m (opens m f).after
open_leaves m f =
    let c = keeps_memory.opening_cells m f in
    let k = keeps_memory.opening_marks m f in
    record { cells = ap length c; marks = ap length k; cells_after_holds = ap (drop store_size) c; marks_after_law = ap (drop most_cells) k }

meets_leaves : (m : Memory) (f : List ℕ) → Leaves m (meets m f).after
meets_leaves m f = by_lead (λ (x : Step). Leaves m x.after) m f (open_leaves m f) (reply_leaves m f) (same m)

piece_leaves : (m : Memory) (p : Piece) → Leaves m (meets_piece m p).after
piece_leaves m (whole a f) = meets_leaves m f
piece_leaves m (cut a f) = same m

piece_desk : (m : Memory) (p : Piece) → is_desk m ≡ true → is_desk (meets_piece m p).after ≡ true
piece_desk m (whole a f) d = meets_desk m f d
piece_desk m (cut a f) d = d

pub all_leaves : (m : Memory) (ps : List Piece) → Leaves m (after_all m ps)
unfolding after_all
all_leaves m [] = same m
all_leaves m (p ∷ ps) =
    let a = piece_leaves m p in
    let b = all_leaves (meets_piece m p).after ps in
    record { cells = b.cells ∙ a.cells; marks = b.marks ∙ a.marks; cells_after_holds = b.cells_after_holds ∙ a.cells_after_holds; marks_after_law = b.marks_after_law ∙ a.marks_after_law }

pub all_desk : (m : Memory) (ps : List Piece) → is_desk m ≡ true → is_desk (after_all m ps) ≡ true
unfolding after_all
all_desk m [] d = d
all_desk m (p ∷ ps) d = all_desk (meets_piece m p).after ps (piece_desk m p d)
