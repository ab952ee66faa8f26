-- How the steps of the call make up its promise. Assumes nothing.
use Prim.Native.Nat.{ℕ, zero, suc, ◌+◌, ◌*◌, ◌<◌, ◌≤◌}
use mathlib.Core.List.{List, ◌++◌}
use mathlib.Core.Bool.{Bool, true, false, cond, ◌&&◌}
use mathlib.Core.Path.{◌≡◌, refl, ap, ◌∙◌}
use native.Mathlib.Omega.{arith}
use native.Mathlib.Nat.{zero-add}
use lib.ListN.{length, drop}
use lib.Seq.{sets, sets-eq}
use lib.Dec.{leb}
use borrow.Author.Tests.{le-leb, lt-leb, leb-true}
use Rattle.digits.specs.Told.{gives, refuses, tried}
use Rattle.digits.specs.Refusals.{ROOM, DESK}
use Rattle.desk.specs.declared.capture.CaptureRefusal.{CaptureRefusal}
use Rattle.desk.specs.declared.capture.CaptureRefusal.TheVariants.{Desk}
use Rattle.text.specs.Put.{most_place, place_after, Put}
use Rattle.desk.specs.Limits.{seat_count, most_cells, cell_size, store_size}
use Rattle.desk.specs.Memory.{Memory, records_of}
use Rattle.desk.specs.Capture.{TookCapture}
use Rattle.listing.specs.declared.Taken.{Taken}
use Rattle.std.specs.Prelude.{Result, Ok, Err}
use Rattle.listing.specs.declared.ListRefusal.{ListRefusal}
use Rattle.listing.specs.declared.ListRefusal.TheVariants.{Room}
use Rattle.listing.specs.Text.{too_long, rows_text}
use Rattle.listing.specs.Listing.{most_input, store, after, counts, short, list_of, seats_text, list_text, Listed}
use Rattle.listing.specs.inside.Rows.{seats_of, list_lines}
use Rattle.listing.specs.inside.Steps.{TakenAs, WroteAll}
use Rattle.listing.proofs.StoreLaws.{restored, store_desk, after_leaves, after_fits}

-- ---- a text that fits

put_all : (out text : List ℕ) (end : ℕ) (out' : List ℕ) → Put out 0 text end out' → length text ≤ length out → out' ≡ text ++ drop (length text) out
put_all out text end out' p l =
    let h : 0 + length text ≤ length out = omega arith in
    p.bytes ∙ sets-eq text out 0 h ∙ ap (λ (n : ℕ). text ++ drop n out) (zero-add (length text))

pub wrote_none : (text out : List ℕ) → length out < length text → WroteAll text out (Err Room) out
wrote_none text out l = record { told = rw (lt-leb (length text) (length out) l); bytes = rw (lt-leb (length text) (length out) l) }

pub wrote_all : (text out : List ℕ) (end : ℕ) (out' : List ℕ) → length out < most_place → length text ≤ length out → Put out 0 text end out' → WroteAll text out (Ok end) out'
wrote_all text out end out' r l p =
    let n : end ≡ length text = omega (arith, p.next) in
    record { told = rw (le-leb (length text) (length out) l, n); bytes = rw (le-leb (length text) (length out) l) (put_all out text end out' p l) }

-- ---- a capture, taken

module _ (cells marks s : List ℕ) (m : Memory) where
  pub taken_as : (t : Taken) → TookCapture (store cells marks) s (Ok t.counts) m → t.count ≡ m.count → TakenAs cells marks s t m.cells m.marks
  taken_as t k e =
      let d = store_desk cells marks s in
      let a : gives t.counts ≡ gives (counts cells marks s) = rw d at k.told in
      let f : t.counts ≡ counts cells marks s = cc in
      let b : m ≡ after cells marks s = rw d at k.memory in
      record { count = e ∙ ap (λ (x : Memory). x.count) b; four = f; kept_cells = ap (λ (x : Memory). x.cells) b; kept_marks = ap (λ (x : Memory). x.marks) b }

  pub never_no_desk : {A : Type 0} (f : CaptureRefusal) → TookCapture (store cells marks) s (Err f) m → A
  never_no_desk Desk k =
      let d = store_desk cells marks s in
      let a : refuses DESK ≡ gives (counts cells marks s) = rw d at k.told in
      let z : ◌≡◌ {A = ℕ} 0 1 = cc in absurd (omega arith)

module _ (cells marks s : List ℕ) (t : Taken) (cells' marks' : List ℕ) (k : TakenAs cells marks s t cells' marks') where
  -- the cells and marks that are held exist
  pub taken_fits : (t.count ≤ length marks') × (t.count * cell_size ≤ length cells')
  taken_fits =
      let f = after_fits cells marks s in
      (rw (k.count, k.kept_marks) f.marked, rw (k.count, k.kept_cells) f.celled)

  pub cells_back : (zeros old back : List ℕ) → length zeros ≡ store_size → old ≡ sets zeros 0 cells → back ≡ sets cells' 0 old → back ≡ cells
  cells_back zeros old back z o b =
      let f = after_leaves cells marks s in
      restored store_size cells cells' zeros old back z (rw k.kept_cells f.cells) (rw k.kept_cells f.cells_after_holds) o b

  pub marks_back : (zeros old back : List ℕ) → length zeros ≡ most_cells → old ≡ sets zeros 0 marks → back ≡ sets marks' 0 old → back ≡ marks
  marks_back zeros old back z o b =
      let f = after_leaves cells marks s in
      restored most_cells marks marks' zeros old back z (rw k.kept_marks f.marks) (rw k.kept_marks f.marks_after_law) o b

-- ---- the list

pub seats_are : (m : Memory) (n : ℕ) → seats_text m n ≡ seats_of m.cells m.marks m.count n
unfolding seats_text seats_of
seats_are m zero = refl
seats_are m (suc n) = ap (λ (l : List ℕ). l ++ rows_text n (records_of m.cells m.marks n m.count)) (seats_are m n)

module _ (cells marks s : List ℕ) (l : length s ≤ most_input) where
  is_short : short cells marks s ≡ true
  is_short = le-leb (length s) most_input l

  lines_are : (t : Taken) (cells' marks' : List ℕ) → TakenAs cells marks s t cells' marks' → list_lines cells' marks' t ≡ list_of cells marks s
  unfolding list_of list_text
  lines_are t cells' marks' k =
      rw (is_short, k.count, k.four, k.kept_cells, k.kept_marks, seats_are (after cells marks s) seat_count)

  pub listed_room : (out : List ℕ) (t : Taken) (cells' marks' : List ℕ) (end : ℕ) (scratch scratch' : List ℕ) (back-cells back-marks : List ℕ) → TakenAs cells marks s t cells' marks'
      → Put scratch 0 (list_lines cells' marks' t) end scratch' → length out < end → back-cells ≡ cells → back-marks ≡ marks → Listed cells marks s out (Err Room) back-cells back-marks out
  listed_room out t cells' marks' end scratch scratch' back-cells back-marks k p h ec em =
      let e = lines_are t cells' marks' k in
      let n : end ≡ place_after 0 (length (list_of cells marks s)) = p.next ∙ ap (λ (x : List ℕ). place_after 0 (length x)) e in
      let b = lt-leb (length (list_of cells marks s)) (length out) (omega (arith, n)) in
      record { told = rw b; bytes = rw b; cells = rw b ec; marks = rw b em }

  pub listed_written : (out : List ℕ) (t : Taken) (cells' marks' : List ℕ) (end : ℕ) (scratch scratch' : List ℕ) (last : ℕ) (out' : List ℕ) → length out < most_place → TakenAs cells marks s t cells' marks'
      → Put scratch 0 (list_lines cells' marks' t) end scratch' → end ≤ length out → Put out 0 (list_lines cells' marks' t) last out' → Listed cells marks s out (Ok end) cells' marks' out'
  listed_written out t cells' marks' end scratch scratch' last out' r k p h q =
      let e = lines_are t cells' marks' k in
      let m : end ≡ place_after 0 (length (list_of cells marks s)) = p.next ∙ ap (λ (x : List ℕ). place_after 0 (length x)) e in
      let n : end ≡ length (list_of cells marks s) = omega (arith, m, r, h) in
      let b = le-leb (length (list_of cells marks s)) (length out) (omega (arith, n)) in
      let f : Put out 0 (list_of cells marks s) last out' = rw e at q in
      record {
        told = rw (b, n);
        bytes = rw b (put_all out (list_of cells marks s) last out' f (omega (arith, n)));
        cells = rw (b, is_short) k.kept_cells;
        marks = rw (b, is_short) k.kept_marks;
      }

neither : (x y : List ℕ) (t : Bool) → y ≡ cond (t && false) x y
neither x y true = refl
neither x y false = refl

pub listed_long : (cells marks s out : List ℕ) (a : Result ℕ ListRefusal) (out' : List ℕ) → most_input < length s → WroteAll too_long out a out' → Listed cells marks s out a cells marks out'
unfolding list_of
listed_long cells marks s out a out' l w =
    let b = lt-leb (length s) most_input l in
    record {
      told = rw b w.told;
      bytes = rw b w.bytes;
      cells = rw b (neither (after cells marks s).cells cells (leb (length too_long) (length out)));
      marks = rw b (neither (after cells marks s).marks marks (leb (length too_long) (length out)));
    }

-- ---- what a caller uses

given_is : (b : Bool) (n m : ℕ) → gives n ≡ tried b ROOM (gives m) → (b ≡ true) × (n ≡ m)
given_is true n m e = (refl, let h : n ≡ m = cc in h)
given_is false n m e = absurd (let z : ◌≡◌ {A = ℕ} 0 1 = cc in omega arith)

-- a list that was written is no longer than the output
pub written_fits : (cells marks s out : List ℕ) (n : ℕ) (cells' marks' out' : List ℕ) → Listed cells marks s out (Ok n) cells' marks' out' → n ≤ length out
written_fits cells marks s out n cells' marks' out' l =
    let g = given_is (leb (length (list_of cells marks s)) (length out)) n (length (list_of cells marks s)) l.told in
    let h = leb-true (length (list_of cells marks s)) (length out) g.0 in
    omega (arith, g.1, h)
