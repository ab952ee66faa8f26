-- A capture adds a held cell for each reply that it collects, and a used seat for each request that it opens. Assumes nothing.
use Prim.Native.Nat.{ℕ, suc, ◌+◌}
use mathlib.Core.List.{List, [], ◌∷◌}
use mathlib.Core.Bool.{Bool, true, false, cond}
use mathlib.Core.Path.{◌≡◌, refl, ◌∙◌}
use native.Mathlib.Omega.{arith}
use Rattle.digits.specs.Told.{Told, gives, refuses}
use Rattle.frames.specs.Kind.{read}
use Rattle.frames.specs.Dynamic.{dynamic}
use Rattle.frames.specs.declared.dynamic.DynamicRequest.{DynamicRequest}
use Rattle.finder.specs.Pieces.{Piece, whole, cut}
use Rattle.desk.specs.declared.opening.Opening.{Opening}
use Rattle.desk.specs.declared.capture.Fate.{Fate}
use Rattle.desk.specs.declared.capture.Fate.TheVariants.{Opened, Collected}
use Rattle.desk.specs.Seats.{used_bit}
use Rattle.desk.specs.Memory.{Memory}
use Rattle.desk.specs.Calls.{Outcome, opened, seats_in_use}
use Rattle.desk.specs.Capture.{fate_by, dynamic_fate, Step, meets, meets_piece, fates, after_all, is_opened, is_collected, how_many}
use Rattle.desk.proofs.Below.{count_turned}
use Rattle.desk.proofs.CaptureLaws.{by_lead}
use Rattle.desk.proofs.StepLaws.{OpensAt, by_reply, by_opening}
use Rattle.desk.proofs.DeskLaws.{opened_bit, other_bit}

-- ---- a number that grows by one with each frame of a certain fate

module _ (size : Memory → ℕ) (test : Fate → Bool) (one : (m : Memory) (p : Piece) → size (meets_piece m p).after ≡ size m + cond (test (meets_piece m p).fate) 1 0) where
  more : (b : Bool) (n h : ℕ) → n + cond b 1 0 + h ≡ n + cond b (suc h) h
  more true n h = omega arith
  more false n h = omega arith

  grows : (m : Memory) (ps : List Piece) → size (after_all m ps) ≡ size m + how_many test (fates m ps)
  unfolding after_all fates how_many
  grows m [] = omega arith
  grows m (p ∷ ps) =
      let after = (meets_piece m p).after in
      let h = how_many test (fates after ps) in
      let b = test (meets_piece m p).fate in
      let x = grows after ps in
      let y = one m p in
      let z = more b (size m) h in
      x ∙ (let w : size after + h ≡ size m + cond b 1 0 + h = omega (arith, y) in w) ∙ z

-- ---- one more cell for each reply that is collected

dynamic_cells : (m : Memory) (t : Told DynamicRequest) → m.count ≡ m.count + cond (is_collected (dynamic_fate t)) 1 0
dynamic_cells m (gives r) = omega arith
dynamic_cells m (refuses why) = omega arith

meets_cells : (m : Memory) (f : List ℕ) → (meets m f).after.count ≡ m.count + cond (is_collected (meets m f).fate) 1 0
meets_cells m f =
    by_lead (λ (x : Step). x.after.count ≡ m.count + cond (is_collected x.fate) 1 0) m f
    (by_opening m f (λ (o : Outcome). o.after.count ≡ m.count + cond (is_collected (fate_by Opened o.answer)) 1 0) (λ o k. omega arith) (λ why. omega arith))
    (by_reply m f (λ (o : Outcome). o.after.count ≡ m.count + cond (is_collected (fate_by Collected o.answer)) 1 0) (λ t k. refl) (λ why. omega arith))
    (dynamic_cells m (read dynamic f))

piece_cells : (m : Memory) (p : Piece) → (meets_piece m p).after.count ≡ m.count + cond (is_collected (meets_piece m p).fate) 1 0
piece_cells m (whole a f) = meets_cells m f
piece_cells m (cut a f) = omega arith

-- all frames
pub all_cells : (m : Memory) (ps : List Piece) → (after_all m ps).count ≡ m.count + how_many is_collected (fates m ps)
all_cells = grows (λ (m : Memory). m.count) is_collected piece_cells

-- ---- one more seat for each request that is opened

more_seats : (m : Memory) (o : Opening) → OpensAt m o → seats_in_use (opened m o).bits ≡ seats_in_use m.bits + 1
unfolding seats_in_use
more_seats m o k =
    let l = k.below in
    count_turned 64 o.seat (used_bit m.bits) (used_bit (opened m o).bits) (omega (arith, l)) k.clear (opened_bit m o k) (λ i n. other_bit m o k i n)

dynamic_seats : (m : Memory) (t : Told DynamicRequest) → seats_in_use m.bits ≡ seats_in_use m.bits + cond (is_opened (dynamic_fate t)) 1 0
dynamic_seats m (gives r) = omega arith
dynamic_seats m (refuses why) = omega arith

meets_seats : (m : Memory) (f : List ℕ) → seats_in_use (meets m f).after.bits ≡ seats_in_use m.bits + cond (is_opened (meets m f).fate) 1 0
meets_seats m f =
    by_lead (λ (x : Step). seats_in_use x.after.bits ≡ seats_in_use m.bits + cond (is_opened x.fate) 1 0) m f
    (by_opening m f (λ (o : Outcome). seats_in_use o.after.bits ≡ seats_in_use m.bits + cond (is_opened (fate_by Opened o.answer)) 1 0) (λ o k. more_seats m o k.at) (λ why. omega arith))
    (by_reply m f (λ (o : Outcome). seats_in_use o.after.bits ≡ seats_in_use m.bits + cond (is_opened (fate_by Collected o.answer)) 1 0) (λ t k. omega arith) (λ why. omega arith))
    (dynamic_seats m (read dynamic f))

piece_seats : (m : Memory) (p : Piece) → seats_in_use (meets_piece m p).after.bits ≡ seats_in_use m.bits + cond (is_opened (meets_piece m p).fate) 1 0
piece_seats m (whole a f) = meets_seats m f
piece_seats m (cut a f) = omega arith

pub all_seats_case : (m : Memory) (ps : List Piece) → seats_in_use (after_all m ps).bits ≡ seats_in_use m.bits + how_many is_opened (fates m ps)
all_seats_case = grows (λ (m : Memory). seats_in_use m.bits) is_opened piece_seats
