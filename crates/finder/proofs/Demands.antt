-- What is demanded of cutting a capture into frames. Assumes nothing.
use Prim.Native.Nat.{ℕ, suc, ◌+◌}
use mathlib.Core.List.{List, [], ◌∷◌, ◌++◌, append_assoc}
use mathlib.Core.Bool.{true, false, not, false≢true, and-eq-true_iff}
use mathlib.Core.Path.{◌≡◌, refl, sym, ap, subst, ◌∙◌}
use native.Mathlib.Omega.{arith}
use native.Mathlib.Nat.{zero-add, add-zero}
use lib.Dec.{eqb}
use borrow.Author.Tests.{not-true}
use lib.ListN.{length, drop, length-append}
use lib.Seq.{drop-drop, drop-append_seam}
use Rattle.digits.specs.Text.{one_of}
use Rattle.frames.specs.Kind.{CR}
use Rattle.finder.specs.Leads.{is_lead}
use Rattle.finder.specs.Pieces.{Piece, whole, cut, outside, inside, walk, pieces_from, pieces, first_of, found_from}
use Rattle.finder.specs.Demands.{every, is_inner, is_open, InOrder, FramesAreLeads, CRIsNoLead, PiecesAreRight, Disjoint, Run, over, tells_whole, tells_cut, CallsTellPieces, FoundWhole}
use Rattle.finder.proofs.Walk.{frames_leads, pieces_right, GoesOn, goes_on, pieces_ordered, fits}
use Rattle.finder.proofs.Step.{first_bytes}

pub frames_are_leads : FramesAreLeads
unfolding pieces_from
frames_are_leads s = frames_leads 0 s

pub pieces_are_right : PiecesAreRight
pieces_are_right s = pieces_right s 0

in_order : (s : List ℕ) → InOrder 0 (pieces s) (length s)
in_order s = rw (← zero-add (length s)) (pieces_ordered s 0)

pub disjoint : Disjoint
disjoint = record { in_order = in_order; no_longer = λ s. let k = fits 0 (length s) (pieces s) (in_order s) in omega arith }

-- ---- calls, one after the other

module _ (s : List ℕ) where
  answer : (ps : List Piece) (at : ℕ) → pieces_from s at ≡ ps → found_from s at ≡ first_of ps
  unfolding found_from
  answer ps at e = ap first_of e

  run : (ps : List Piece) (at : ℕ) → pieces_from s at ≡ ps → Run s at ps
  run [] at e = over (answer [] at e)
  run (whole a f ∷ ps) at e =
      rw (← first_bytes s at (whole a f) ps e) (tells_whole (answer (whole a f ∷ ps) at e) (run ps (a + length f) (sym (subst (GoesOn s) e (goes_on s at)))))
  run (cut a f ∷ ps) at e =
      rw (← first_bytes s at (cut a f) ps e) (tells_cut (answer (cut a f ∷ ps) at e) (run ps (a + length f) (sym (subst (GoesOn s) e (goes_on s at)))))

pub calls_tell_pieces : CallsTellPieces
calls_tell_pieces s at = run s (pieces_from s at) at refl

-- ---- a frame that nothing cuts

-- the only fact about the list of lead bytes that is needed
pub cr_is_no_lead : CRIsNoLead
unfolding is_lead one_of
cr_is_no_lead = refl

inner : (b : ℕ) → is_inner b ≡ true → (is_lead b ≡ false) × (eqb b CR ≡ false)
unfolding is_inner
inner b h = let k = (and-eq-true_iff (not (is_lead b)) (not (eqb b CR))).0 h in (not-true (is_lead b) k.0, not-true (eqb b CR) k.1)

run_to_CR : (a : ℕ) (g : List ℕ) (n : ℕ) (ys rest : List ℕ) → every is_inner ys ≡ true
    → walk (inside a g) n (ys ++ (CR ∷ rest)) ≡ whole a (g ++ (ys ++ (CR ∷ []))) ∷ walk outside (suc (n + length ys)) rest
unfolding walk
run_to_CR a g n [] rest h = rw (cr_is_no_lead, add-zero n)
run_to_CR a g n (y ∷ ys) rest h =
    let k = (and-eq-true_iff (is_inner y) (every is_inner ys)).0 h in
    let i = inner y k.0 in
    let m : suc n + length ys ≡ n + suc (length ys) = omega arith in
    rw (i.0, i.1) (run_to_CR a (g ++ (y ∷ [])) (suc n) ys rest k.1 ∙ rw (append_assoc g (y ∷ []) (ys ++ (CR ∷ [])), m))

found_first : (f rest : List ℕ) (n : ℕ) → is_open f ≡ true
    → walk outside n (f ++ (CR ∷ []) ++ rest) ≡ whole n (f ++ (CR ∷ [])) ∷ walk outside (n + length (f ++ (CR ∷ []))) rest
unfolding walk is_open
found_first [] rest n h = absurd (false≢true h)
found_first (x ∷ ys) rest n h =
    let k = (and-eq-true_iff (is_lead x) (every is_inner ys)).0 h in
    let m : suc (suc n + length ys) ≡ n + suc (length (ys ++ (CR ∷ []))) = rw (length-append ys (CR ∷ [])) (omega arith) in
    rw (k.0, append_assoc ys (CR ∷ []) rest) (run_to_CR n (x ∷ []) (suc n) ys rest k.1 ∙ rw m)

pub found_whole : FoundWhole
unfolding pieces_from
found_whole s f rest at h e =
    let d : drop (at + length (f ++ (CR ∷ []))) s ≡ rest =
    sym (drop-drop (length (f ++ (CR ∷ []))) at s) ∙ rw (e, drop-append_seam (f ++ (CR ∷ [])) rest) in
    rw (d, e) (found_first f rest at h)
