-- Laws of texts put one after the other. Assumes nothing.
use Prim.Native.Nat.{ℕ, ◌+◌, ◌≤◌}
use mathlib.Core.List.{List, [], ◌∷◌, ◌++◌, append-nil, append_assoc}
use mathlib.Core.Path.{◌≡◌, refl, sym, ap, ap₂, ◌∙◌}
use native.Mathlib.Omega.{arith}
use native.Mathlib.Nat.{zero-add}
use lib.ListN.{length, drop, length-append, drop_of_length-le}
use lib.Seq.{sets, sets-eq, length-sets}
use Rattle.digits.proofs.Tests.{by_less}
use Rattle.digits.proofs.Writing.{sets_append, sets_beyond}
use Rattle.text.specs.Put.{most_place, place_after, Put}

-- a text that fits, from the beginning on
pub put_all : (out text : List ℕ) (end : ℕ) (out' : List ℕ) → Put out 0 text end out' → length text ≤ length out → out' ≡ text ++ drop (length text) out
put_all out text end out' p l =
    let h : 0 + length text ≤ length out = omega arith in
    p.bytes ∙ sets-eq text out 0 h ∙ ap (λ (n : ℕ). text ++ drop n out) (zero-add (length text))

pub put_none : (out : List ℕ) (at : ℕ) → at ≤ most_place → Put out at [] at out
put_none out at h = record { next = omega arith; bytes = refl }

-- at a place past the end
pub put_beyond : (out : List ℕ) (at : ℕ) (text : List ℕ) (end : ℕ) → length out ≤ at → end ≡ place_after at (length text) → Put out at text end out
put_beyond out at text end h e = record { next = e; bytes = sym (sets_beyond out at text h) }

-- a text stored at the place after another one
after : (out : List ℕ) (at : ℕ) (a b : List ℕ) → length out ≤ most_place → sets (sets out at a) (place_after at (length a)) b ≡ sets out at (a ++ b)
after out at a b l =
    by_less (at + length a) most_place
    (λ h.
    let e : place_after at (length a) ≡ at + length a = omega arith in
    rw e (sym (sets_append out at a b)))
    (λ h.
    let n = length-sets out at a in
    sets_beyond (sets out at a) (place_after at (length a)) b (omega arith)
    ∙ sym (sets_append out at a b ∙ sets_beyond (sets out at a) (at + length a) b (omega arith)))

-- two texts put one after the other are put as one
pub put_then : (out : List ℕ) (at : ℕ) (a : List ℕ) (p : ℕ) (mid : List ℕ) (b : List ℕ) (q : ℕ) (out' : List ℕ)
    → length out ≤ most_place → Put out at a p mid → Put mid p b q out' → Put out at (a ++ b) q out'
put_then out at a p mid b q out' l x y = record {
  next = let n = length-append a b in omega (arith, x.next, y.next, n);
  bytes = y.bytes ∙ ap₂ (λ (m : List ℕ) (i : ℕ). sets m i b) x.bytes x.next ∙ after out at a b l;
}

-- the same for a text, a byte and a text
pub put_parted : (out : List ℕ) (at : ℕ) (a : List ℕ) (p : ℕ) (mid : List ℕ) (b q : ℕ) (mid' c : List ℕ) (r : ℕ) (out' : List ℕ)
    → length out ≤ most_place → Put out at a p mid → Put mid p (b ∷ []) q mid' → Put mid' q c r out' → Put out at (a ++ (b ∷ c)) r out'
put_parted out at a p mid b q mid' c r out' l x y z =
    rw (← append_assoc a (b ∷ []) c) (put_then out at (a ++ (b ∷ [])) q mid' c r out' l (put_then out at a p mid (b ∷ []) q mid' l x y) z)

-- a text as long as the output replaces it
pub put_whole : (out text : List ℕ) (end : ℕ) (out' : List ℕ) → length text ≡ length out → Put out 0 text end out' → out' ≡ text
put_whole out text end out' l p =
    let h : 0 + length text ≤ length out = omega arith in
    let z : length out ≤ 0 + length text = omega arith in
    p.bytes ∙ sets-eq text out 0 h ∙ ap (λ (r : List ℕ). text ++ r) (drop_of_length-le out z) ∙ append-nil text
