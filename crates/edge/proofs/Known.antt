-- Filling from known bytes: each read takes the first of those that are left.
use Rattle.std.specs.Prelude.{min, ℕ, ◌+◌, ◌≤◌, ◌≡◌, ◌⊎◌, List, [], ◌++◌, length, take, Option, Some, None, Result, Ok, Err}
use Rattle.std.specs.Io.KnownBytes.{Consumes, Keeps, IsAtEnd}
use Rattle.std.proofs.Common.{refl, sym, ap, ◌∙◌, inl, inr, drop}
use native.Mathlib.Numerals.{unary_clauses}
use native.Mathlib.Omega.{arith}
use Rattle.std.proofs.lemmas.List.{append-nil, append_assoc, length-append, length-drop, length-take-le}
use Rattle.std.proofs.Math.Seq.{take-append-add, take-append_seam, drop-append_seam}
use Rattle.edge.specs.Filling.{Filled, Promised, full, ended, failed, more, laid}
use Rattle.edge.specs.Known.{Given, FillsKnown}
use Rattle.edge.proofs.FillingLaws.{length_laid}

-- ---- what a reader has left after a read

kept : (ys : List ℕ) (o : Option (List ℕ)) → Keeps (Some ys) o → o ≡ Some ys
kept ys None c = absurd c
kept ys (Some zs) c = ap Some c

consumed : (ys bs : List ℕ) (o : Option (List ℕ)) → Consumes (Some ys) o bs → (zs : List ℕ) × (o ≡ Some zs) × (ys ≡ bs ++ zs)
consumed ys bs None c = absurd c
consumed ys bs (Some zs) c = (zs, refl, c)

no_more : (o : Option (List ℕ)) (zs : List ℕ) → o ≡ Some zs → IsAtEnd o → zs ≡ []
no_more o zs e c = rw e at c

-- out up to place n + j after a read
take_laid : (out room : List ℕ) (n j : ℕ) → n ≤ length out → take (n + j) (laid out n room) ≡ take n out ++ take j room
take_laid out room n j h =
    let t = length-take-le n out h in
    let e : take (length (take n out) + j) (take n out ++ room) ≡ take n out ++ take j room = take-append-add (take n out) room j in
    rw t at e

front : (out room : List ℕ) (n : ℕ) → n ≤ length out → take n (laid out n room) ≡ take n out ++ []
front out room n h = simp unary_clauses at (take_laid out room n 0 h)

or_full : {P : Type 0} {m a b : ℕ} → a ≡ b → P ⊎ (m ≡ a) → P ⊎ (m ≡ b)
or_full e (inl p) = inl p
or_full e (inr h) = inr (h ∙ e)

broke : {E : Type 0} → Result (Unit {0}) E → ℕ
broke (Ok u) = 0
broke (Err e) = 1

module _ {S E : Type 0} (remaining : S → Option (List ℕ)) where
  -- what goes on from place n, with the bytes ys left
  record Went (ys out : List ℕ) (n m : ℕ) (r : Result (Unit {0}) E) (s' : S) (out' : List ℕ) : Type 0 where
    given : List ℕ
    left : List ℕ
    parts : ys ≡ given ++ left
    count : m ≡ n + length given
    first : take m out' ≡ take n out ++ given
    rest : remaining s' ≡ Some left
    size : length out' ≡ length out
    fits : m ≤ length out
    over : r ≡ Ok tt → (left ≡ []) ⊎ (m ≡ length out)

  went : {s s' : S} {out out' : List ℕ} {n m : ℕ} {r : Result (Unit {0}) E} → Filled (Promised remaining) s out n (m, r) s' out' → (ys : List ℕ) → remaining s ≡ Some ys → n ≤ length out
      → Went ys out n m r s' out'
  unfolding broke
  went {out = out} {n = n} (full h) ys e b = record {
    given = [];
    left = ys;
    parts = refl;
    count = omega arith;
    first = sym (append-nil (take n out));
    rest = e;
    size = refl;
    fits = b;
    over = λ _. inr (omega (arith, h, b));
  }
  went {s = s} {s' = s'} {out = out} {n = n} (ended {room = room} h (l, k, c)) ys e b =
      let t = consumed ys [] (remaining s') (rw e at c.0) in
      record {
        given = [];
        left = t.0;
        parts = t.2;
        count = omega arith;
        first = front out room n b;
        rest = t.1;
        size = length_laid out n room b l;
        fits = b;
        over = λ _. inl (no_more (remaining s') t.0 t.1 (c.1 refl (omega (arith, h, l, length-drop n out))));
      }
  went {s = s} {s' = s'} {out = out} {n = n} (failed {room = room} {e = f} h (l, k, c)) ys e b =
      record {
        given = [];
        left = ys;
        parts = refl;
        count = omega arith;
        first = front out room n b;
        rest = kept ys (remaining s') (rw e at c);
        size = length_laid out n room b l;
        fits = b;
        over = λ z. absurd (omega (arith, ap broke z));
      }
  went {s = s} {out = out} {n = n} (more {s' = s₁} {room = room} {k = k} h (l, q, c) z f) ys e b =
      let t = consumed ys (take k room) (remaining s₁) (rw e at c.0) in
      let i = length_laid out n room b l in
      let w = went f t.0 t.1 (omega (arith, i, h, l, q.0, length-drop n out)) in
      record {
        given = take k room ++ w.given;
        left = w.left;
        parts = t.2 ∙ ap (λ x. take k room ++ x) w.parts ∙ sym (append_assoc (take k room) w.given w.left);
        count = omega (arith, w.count, length-append (take k room) w.given, q.1);
        first = w.first ∙ ap (λ x. x ++ w.given) (take_laid out room n k b) ∙ append_assoc (take n out) (take k room) w.given;
        rest = w.rest;
        size = w.size ∙ i;
        fits = omega (arith, i, w.fits);
        over = λ u. or_full i (w.over u);
      }

-- from place 0
module _ {S E : Type 0} (remaining : S → Option (List ℕ)) {known out out' : List ℕ} {n : ℕ} {r : Result (Unit {0}) E} {s' : S} (w : Went remaining known out 0 n r s' out') where
  given_count : n ≡ length w.given
  given_count = omega (arith, w.count)

  known_first : take n known ≡ w.given
  known_first = rw (given_count, w.parts) (take-append_seam w.given w.left)

  known_rest : drop n known ≡ w.left
  known_rest = rw (given_count, w.parts) (drop-append_seam w.given w.left)

  known_size : length known ≡ n + length w.left
  known_size = omega (arith, given_count, ap length w.parts, length-append w.given w.left)

  from_0 : Given remaining known out n s' out'
  from_0 = record { there = omega (arith, known_size); fits = w.fits; first = w.first ∙ sym known_first; rest = w.rest ∙ ap Some (sym known_rest); size = w.size }

  all_came : (w.left ≡ []) ⊎ (n ≡ length out) → n ≡ min (length known) (length out)
  all_came (inl e) = omega (arith, known_size, ap length e, w.fits)
  all_came (inr e) = omega (arith, known_size, e)

pub fills_known : FillsKnown
fills_known = record {
  whole = λ remaining s s' known out out' n e f. let w = went remaining f known e (omega arith) in (from_0 remaining w, all_came remaining w (w.over refl));
  broken = λ remaining s s' known out out' n x e f. from_0 remaining (went remaining f known e (omega arith));
}
