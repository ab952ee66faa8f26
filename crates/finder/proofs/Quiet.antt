-- Runs of bytes without a stop: how they are put together, and that the search goes on after a run as before it. Assumes nothing.
use Prim.Native.Nat.{ℕ, ◌+◌, ◌-◌, ◌≤◌, ◌<◌}
use mathlib.Core.List.{List}
use mathlib.Core.Bool.{false}
use mathlib.Core.Path.{◌≡◌, refl, ap, ◌∙◌}
use native.Mathlib.Omega.{arith}
use native.Mathlib.Nat.{le_refl}
use native.Mathlib.Numerals.{add-one}
use native.Mathlib.Decide.{le_ind}
use lib.Dec.{eqb}
use borrow.Author.Tests.{eqb-false}
use lib.ListN.{length, get_or, take, drop}
use lib.Seq.{get_or-take, get_or-drop}
use Rattle.digits.proofs.Tests.{by_less}
use Rattle.frames.specs.Kind.{CR}
use Rattle.frames.proofs.RuleLaws.{or_false}
use Rattle.finder.specs.Leads.{is_lead}
use Rattle.finder.specs.Pieces.{found_from}
use Rattle.finder.specs.inside.Quiet.{is_stop, Quiet}
use Rattle.finder.proofs.Search.{skipped, answer_at, runs_on}

module _ {s : List ℕ} {also : ℕ} where
  pub empty : {a : ℕ} → Quiet s also a a
  empty {a} = record { forward = le_refl a; each = λ i g l. let z : ⊥ = omega arith in absurd z }

  pub one : {i : ℕ} → i < length s → is_stop also (get_or s i 0) ≡ false → Quiet s also i (i + 1)
  one {i} h e = record { forward = omega arith; each = λ k g l. let m : k ≡ i = omega arith in rw m (h, e) }

  pub joined : {a b c : ℕ} → Quiet s also a b → Quiet s also b c → Quiet s also a c
  joined {a} {b} p q = record { forward = omega arith; each = λ i g l. by_less i b (p.each i g) (λ h. q.each i h l) }

  -- a run that is a part of the capture
  pub in_part : (a n : ℕ) → a + n ≤ length s → Quiet (take n (drop a s)) also 0 n → Quiet s also a (a + n)
  in_part a n h q = record { forward = omega arith; each = at_place }
    where
      at_place : (i : ℕ) → a ≤ i → i < a + n → (i < length s) × (is_stop also (get_or s i 0) ≡ false)
      at_place i g l =
          let m : a + (i - a) ≡ i = omega arith in
          let e = get_or-take n (drop a s) (i - a) 0 (omega arith) ∙ get_or-drop a s (i - a) 0 in
          (omega arith, rw (e, m) at (q.each (i - a) (omega arith) (omega arith)).1)

  pub ends_within : {a b : ℕ} → Quiet s also a b → a ≤ length s → b ≤ length s
  ends_within {a} {b} q h = by_less a b (λ l. let k = q.each (b - 1) (omega arith) (omega arith) in omega arith) (λ g. omega arith)

  -- what no byte of a run changes is the same before and after the run
  over_run : {A : Type 0} (f : ℕ → A) {a b : ℕ} → Quiet s also a b
      → ((i : ℕ) → a ≤ i → i < length s → is_stop also (get_or s i 0) ≡ false → f i ≡ f (i + 1)) → f a ≡ f b
  over_run f {a} {b} q same =
      le_ind (λ (i : ℕ). i ≤ b → f a ≡ f i) (λ l. refl)
      (λ i g p l. let k = q.each i g l in p (omega arith) ∙ same i g k.0 k.1 ∙ ap f (add-one i))
      b q.forward (le_refl b)

  -- outside a frame, a run without lead bytes is skipped
  pub run_skipped : {i j : ℕ} → Quiet s also i j → found_from s i ≡ found_from s j
  run_skipped q = over_run (found_from s) q (λ k g h e. skipped s k h (or_false (is_lead (get_or s k 0)) (eqb (get_or s k 0) also) e).0)

-- inside the frame that begins at a, a run without lead bytes and without CR is skipped
pub run_inside : {s : List ℕ} {a i j : ℕ} → a ≤ i → Quiet s CR i j → answer_at s a i ≡ answer_at s a j
run_inside {s} {a} l q =
    over_run (answer_at s a) q
    (λ k g h e. let o = or_false (is_lead (get_or s k 0)) (eqb (get_or s k 0) CR) e in
    runs_on s a k (omega arith) h o.0 (eqb-false (get_or s k 0) CR o.1))
