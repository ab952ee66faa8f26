-- The steps of a request, one after the other, are the rule of mixed replies, which is spelled over letters and keys. Assumes nothing.
use Prim.Native.Nat.{ℕ, suc}
use mathlib.Core.List.{List, [], ◌∷◌, ◌++◌, append_assoc, append-nil}
use mathlib.Core.Bool.{Bool, true, false, not, ◌||◌}
use mathlib.Core.Path.{◌≡◌, refl, sym, ap, ◌∙◌}
use native.Mathlib.Omega.{arith}
use lib.ListN.{length, length-append}
use lib.Dec.{eqb}
use borrow.Author.Tests.{eq-eqb, ne_eqb}
use Rattle.digits.specs.Refusals.{ENDED, OUT_OF_PLACE, FULL}
use Rattle.digits.specs.Told.{Told, gives, refuses}
use Rattle.digits.proofs.Tests.{by-test}
use Rattle.frames.specs.Kind.{read}
use Rattle.frames.specs.Reply.{reply}
use Rattle.desk.specs.Hearing.{ends, in_place, ended_by}
use Rattle.desk.specs.Step.{step}
use Rattle.desk.specs.Rule.{Frame, letter_in, has_status_e, has_status_z, kept, said}
use Rattle.desk.specs.Events.{to_reply, heard_all}
use Rattle.desk.specs.Views.{View, Seen, seat_step}
use Rattle.desk.proofs.HearingLaws.{letter}
use Rattle.desk.specs.Folds.{view_after, says_to, FoldIsRule, FullIsRule}

-- ---- one step, by the letter

abbrev with_end : View → Frame → ℕ → View
with_end v f end = record { used = v.used; key = v.key; records = v.records ++ (f ∷ []); ended = end }

module _ (s : ℕ) (v : View) (f : Frame) where
  abbrev seen_now : Bool → Seen
  seen_now free = seat_step s free v (to_reply f)

  step_late : (free : Bool) → eqb v.ended 0 ≡ false → seen_now free ≡ record { answer = refuses ENDED; view = v }
  unfolding step
  step_late free e = rw e

  step_astray : (free : Bool) → eqb v.ended 0 ≡ true → eqb (length v.records) 0 ≡ false → has_status_z f ≡ true → seen_now free ≡ record { answer = refuses OUT_OF_PLACE; view = v }
  unfolding step in_place
  step_astray free e n z = rw (e, letter f, z, n)

  step_taken : eqb v.ended 0 ≡ true → not (has_status_z f) || eqb (length v.records) 0 ≡ true → seen_now true ≡ record { answer = gives s; view = with_end v f (ended_by (letter_in (read reply f))) }
  unfolding step in_place
  step_taken e p = rw (e, letter f, p)

  step_full : eqb v.ended 0 ≡ true → not (has_status_z f) || eqb (length v.records) 0 ≡ true → seen_now false ≡ record { answer = refuses FULL; view = v }
  unfolding step in_place
  step_full e p = rw (e, letter f, p)

-- ---- no cell is free

holds_any : (l : List Frame) → (l ≡ [] → ⊥) → eqb (length l) 0 ≡ false
holds_any [] n = absurd (n refl)
holds_any (f ∷ l) n = ne_eqb (suc (length l)) 0 (λ (h : suc (length l) ≡ 0). omega arith)

pub full_is_rule : FullIsRule
full_is_rule = record {
  late = λ s v f n. step_late s v f false (ne_eqb v.ended 0 n);
  astray = λ s v f e z n. step_astray s v f false (eq-eqb v.ended 0 e) (holds_any v.records n) z;
  full = λ s v f e h. step_full s v f (eq-eqb v.ended 0 e) (by-test (has_status_z f) (λ z. rw (z, h z)) (λ z. rw z));
}

-- ---- all steps

abbrev Rules : ℕ → View → Bool → Bool → List Frame → Type 0
Rules s v any ended fs = ((view_after s v (heard_all fs)).records ≡ v.records ++ kept any ended fs) × (says_to s v (heard_all fs) ≡ said s any ended fs)

module _ (s : ℕ) where
  -- a frame with this outcome, in front of others
  front : (v w : View) (a : Told ℕ) (f : Frame) (fs ks : List Frame) (ss : List (Told ℕ)) → seat_step s true v (to_reply f) ≡ record { answer = a; view = w }
      → (view_after s w (heard_all fs)).records ≡ v.records ++ ks → says_to s w (heard_all fs) ≡ ss → ((view_after s v (heard_all (f ∷ fs))).records ≡ v.records ++ ks) × (says_to s v (heard_all (f ∷ fs)) ≡ a ∷ ss)
  unfolding view_after says_to
  front v w a f fs ks ss e p q =
      (ap (λ (x : Seen). (view_after s x.view (heard_all fs)).records) e ∙ p, ap (λ (x : Seen). x.answer ∷ says_to s x.view (heard_all fs)) e ∙ ap (λ (l : List (Told ℕ)). a ∷ l) q)

  late : (any : Bool) (v : View) (fs : List Frame) → eqb v.ended 0 ≡ false → Rules s v any true fs
  unfolding view_after says_to
  late any v [] e = (sym (append-nil v.records), refl)
  late any v (f ∷ fs) e = let h = late any v fs e in front v v (refuses ENDED) f fs [] _ (step_late s v f true e) h.0 h.1

  -- a frame that is taken, in front of others
  taken : (v : View) (f : Frame) (fs ks : List Frame) (ss : List (Told ℕ)) (end : ℕ) → eqb v.ended 0 ≡ true → not (has_status_z f) || eqb (length v.records) 0 ≡ true
      → ended_by (letter_in (read reply f)) ≡ end → ((view_after s (with_end v f end) (heard_all fs)).records ≡ (v.records ++ (f ∷ [])) ++ ks) × (says_to s (with_end v f end) (heard_all fs) ≡ ss)
      → ((view_after s v (heard_all (f ∷ fs))).records ≡ v.records ++ (f ∷ ks)) × (says_to s v (heard_all (f ∷ fs)) ≡ gives s ∷ ss)
  taken v f fs ks ss end o p q h =
      front v (with_end v f end) (gives s) f fs (f ∷ ks) ss (step_taken s v f o p ∙ ap (λ (n : ℕ). record { answer = gives s; view = with_end v f n }) q)
      (h.0 ∙ append_assoc v.records (f ∷ []) ks) h.1

  more_any : (l : List Frame) (f : Frame) → eqb (length (l ++ (f ∷ []))) 0 ≡ false
  more_any l f = let e = length-append l (f ∷ []) in ne_eqb (length (l ++ (f ∷ []))) 0 (λ (h : length (l ++ (f ∷ [])) ≡ 0). omega (arith, e, h))

  -- one that is no Z, when the request holds records or not
  plain : (v : View) (f : Frame) (fs : List Frame) → ((w : View) → eqb w.ended 0 ≡ true → eqb (length w.records) 0 ≡ false → Rules s w true false fs)
      → eqb v.ended 0 ≡ true → has_status_z f ≡ false → Rules s v true false (f ∷ fs)
  unfolding ends
  plain v f fs ih o z =
      by-test (has_status_e f)
      (λ e. rw (z, e) (taken v f fs [] _ 1 o (rw z) (rw e) (late true (with_end v f 1) fs refl)))
      (λ e. rw (z, e) (taken v f fs _ _ 0 o (rw z) (rw (e, z)) (ih (with_end v f 0) refl (more_any v.records f))))

  among : (fs : List Frame) (v : View) → eqb v.ended 0 ≡ true → eqb (length v.records) 0 ≡ false → Rules s v true false fs
  unfolding view_after says_to
  among [] v o n = (sym (append-nil v.records), refl)
  among (f ∷ fs) v o n =
      by-test (has_status_z f)
      (λ z. let h = among fs v o n in rw z (front v v (refuses OUT_OF_PLACE) f fs _ _ (step_astray s v f true o n z) h.0 h.1))
      (λ z. plain v f fs (among fs) o z)

  first : (fs : List Frame) (v : View) → eqb v.ended 0 ≡ true → eqb (length v.records) 0 ≡ true → Rules s v false false fs
  unfolding view_after says_to ends
  first [] v o n = (sym (append-nil v.records), refl)
  first (f ∷ fs) v o n =
      by-test (has_status_z f)
      (λ z. rw z (taken v f fs [] _ 1 o (rw (z, n)) (by-test (has_status_e f) (λ e. rw e) (λ e. rw (e, z))) (late true (with_end v f 1) fs refl)))
      (λ z. let h = plain v f fs (among fs) o z in rw z (rw z at h))

pub fold_is_rule : FoldIsRule
fold_is_rule s v fs =
    by-test (eqb v.ended 0)
    (λ o. by-test (eqb (length v.records) 0)
    (λ n. let h = first s fs v o n in record { records = rw (o, n) h.0; answers = rw (o, n) h.1 })
    (λ n. let h = among s fs v o n in record { records = rw (o, n) h.0; answers = rw (o, n) h.1 }))
    (λ o. let h = late s (not (eqb (length v.records) 0)) v fs o in record { records = rw o h.0; answers = rw o h.1 })
