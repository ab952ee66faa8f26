-- Lent calls, one after the other, are the run of their events; so the rule of mixed replies holds for them. Assumes nothing.
use Prim.Native.Nat.{ℕ, ◌≤◌}
use mathlib.Core.Bool.{false}
use mathlib.Core.List.{List, [], ◌∷◌, ◌++◌}
use mathlib.Core.Path.{◌≡◌, refl, sym, ap, subst, ◌∙◌}
use native.Mathlib.Omega.{arith}
use Rattle.digits.specs.Refusals.{DESK}
use Rattle.digits.specs.Told.{Told, gives, refuses, Sure}
use Rattle.digits.proofs.Sure.{never_0}
use Rattle.digits.proofs.Tests.{by-test}
use Rattle.desk.specs.declared.state.Seat.{Seat}
use Rattle.desk.specs.Key.{request_key}
use Rattle.desk.specs.Memory.{Memory, memory, capacity}
use Rattle.desk.specs.Desk.{all_seats}
use Rattle.desk.specs.Calls.{Outcome, resets, opens, replies, emptied}
use Rattle.desk.specs.Rule.{Frame}
use Rattle.desk.specs.Events.{Event, run, openings}
use Rattle.desk.specs.Mix.{replies_to, Sorted}
use Rattle.desk.proofs.SureLaws.{sure_opens}
use Rattle.desk.proofs.MixLaws.{sorts_opened_requests}
use Rattle.rei2.specs.declared.lent.DeskAnswer.{DeskAnswer}
use Rattle.rei2.specs.Numbers.{number_in, value_in}
use Rattle.rei2.specs.Lent.{answer_of, LentCall}
use Rattle.rei2.specs.Chain.{Chain, none, opened, replied, answers_of, ChainsRun, SortsLentCalls}

-- the memory that a call leaves is that of the outcome
left : (o : Outcome) (r : DeskAnswer) (seats : List Seat) (cells marks : List ℕ) (tally : List (List ℕ)) → LentCall o r seats cells marks tally → memory r.desk seats cells marks tally ≡ o.after
left o r seats cells marks tally h = λ i. record { row = h.seats i; bits = (h.answer i).desk.bits; count = (h.answer i).desk.count; cells = h.cells i; marks = h.marks i; tally = h.tally i }

-- one more call in front
module _ (o : Outcome) (r : DeskAnswer) (seats : List Seat) (cells marks : List ℕ) (tally : List (List ℕ)) (h : LentCall o r seats cells marks tally) where
  one_more_case : (es : List Event) (rs : List DeskAnswer) (m : Memory) → (m ≡ run (memory r.desk seats cells marks tally) es) × (rs ≡ answers_of (memory r.desk seats cells marks tally) es)
      → (m ≡ run o.after es) × (r ∷ rs ≡ answer_of o ∷ answers_of o.after es)
  one_more_case es rs m k =
      let e = left o r seats cells marks tally h in
      (k.0 ∙ ap (λ (x : Memory). run x es) e, λ i. h.answer i ∷ (k.1 ∙ ap (λ (x : Memory). answers_of x es) e) i)

chain_runs : {m m' : Memory} {es : List Event} {rs : List DeskAnswer} → Chain m es rs m' → (m' ≡ run m es) × (rs ≡ answers_of m es)
unfolding run answers_of
chain_runs none = (refl, refl)
chain_runs (opened {seats = seats} {desk = desk} {cells = cells} {marks = marks} {frame = frame} {tally = tally} {es = es} h c) =
    one_more_case (opens (memory desk seats cells marks tally) frame) _ _ _ _ _ h es _ _ (chain_runs c)
chain_runs (replied {seats = seats} {desk = desk} {cells = cells} {marks = marks} {frame = frame} {tally = tally} {es = es} h c) =
    one_more_case (replies (memory desk seats cells marks tally) frame) _ _ _ _ _ h es _ _ (chain_runs c)

pub chains_run : ChainsRun
chains_run m m' es rs c = chain_runs c

-- ---- what the numbers say about the calls

-- a reset that is not refused empties the desk
reset_done : (m : Memory) → number_in (resets m).answer ≡ 0 → (resets m).after ≡ emptied m
unfolding resets
reset_done m z = by-test (all_seats m) (λ b. rw b) (λ b. let d : DESK.number ≡ 0 = rw b at z in absurd (omega (arith, d)))

-- an opening that is not refused returns its seat
seat_given : (t : Told ℕ) → Sure t → number_in t ≡ 0 → t ≡ gives (value_in 0 t)
seat_given (gives s) sure z = refl
seat_given (refuses f) sure z = absurd (let l = never_0 f (sure f refl) in omega (arith, l, z))

run_parts : (m : Memory) (before after : List Frame) (f : Frame)
    → run m (openings (before ++ f ∷ after)) ≡ run (opens (run m (openings before)) f).after (openings after)
unfolding run
run_parts m [] after f = refl
run_parts m (g ∷ before) after f = run_parts (opens m g).after before after f

-- ---- mixed replies

pub sorts_lent_calls : SortsLentCalls
sorts_lent_calls seats desk cells marks tally empty seats₀ tally₀ hr z before after rs₁ rs₂ desk₁ seats₁ cells₁ marks₁ tally₁ c₁ f r answer seats₂ ho zo reads m c₂ es rs m' c₃ st room =
    let w : Memory = memory desk seats cells marks tally in
    let x : Memory = memory desk₁ seats₁ cells₁ marks₁ tally₁ in
    let e₀ : memory empty.desk seats₀ cells marks tally₀ ≡ emptied w =
    left (resets w) empty seats₀ cells marks tally₀ (hr cells marks) ∙ reset_done w (sym (ap (λ (a : DeskAnswer). a.refusal) (hr cells marks).answer) ∙ z) in
    let e₁ : x ≡ run (emptied w) (openings before) = (chain_runs c₁).0 ∙ ap (λ (y : Memory). run y (openings before)) e₀ in
    let e₂ : m ≡ run (opens x f).after (openings after) = (chain_runs c₂).0 ∙ ap (λ (y : Memory). run y (openings after)) (left (opens x f) answer seats₂ cells₁ marks₁ tally₁ ho) in
    let e : run (emptied w) (openings (before ++ f ∷ after)) ≡ m =
    run_parts (emptied w) before after f ∙ ap (λ (y : Memory). run (opens y f).after (openings after)) (sym e₁) ∙ sym e₂ in
    let s : (opens x f).answer ≡ gives answer.seat =
    seat_given (opens x f).answer (sure_opens x f) (sym (ap (λ (a : DeskAnswer). a.refusal) ho.answer) ∙ zo) ∙ ap gives (sym (ap (λ (a : DeskAnswer). a.seat) ho.answer)) in
    let s' : (opens (run (emptied w) (openings before)) f).answer ≡ gives answer.seat = sym (ap (λ (y : Memory). (opens y f).answer) e₁) ∙ s in
    let room' : replies_to (run (emptied w) (openings (before ++ f ∷ after))) es ≤ capacity w = rw e room in
    let k = chain_runs c₃ in
    record { leaves = k.0; answers = k.1; sorted = subst (λ (y : Memory). Sorted y es answer.seat (request_key r) [] false false) e (sorts_opened_requests w before after f r es answer.seat reads s' st room') }
