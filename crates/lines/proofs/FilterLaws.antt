-- A machine that tests every state on the way takes what one takes that tests the last state. Assumes nothing.
use mathlib.Core.Bool.{Bool, true}
use mathlib.Core.List.{List, [], ◌∷◌}
use mathlib.Core.Path.{◌≡◌}
use Rattle.digits.proofs.Tests.{by-test}
use Rattle.lines.specs.Machine.{Machine, next, after}
use Rattle.lines.specs.Filter.{only_where, GoesBack, OnlyLastCounts}
use Rattle.lines.proofs.Tests.{by_step, not_both}

module _ {W S L : Type 0} (viable : S → Bool) (m : Machine W S L) where
  -- every state on the way to a viable one is viable
  passes : GoesBack viable m → (ls : List L) (s q : S) → after m s ls ≡ next q → viable q ≡ true
      → (viable s ≡ true) × (after (only_where viable m) s ls ≡ next q)
  unfolding after
  passes back [] s q a v = let e : s ≡ q = cc in (rw e v, a)
  passes back (l ∷ ls) s q a v =
      by_step (m.step s l)
      (λ e. absurd (not_both (after m s (l ∷ ls)) q a (rw e)))
      (λ s' e. let (v', a') = passes back ls s' q (rw e at a) v in (back s s' l e v', rw (e, v') a'))

  passed : (s q : S) (ls : List L) → viable s ≡ true → after (only_where viable m) s ls ≡ next q → (after m s ls ≡ next q) × (viable q ≡ true)
  unfolding after
  passed s q [] v a = let e : s ≡ q = cc in (a, rw (← e) v)
  passed s q (l ∷ ls) v a =
      by_step (m.step s l)
      (λ e. absurd (not_both (after (only_where viable m) s (l ∷ ls)) q a (rw e)))
      (λ s' e.
      by-test (viable s')
      (λ v'. let x = passed s' q ls v' (rw (e, v') at a) in (rw e x.0, x.1))
      (λ v'. absurd (not_both (after (only_where viable m) s (l ∷ ls)) q a (rw (e, v')))))

  pub only_last_counts : GoesBack viable m → OnlyLastCounts viable m
  only_last_counts back = record { takes = λ s q ls a v. (passes back ls s q a v).1; taken = passed }
