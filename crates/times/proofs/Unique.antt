-- Only one answer meets the promise of running time. Assumes nothing.
use Prim.Native.Nat.{ℕ}
use lib.IntN.{ℤ}
use mathlib.Core.Path.{◌≡◌, refl, sym, ◌∙◌}
use native.Mathlib.Omega.{arith}
use Rattle.std.specs.Prelude.{Result, Ok, Err}
use Rattle.times.specs.declared.running.RunningRefusal.{RunningRefusal}
use Rattle.times.specs.declared.running.RunningRefusal.TheVariants.{Time}
use Rattle.times.specs.Running.{running_told}
use Rattle.times.specs.Unique.{OneOutcome}

same_told : (a b : Result ℤ RunningRefusal) → running_told a ≡ running_told b → a ≡ b
same_told (Ok v) (Ok w) e = cc
same_told (Ok v) (Err Time) e = absurd (let z : ◌≡◌ {A = ℕ} 0 1 = cc in omega arith)
same_told (Err Time) (Ok w) e = absurd (let z : ◌≡◌ {A = ℕ} 0 1 = cc in omega arith)
same_told (Err Time) (Err Time) e = refl

pub one_outcome : OneOutcome
one_outcome = record { running_time = λ of a b p q. same_told a b (p ∙ sym q) }
