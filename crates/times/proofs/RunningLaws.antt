-- Running time as the difference of two natural numbers. Assumes nothing.
use mathlib.Core.Path.{◌≡◌, refl, sym, ap, ◌∙◌}
use mathlib.Core.Bool.{true, false}
use Prim.Native.Nat.{ℕ, ◌+◌, ◌*◌}
use lib.IntN.{ℤ, pos, neg_ℤ, sub_ℕ, ◌+ℤ◌, ◌-ℤ◌, neg_ℤ-+ℤ, neg_ℤ-neg_ℤ, +ℤ_assoc, +ℤ_comm}
use borrow.Author.Tests.{eq-eqb, ne_eqb}
use Rattle.digits.specs.Told.{gives}
use Rattle.std.specs.Prelude.{Err}
use Rattle.times.specs.declared.running.RunningRefusal.TheVariants.{Time}
use Rattle.times.specs.declared.running.RunningOf.{RunningOf}
use Rattle.times.specs.Clock.{a_day}
use Rattle.times.specs.Running.{in_range, running_time, running_told, RunningWorked}
use Rattle.times.proofs.SignedLaws.{pos_pos}

take_plus : (n e m : ℕ) → (pos n -ℤ pos e) -ℤ pos m ≡ sub_ℕ n (e + m)
take_plus n e m =
    +ℤ_assoc (pos n) (neg_ℤ (pos e)) (neg_ℤ (pos m)) ∙ ap (λ (z : ℤ). pos n +ℤ z) (sym (neg_ℤ-+ℤ (pos e) (pos m))) ∙ pos_pos n (e + m)

take_minus : (n e m : ℕ) → (pos n -ℤ pos e) -ℤ neg_ℤ (pos m) ≡ sub_ℕ (n + m) e
take_minus n e m =
    ap (λ (z : ℤ). (pos n -ℤ pos e) +ℤ z) (neg_ℤ-neg_ℤ (pos m))
    ∙ +ℤ_assoc (pos n) (neg_ℤ (pos e)) (pos m) ∙ ap (λ (z : ℤ). pos n +ℤ z) (+ℤ_comm (neg_ℤ (pos e)) (pos m))
    ∙ sym (+ℤ_assoc (pos n) (pos m) (neg_ℤ (pos e))) ∙ pos_pos (n + m) e

module _ (o : RunningOf) where
  pub out_of_range : in_range o ≡ false → running_told (Err Time) ≡ running_time o
  unfolding running_time
  out_of_range e = rw e

  module _ (good : in_range o ≡ true) (z : ℤ) where
    pub with_minus : o.sign ≡ 1 → z ≡ sub_ℕ (o.tnow + (o.days * a_day + o.time)) o.tev → gives z ≡ running_time o
    unfolding running_time
    with_minus m e = rw (good, eq-eqb o.sign 1 m) (ap gives (e ∙ sym (take_minus o.tnow o.tev (o.days * a_day + o.time))))

    pub with_plus : (o.sign ≡ 1 → ⊥) → z ≡ sub_ℕ o.tnow (o.tev + (o.days * a_day + o.time)) → gives z ≡ running_time o
    unfolding running_time
    with_plus m e = rw (good, ne_eqb o.sign 1 m) (ap gives (e ∙ sym (take_plus o.tnow o.tev (o.days * a_day + o.time))))

pub running_worked : RunningWorked
unfolding running_time in_range
running_worked = record { minus = refl; minus_no_days = refl; minus_of_none = refl; plus_of_none = refl; minus_zero = refl; tnow = refl; tev = refl; tev_of_none = refl; sign = refl; days = refl; time = refl }
