-- Tests over the numbers below a bound.
use Rattle.std.specs.Prelude.{ℕ, zero, suc, Bool, true, cond, ◌&&◌, ltb}

-- every number below n passes
unfoldable pub all_below : ℕ → (ℕ → Bool) → Bool
all_below zero p = true
all_below (suc n) p = all_below n p && p n

-- how many numbers below n pass
unfoldable pub count_below : ℕ → (ℕ → Bool) → ℕ
count_below zero p = zero
count_below (suc n) p = cond (p n) (suc (count_below n p)) (count_below n p)

-- the first number below n that passes, or n if none does
unfoldable pub first : ℕ → (ℕ → Bool) → ℕ
first zero p = zero
first (suc n) p = cond (ltb (first n p) n) (first n p) (cond (p n) n (suc n))
