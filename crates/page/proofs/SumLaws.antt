-- The sum of the first bytes of a text, one byte more. Assumes nothing.
use Rattle.std.proofs.Common.{◌≡◌, ℕ, zero, suc, ◌+◌, ◌<◌, List, [], ◌∷◌, length, get_or, take, ap, ◌∙◌, add-one, arith}
use Rattle.page.specs.Sum.{sum_of}

sum_suc : (s : List ℕ) (i : ℕ) → i < length s → sum_of (take (suc i) s) ≡ sum_of (take i s) + get_or s i 0
unfolding sum_of
sum_suc [] i l = absurd (omega arith)
sum_suc (b ∷ s) zero l = omega arith
sum_suc (b ∷ s) (suc i) l = let h = sum_suc s i (omega arith) in omega arith

pub sum_more : (s : List ℕ) (i : ℕ) → i < length s → sum_of (take (i + 1) s) ≡ sum_of (take i s) + get_or s i 0
sum_more s i l = ap (λ (n : ℕ). sum_of (take n s)) (add-one i) ∙ sum_suc s i l
