-- `page::take::key_shown` meets its contract: a number of three digits fits in 32 bits.
use Rattle.std.proofs.Common.{◌≡◌, ℕ, ◌<◌, List, Option, Some, None, unwrap_or, arith, rules, sym}
use Rattle.digits.specs.Digits.{number_at}
use Rattle.digits.proofs.Laws.{small_number}
use Rattle.page.proofs.take.key_shown.Goals as goal

small_guess : (s : List ℕ) (t : Option ℕ) → number_at s 6 3 ≡ t → unwrap_or t 0 < 4294967296
small_guess s None e = omega arith
small_guess s (Some n) e = small_number s 6 3 n (omega arith) e

pub overflow_cast-result-3 : goal.overflow_cast-result-3
overflow_cast-result-3 c =
    let h = small_guess _ _ (sym c.number_at.ensures) in
    let e = c.unwrap_or.ensures in
    search rules
