-- `page::sum::page_sum` meets its contract: the sum of the bytes passed, modulo 65,536.
use Rattle.std.proofs.Common.{◌≡◌, ◌%◌, take}
use Rattle.page.specs.Sum.{sum_of, sum_modulus}
use Rattle.page.proofs.sum.page_sum.Given as goal

abbrev pub invariant-loop-b : goal.invariant-loop-b
invariant-loop-b l = l.sum ≡ sum_of (take l.b-index l.s) % sum_modulus
