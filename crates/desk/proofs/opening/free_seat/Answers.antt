-- `desk::opening::free_seat` meets its contract.
use mathlib.Core.Path.{ap, ◌∙◌}
use Prim.Native.Nat.{ℕ}
use lib.Dec.{ltb}
use Rattle.std.specs.Bool.{then_some}
use Rattle.desk.specs.Limits.{seat_count}
use Rattle.desk.proofs.Bits.{trailing_most, lowest_clear_law}
use Rattle.desk.proofs.ClauseLaws.{some_if}
use Rattle.desk.specs.Seats.{lowest_clear}
use borrow.Author.Rules.{rules}
use Rattle.desk.proofs.opening.free_seat.Goals as goal

pub overflow_cast-seat : goal.overflow_cast-seat
overflow_cast-seat c = let m = trailing_most 64 c.args.bits (search rules) in search rules

pub returns : goal.returns
unfolding lowest_clear
returns c = c.then_some.ensures ∙ ap (λ (n : ℕ). then_some (ltb n seat_count) n) (lowest_clear_law 64 c.args.bits (search rules)) ∙ some_if _ _
