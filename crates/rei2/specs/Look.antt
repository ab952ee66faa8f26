-- A look at the tally, in numbers: the refusal, and the number that was found.
use Rattle.std.specs.Prelude.{ℕ}
use Rattle.digits.specs.Told.{Told}
use Rattle.rei2.specs.declared.look.LookedAnswer.{LookedAnswer}
use Rattle.rei2.specs.Numbers.{number_in, value_in}

abbrev pub look_answer : Told ℕ → LookedAnswer
look_answer t = record { refusal = number_in t; held = value_in 0 t }
