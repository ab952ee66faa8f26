-- `page::read::check` meets its contract: after each line, what the machine has to say of the text is what it still has to say from there on.
use Rattle.std.proofs.Common.{◌≡◌, ℕ, ◌+◌, ◌-◌, ◌≤◌, List, length}
use Rattle.lines.specs.Machine.{verdict}
use Rattle.page.specs.declared.sofar.Sofar.{Sofar}
use Rattle.page.specs.Version.{one}
use Rattle.page.specs.inside.Machine.{machine}
use Rattle.page.specs.inside.Checking.{left_from, read_to}
use Rattle.page.proofs.read.check.Given as goal

pub record Came (text : List ℕ) (at : ℕ) (s : Sofar) (n : ℕ) : Type 0 where
  pub inside : at ≤ length text
  pub few : n ≤ 1 + (s.bits + s.count)
  pub is : verdict (machine one) text ≡ left_from text (read_to text at s) n at

abbrev pub invariant-loop-at : goal.invariant-loop-at
invariant-loop-at l = Came l.text l.at l.s l.n

abbrev pub decreases-loop-at : goal.decreases-loop-at
decreases-loop-at l = length l.text - l.at
