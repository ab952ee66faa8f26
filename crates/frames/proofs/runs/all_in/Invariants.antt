-- `frames::runs::all_in` meets its contract: `good` says whether the bytes so far meet the rule.
use Rattle.std.proofs.Common.{◌≡◌, ◌-◌, ℕ, Bool, length}
use mathlib.Core.Bool.{◌&&◌}
use Rattle.frames.specs.Shape.{all_from}
use Rattle.frames.specs.inside.Runs.{Answers}
use Rattle.frames.proofs.runs.all_in.Given as goal

abbrev pub invariant-loop-b : goal.invariant-loop-b
invariant-loop-b g l =
    (test : ℕ → Bool) → Answers (goal.F-post g l.rule) test
    → all_from test l.bytes 0 (length l.bytes) ≡ l.good && all_from test l.bytes l.b-index (length l.bytes - l.b-index)
