-- `digits::number_at` meets its contract: each turn is one step of `number_from`.
use mathlib.Core.Path.{◌≡◌}
use Prim.Native.Nat.{◌+◌, ◌-◌, ◌<◌, ◌^◌}
use Rattle.digits.specs.Digits.{number_from, number_at}
use Rattle.digits.proofs.number_at.Given as goal

abbrev pub invariant-loop-b : goal.invariant-loop-b
invariant-loop-b l =
    record { read : number_at l.fn.s l.fn.at l.fn.width ≡ number_from l.fn.s (l.fn.at + l.b-index) (l.fn.width - l.b-index) l.v; small : l.v < 10 ^ l.b-index }
