-- `frames::spoiled::first_off` meets its contract: each turn of the loop is one look.
use mathlib.Core.Path.{◌≡◌}
use Prim.Native.Nat.{◌≤◌}
use lib.ListN.{length}
use Rattle.frames.specs.Classes.{first_off}
use Rattle.frames.specs.inside.Spoiled.{classes_of}
use Rattle.frames.proofs.ClassLaws.{left}
use Rattle.frames.proofs.spoiled.first_off.Given as goal

abbrev pub invariant-loop-i : goal.invariant-loop-i
invariant-loop-i l = (first_off (classes_of l.text) l.s l.at l.at ≡ left l.s l.at l.text l.i) × (l.i ≤ length l.text)
