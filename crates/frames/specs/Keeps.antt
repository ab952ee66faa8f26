-- What a writer leaves unchanged: the whole output if it refuses; otherwise the output's length, and every byte after the frame.
use Rattle.std.specs.Prelude.{ℕ, List, ◌≡◌, length, drop, Result}
use Rattle.digits.specs.declared.refusal.Refusal.{Refusal}
use Rattle.digits.specs.Told.{gives, refuses}
use Rattle.frames.specs.declared.refusals.WriteRefusal.{WriteRefusal}
use Rattle.frames.specs.Refusals.{write_told}
use Rattle.frames.specs.Kind.{Kind, Wrote}
use Rattle.frames.specs.Request.{request}
use Rattle.frames.specs.Reply.{reply}
use Rattle.frames.specs.Dynamic.{dynamic}

pub record Keeps {R : Type 0} (k : Kind R) : Type 0 where
  pub refused : (r : R) (out out' : List ℕ) (a : Result (Unit {0}) WriteRefusal) → Wrote k r out a out' → (f : Refusal) → write_told a ≡ refuses f → out' ≡ out
  pub written : (r : R) (out out' : List ℕ) (a : Result (Unit {0}) WriteRefusal) → Wrote k r out a out' → write_told a ≡ gives tt
      → (length out' ≡ length out) × (drop k.size out' ≡ drop k.size out)

abbrev pub WritersKeep : Type 0
WritersKeep = Keeps request × Keeps reply × Keeps dynamic
