-- What follows for a value from a rule that takes it. Assumes nothing.
use Rattle.std.specs.Prelude.{Option, Some, None, IfSome}
use Prim.Native.Nat.{ℕ, ◌≤◌, ◌<◌}
use mathlib.Core.Bool.{Bool, true, false, true≢false, ◌||◌, and-eq-true_iff}
use mathlib.Core.Path.{◌≡◌, refl}
use native.Mathlib.Omega.{arith}
use lib.Dec.{T, leb, eqb, leb→le}
use borrow.Author.Tests.{leb-true, eqb-true}
use Rattle.digits.proofs.Reading.{over}
use Rattle.frames.specs.Rules.{between, up_to}

pub up_to_law : (hi v : ℕ) → up_to hi v ≡ true → v ≤ hi
unfolding up_to
up_to_law hi v e = leb-true v hi e

pub or_cases : (a b : Bool) (P : Type 0) → (a ≡ true → P) → (b ≡ true → P) → (a || b) ≡ true → P
or_cases true b P f g e = f refl
or_cases false b P f g e = g e

pub or_false : (a b : Bool) → (a || b) ≡ false → (a ≡ false) × (b ≡ false)
or_false true b e = absurd (true≢false e)
or_false false b e = (refl, e)

-- a rule that takes one more number
pub or_one : {a : Bool} (v n hi : ℕ) → T (leb n hi) → (a ≡ true → v ≤ hi) → (a || eqb v n) ≡ true → v ≤ hi
or_one {a} v n hi t h e = or_cases a (eqb v n) (v ≤ hi) h (λ p. let k = leb→le n hi t in let q = eqb-true v n p in omega arith) e

pub in_range_law : (lo hi v : ℕ) → between lo hi v ≡ true → v ≤ hi
unfolding between
in_range_law lo hi v e = leb-true v hi ((and-eq-true_iff (leb lo v) (leb v hi)).0 e).1

-- the value that is held for no number is in no range
pub none_in_range : (lo hi : ℕ) → hi < 4294967295 → between lo hi 4294967295 ≡ false
unfolding between
none_in_range lo hi h = over lo hi 4294967295 h

-- logical channels are all below 256
pub to_240 : (v : ℕ) → leb v 240 ≡ true → v ≤ 255
to_240 v e = let h = leb-true v 240 e in omega arith

-- what holds of each number that may be found
pub if_found : {P : ℕ → Type 0} (x : Option ℕ) → ((v : ℕ) → x ≡ Some v → P v) → IfSome x P
if_found (Some v) h = h v refl
if_found None h = tt
