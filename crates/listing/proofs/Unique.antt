-- Only one outcome meets the promise of listing. Assumes nothing.
use Prim.Native.Nat.{ℕ}
use mathlib.Core.Path.{◌≡◌, refl, sym, ap, ◌∙◌}
use Rattle.digits.specs.Told.{Told, gives, refuses}
use Rattle.std.specs.Prelude.{Result, Ok, Err}
use Rattle.listing.specs.declared.ListRefusal.{ListRefusal}
use Rattle.listing.specs.declared.ListRefusal.TheVariants.{Room}
use Rattle.listing.specs.Listing.{list_told}
use Rattle.listing.specs.Unique.{OneOutcome}

abbrev list_back : Told ℕ → Result ℕ ListRefusal
list_back (gives n) = Ok n
list_back (refuses f) = Err Room

list_back_law : (a : Result ℕ ListRefusal) → list_back (list_told a) ≡ a
list_back_law (Ok n) = refl
list_back_law (Err Room) = refl

pub one_outcome : OneOutcome
one_outcome = record {
  list = λ cells marks s out o p d e.
      let a = sym (list_back_law o.0) ∙ ap list_back (d.told ∙ sym e.told) ∙ list_back_law p.0 in
      let c = d.cells ∙ sym e.cells in
      let m = d.marks ∙ sym e.marks in
      let b = d.bytes ∙ sym e.bytes in
      λ i. (a i, (c i, (m i, b i)));
}
