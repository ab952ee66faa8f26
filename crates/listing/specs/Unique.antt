-- Only one outcome meets the promise of listing: its answer, and all memory that is lent.
use Rattle.std.specs.Prelude.{ℕ, List, Result}
use Rattle.digits.specs.Once.{Once}
use Rattle.listing.specs.declared.ListRefusal.{ListRefusal}
use Rattle.listing.specs.Listing.{Listed}

pub record OneOutcome : Type 0 where
  pub list : (lent-cells lent-marks s out : List ℕ)
      → Once (λ (o : Result ℕ ListRefusal × (List ℕ × (List ℕ × List ℕ))). Listed lent-cells lent-marks s out o.0 o.1.0 o.1.1.0 o.1.1.1)
