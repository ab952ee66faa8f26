-- `desk::tally::status_index` meets its contract.
use Prim.Native.Nat.{ℕ, ◌/◌, ◌%◌}
use mathlib.Core.Bool.{Bool, true, cond}
use mathlib.Core.Path.{refl, sym, ap, ◌∙◌}
use lib.Dec.{eqb}
use borrow.Author.Tests.{eqb-true}
use Rattle.digits.specs.Text.{one_of, place_of}
use Rattle.digits.proofs.Tables.{agreed}
use Rattle.frames.specs.Status.{is_status, status_place}
use Rattle.desk.proofs.tally.status_index.Goals as goal

pub returns : goal.returns
unfolding one_of place_of is_status status_place
returns c =
    let s : ℕ = c.args.status in
    let all = agreed (λ b. cond (is_status b) (eqb (b / 4 % 4) (status_place b)) true) (λ b. true) 256 refl s c.ranges.status.fits in
    eqb-true (s / 4 % 4) (status_place s) (sym (ap (λ (t : Bool). cond t (eqb (s / 4 % 4) (status_place s)) true) c.requires) ∙ all)
