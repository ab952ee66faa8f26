-- `desk::columns::Columns::same_progress` meets its contract.
use mathlib.Core.Bool.{Bool, ◌&&◌}
use mathlib.Core.Path.{ap₂, ◌∙◌}
use Rattle.desk.specs.Limits.{seat_count}
use Rattle.desk.proofs.Below.{pointwise_all}
use Rattle.desk.proofs.columns.Columns.same_progress.Goals as goal

pub returns : goal.returns
returns c =
    let a = c.args.self.now in
    let b = c.args.other.now in
    ap₂ (λ (x y : Bool). x && y)
    (c.eq.ensures ∙ pointwise_all seat_count a.held b.held a.sized.all_held b.sized.all_held)
    (c.eq-2.ensures ∙ pointwise_all seat_count a.ended b.ended a.sized.all_ended b.sized.all_ended)
