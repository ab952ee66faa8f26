-- `desk::columns::Columns::find` meets its contract.
use Prim.Native.Nat.{ℕ}
use mathlib.Core.Bool.{cond}
use mathlib.Core.Path.{ap, ap₂, ◌∙◌}
use lib.Dec.{eqb, ltb}
use borrow.Author.Rules.{rules}
use borrow.Author.Tests.{tests}
use Rattle.std.proofs.Common.{Some, None}
use Rattle.std.proofs.lemmas.Iterator.{YieldsList-from_slice}
use Rattle.std.proofs.lemmas.Iterator.Search.{position_from_yields_List}
use Rattle.desk.specs.Below.{first}
use Rattle.desk.specs.inside.Columns.{key_is}
use Rattle.desk.proofs.Below.{first_place}
use Rattle.desk.proofs.columns.Columns.find.Goals as goal

pub returns : goal.returns
returns c =
    let a = c.args.self.now in
    let k : ℕ = c.args.key in
    let n = a.sized.all_keys in
    position_from_yields_List (λ x. eqb x k) _ _ _ c.position.ensures.ran (YieldsList-from_slice a.keys cc) (λ x b q h. search (rules, tests))
    ∙ ap₂ (λ (m l : ℕ). cond (ltb m l) (Some m) None) (first_place (λ x. eqb x k) a.keys ∙ ap (λ (l : ℕ). first l (key_is a.keys k)) n) n
