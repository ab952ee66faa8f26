-- `rei2::names::put_name` meets its contract.
use Prim.Native.Nat.{ℕ, ◌<◌, ◌≤◌}
use mathlib.Core.List.{List}
use mathlib.Core.Path.{ap, ◌∙◌}
use lib.ListN.{length, set}
use borrow.Author.Rules.{rules}
use Rattle.rei2.proofs.NameLaws.{no_room, put_whole}
use Rattle.rei2.proofs.names.put_name.Goals as goal

pub returns-then-out-size : goal.returns-then-out-size
returns-then-out-size c =
    let a = c.args in
    let l : length a.out.now ≤ length a.name.now = search rules in
    rw (c.not_written.ensures, c.plain.ensures) (no_room a.name.now a.out.now l)

pub returns : goal.returns
returns c =
    let a = c.args in
    let l : length a.name.now < length a.out.now = search rules in
    put_whole a.name.now a.out.now l _
    (c.put_byte.ensures ∙ ap (λ (x : List ℕ). set x (length a.name.now) 0) c.put_all.ensures)
