-- `page::take::is_written` meets its contract.
use Rattle.std.proofs.Common.{ℕ, List, ap, ◌∙◌}
use Rattle.text.proofs.PutLaws.{put_whole}
use Rattle.lines.specs.Tokens.{same}
use Rattle.page.specs.Version.{one}
use Rattle.page.proofs.VersionLaws.{one_shows_all}
use Rattle.page.proofs.SameLaws.{same_by}
use Rattle.page.proofs.CodeLaws.{seat_long}
use Rattle.page.proofs.take.is_written.Goals as goal

pub put_seat_line-requires : goal.put_seat_line-requires
put_seat_line-requires c = c.requires

pub returns : goal.returns
returns c =
    let a = c.args in
    let e = put_whole _ _ _ _ (seat_long one one_shows_all.sound a.i a.k a.ended) c.put_seat_line.ensures in
    c.eq.ensures ∙ same_by _ _ ∙ ap (λ (w : List ℕ). same w a.line.now) (c.as_slice.ensures ∙ e)
