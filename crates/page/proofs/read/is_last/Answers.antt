-- `page::read::is_last` meets its contract.
use Rattle.std.proofs.Common.{◌∙◌}
use Rattle.text.proofs.PutLaws.{put_whole}
use Rattle.page.specs.Version.{one}
use Rattle.page.proofs.VersionLaws.{one_shows_all}
use Rattle.page.proofs.SameLaws.{same_by}
use Rattle.page.proofs.CodeLaws.{last_long}
use Rattle.page.proofs.ReadLaws.{last_by}
use Rattle.page.proofs.read.is_last.Goals as goal

pub returns : goal.returns
returns c =
    let put = put_whole _ _ _ _ (last_long one one_shows_all.sound _ _) c.put_last_line.ensures in
    last_by _ _ _ _ _ _ (c.eq.ensures ∙ same_by _ _) (c.as_slice.ensures ∙ put) c.page_sum.ensures
