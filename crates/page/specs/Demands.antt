-- What is demanded of pages, for every version: a page shows all of its desk below the count, what is read back is a desk with the same page, and every text is a page or has a first wrong line.
use Rattle.std.specs.Prelude.{◌≡◌, ℕ, ◌*◌, true, List, take}
use Rattle.lines.specs.Demands.{SomePage, FirstLine}
use Rattle.desk.specs.Limits.{cell_size}
use Rattle.desk.specs.Memory.{Memory}
use Rattle.desk.specs.Desk.{is_desk}
use Rattle.page.specs.Version.{Version, Sound, showable}
use Rattle.page.specs.Page.{page}
use Rattle.page.specs.Reading.{has_room, restored, Writes}

-- what a page shows of a desk: all that is not beyond the count
pub record SameBelow (d e : Memory) : Type 0 where
  pub row : d.row ≡ e.row
  pub bits : d.bits ≡ e.bits
  pub count : d.count ≡ e.count
  pub cells : take (d.count * cell_size) d.cells ≡ take (e.count * cell_size) e.cells
  pub marks : take d.count d.marks ≡ take e.count e.marks
  pub tally : d.tally ≡ e.tally

-- for every version: desks agree below the count exactly if they have the same page
pub record PagesTell (v : Version) : Type 0 where
  pub one_page : (d e : Memory) → showable v d ≡ true → showable v e ≡ true → SameBelow d e → page v d ≡ page v e
  pub one_desk : (d e : Memory) → showable v d ≡ true → showable v e ≡ true → page v d ≡ page v e → SameBelow d e

abbrev pub PagesTellDesks : Type 0
PagesTellDesks = (v : Version) → Sound v → PagesTell v

-- reading what was written leaves a desk again, with that page; for every version
abbrev pub RestoredIsDesk : Type 0
RestoredIsDesk =
    (v : Version) → Sound v → (m d : Memory) → showable v d ≡ true → has_room m d ≡ true
    → (is_desk (restored m d) ≡ true) × (page v (restored m d) ≡ page v d)

-- every text is the page of a desk, or no desk writes it; and then it has a first line up to which no desk's page begins so
pub data Judged (v : Version) (text : List ℕ) : Type 0 where
  is_page : (d : Memory) → Writes v d text → Judged v text
  is_none : (n : ℕ) → (SomePage (showable v) (page v) text → ⊥) → FirstLine (showable v) (page v) text n → Judged v text

abbrev pub EveryTextIsJudged : Type 0
EveryTextIsJudged = (v : Version) → Sound v → (text : List ℕ) → Judged v text
