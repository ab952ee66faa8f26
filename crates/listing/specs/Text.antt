-- The lines of a list.
use Rattle.std.specs.Prelude.{ℕ, List, [], ◌∷◌, ◌++◌, map, ◌≡◌}
use Rattle.std.proofs.Math.Seq.{slice}
use Rattle.digits.specs.Text.{codes}
use Rattle.text.specs.Decimal.{decimal}
use Rattle.text.specs.Lines.{TAB, LF}
use Rattle.text.specs.Address.{address_shown}
use Rattle.desk.specs.declared.capture.Counts.{Counts}

-- ---- columns: a name, the bytes of a frame that are shown under it, and how they are shown

-- as they are, or as an address
pub data Look : Type 0 where
  plain : Look
  address : Look

pub record Column : Type 0 where
  pub name : List ℕ
  pub from : ℕ
  pub to : ℕ
  pub look : Look

abbrev pub looks : Look → List ℕ → List ℕ
looks plain bytes = bytes
looks address bytes = map address_shown bytes

-- the number is shown as in the request, with its last three digits; the first two are zero
unfoldable pub columns : List Column
columns =
    record { name = codes "from"; from = 6; to = 7; look = plain }
    ∷ record { name = codes "addr"; from = 2; to = 3; look = address }
    ∷ record { name = codes "number"; from = 9; to = 12; look = plain }
    ∷ record { name = codes "bib"; from = 12; to = 17; look = plain }
    ∷ record { name = codes "group"; from = 17; to = 20; look = plain }
    ∷ record { name = codes "run"; from = 20; to = 23; look = plain }
    ∷ record { name = codes "phys"; from = 23; to = 26; look = plain }
    ∷ record { name = codes "log"; from = 26; to = 29; look = plain }
    ∷ record { name = codes "info"; from = 29; to = 30; look = plain }
    ∷ record { name = codes "time"; from = 30; to = 40; look = plain }
    ∷ record { name = codes "date"; from = 40; to = 48; look = plain }
    ∷ record { name = codes "status"; from = 5; to = 6; look = plain }
    ∷ []

-- ---- the heading

abbrev pub heading : List ℕ
heading = codes "seat\tfrom\taddr\tnumber\tbib\tgroup\trun\tphys\tlog\tinfo\ttime\tdate\tstatus\n"

abbrev pub named : List Column → List ℕ
named [] = LF ∷ []
named (c ∷ cs) = TAB ∷ (c.name ++ named cs)

-- the heading has the names of the columns
abbrev pub HeadingNamesColumns : Type 0
HeadingNamesColumns = heading ≡ codes "seat" ++ named columns

-- ---- rows

-- what a column shows of a frame
abbrev pub part : List ℕ → Column → List ℕ
part f c = looks c.look (slice c.from c.to f)

abbrev pub shown : List ℕ → List Column → List ℕ
shown f [] = []
shown f (c ∷ cs) = TAB ∷ (part f c ++ shown f cs)

unfoldable pub row_text : ℕ → List ℕ → List ℕ
row_text s f = decimal s ++ shown f columns ++ (LF ∷ [])

abbrev pub rows_text : ℕ → List (List ℕ) → List ℕ
rows_text s [] = []
rows_text s (f ∷ fs) = row_text s f ++ rows_text s fs

-- ---- the end line

abbrev pub end : List ℕ
end = codes "end"

abbrev pub count_text : ℕ → List ℕ
count_text n = TAB ∷ decimal n

unfoldable pub end_text : Counts → List ℕ
end_text c = end ++ count_text c.opened ++ count_text c.collected ++ count_text c.dynamic ++ count_text c.refused ++ (LF ∷ [])

abbrev pub too_long : List ℕ
too_long = codes "input too long\n"
