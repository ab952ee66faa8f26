-- Laws of columns: the bytes that they show, a row that is put column by column, and the counts of the end line. Assumes nothing.
use Prim.Native.Nat.{ℕ, ◌+◌, ◌<◌, ◌≤◌}
use mathlib.Core.List.{List, [], ◌∷◌, ◌++◌, append-nil, append_assoc}
use mathlib.Core.Bool.{Bool, true, ◌&&◌}
use mathlib.Core.Path.{◌≡◌, refl, sym, ap, ◌∙◌}
use native.Mathlib.Omega.{arith}
use lib.ListN.{length, get_or, take, length-append, length-drop, length-take, length-map}
use native.Mathlib.Numerals.{add-one}
use lib.Seq.{slice, length-take-le, take-suc}
use Rattle.std.specs.List.{flat_map}
use Rattle.std.proofs.lemmas.List.{flat_map_more}
use Rattle.desk.specs.declared.capture.Counts.{Counts}
use lib.Dec.{leb}
use borrow.Author.Tests.{leb-true}
use Rattle.digits.proofs.Tests.{and_l, and_r}
use Rattle.text.specs.Put.{most_place, Put}
use Rattle.text.specs.Lines.{TAB, LF}
use Rattle.text.specs.Decimal.{width, decimal}
use Rattle.text.proofs.PutLaws.{put_then, put_parted, put_whole}
use Rattle.text.proofs.DecimalLaws.{decimal_length}
use Rattle.desk.specs.Limits.{cell_size}
use Rattle.text.specs.Address.{address_shown}
use Rattle.listing.specs.Text.{row_text, Look, plain, address, looks, Column, columns, part, shown, HeadingNamesColumns, end, count_text, end_text}
use Rattle.listing.specs.Sizes.{columns_size}

pub heading_names_columns : HeadingNamesColumns
unfolding columns
heading_names_columns = refl

-- ---- one more column

shown_last : (f : List ℕ) (cs : List Column) (c : Column) → shown f (cs ++ (c ∷ [])) ≡ shown f cs ++ (TAB ∷ part f c)
shown_last f [] c = ap (λ (l : List ℕ). TAB ∷ l) (append-nil (part f c))
shown_last f (d ∷ cs) c =
    ap (λ (l : List ℕ). TAB ∷ (part f d ++ l)) (shown_last f cs c)
    ∙ ap (λ (l : List ℕ). TAB ∷ l) (sym (append_assoc (part f d) (shown f cs) (TAB ∷ part f c)))

-- the column at a place
abbrev column : ℕ → Column
column i = get_or columns i (record { name = []; from = 0; to = 0; look = plain })

module _ (out f : List ℕ) (n : length out ≤ most_place) where
  pub column_more : (i p : ℕ) (mid : List ℕ) (q : ℕ) (out' : List ℕ) → Put out 0 (shown f (take i columns)) p mid
      → Put mid p (TAB ∷ part f (column i)) q out' → Put out 0 (shown f (take i columns ++ (column i ∷ []))) q out'
  column_more i p mid q out' x y =
      rw (shown_last f (take i columns) (column i)) (put_then out 0 (shown f (take i columns)) p mid (TAB ∷ part f (column i)) q out' n x y)

-- the address is one byte of a frame
pub address_part : (f : List ℕ) → length f ≡ cell_size → looks address (slice 2 3 f) ≡ address_shown (get_or f 2 0) ∷ []
address_part [] l = absurd (omega arith)
address_part (a ∷ []) l = absurd (omega arith)
address_part (a ∷ b ∷ []) l = absurd (omega arith)
address_part (a ∷ b ∷ c ∷ f) l = refl

-- put after a tab
pub address_put : (out : List ℕ) (at : ℕ) (f : List ℕ) (p : ℕ) (mid : List ℕ) (r q : ℕ) (out' : List ℕ)
    → length out ≤ most_place → length f ≡ cell_size → r ≡ address_shown (get_or f 2 0) → Put out at (TAB ∷ []) p mid → Put mid p (r ∷ []) q out'
    → Put out at (TAB ∷ looks address (slice 2 3 f)) q out'
address_put out at f p mid r q out' n l e x y = rw (address_part f l, ← e) (put_then out at (TAB ∷ []) p mid (r ∷ []) q out' n x y)

-- ---- how long a row is

looks_length : (k : Look) (l : List ℕ) → length (looks k l) ≡ length l
looks_length plain l = refl
looks_length address l = length-map l address_shown

shown_short : (f : List ℕ) (cs : List Column) → length (shown f cs) ≤ columns_size cs
shown_short f [] = omega arith
shown_short f (c ∷ cs) =
    let h = shown_short f cs in
    let e = length-append (part f c) (shown f cs) in
    let k = looks_length c.look (slice c.from c.to f) in
    let a = length-drop c.from (take c.to f) in
    let b = length-take c.to f in
    omega (arith, h, e, k, a, b)

row_length : (s : ℕ) (f : List ℕ) → length (row_text s f) ≡ width s + length (shown f columns) + 1
unfolding row_text
row_length s f =
    let a = length-append (decimal s ++ shown f columns) (LF ∷ []) in
    let b = length-append (decimal s) (shown f columns) in
    let d = decimal_length s in
    omega (arith, a, b, d)

pub row_short : (s : ℕ) (f : List ℕ) → length (row_text s f) ≤ width s + columns_size columns + 1
row_short s f = let r = row_length s f in let c = shown_short f columns in omega (arith, r, c)

-- ---- a row of a whole frame

abbrev within : List Column → Bool
within [] = true
within (c ∷ cs) = leb c.to cell_size && within cs

shown_whole : (f : List ℕ) (cs : List Column) → length f ≡ cell_size → within cs ≡ true → length (shown f cs) ≡ columns_size cs
shown_whole f [] l w = refl
shown_whole f (c ∷ cs) l w =
    let h = shown_whole f cs l (and_r (leb c.to cell_size) (within cs) w) in
    let t = leb-true c.to cell_size (and_l (leb c.to cell_size) (within cs) w) in
    let e = length-append (part f c) (shown f cs) in
    let k = looks_length c.look (slice c.from c.to f) in
    let a = length-drop c.from (take c.to f) in
    let b = length-take-le c.to f (omega (arith, t, l)) in
    omega (arith, h, e, k, a, b)

columns_whole : (f : List ℕ) → length f ≡ cell_size → length (shown f columns) ≡ 54
unfolding columns
columns_whole f l = shown_whole f columns l refl

pub row_whole : (s : ℕ) (f : List ℕ) → length f ≡ cell_size → length (row_text s f) ≡ width s + 55
row_whole s f l = let r = row_length s f in let c = columns_whole f l in omega (arith, r, c)

-- ---- a row: columns and LF are put together on an array of their size, which is then put after the seat

module _ (s : ℕ) (f zeros : List ℕ) (q : ℕ) (shorter : List ℕ) (r : ℕ) (row : List ℕ) (l : length f ≡ cell_size) (z : length zeros ≡ 55) where
  together : Put zeros 0 (shown f columns) q shorter → Put shorter q (LF ∷ []) r row → row ≡ shown f columns ++ (LF ∷ [])
  together x y =
      let c = columns_whole f l in
      let n = length-append (shown f columns) (LF ∷ []) in
      put_whole zeros (shown f columns ++ (LF ∷ [])) r row (omega (arith, c, n, z)) (put_then zeros 0 (shown f columns) q shorter (LF ∷ []) r row (omega (arith, z)) x y)

  pub put_together : (out : List ℕ) (at p : ℕ) (mid : List ℕ) (end : ℕ) (out' : List ℕ) → length out ≤ most_place → Put zeros 0 (shown f columns) q shorter → Put shorter q (LF ∷ []) r row
      → Put out at (decimal s) p mid → Put mid p row end out' → Put out at (row_text s f) end out'
  unfolding row_text
  put_together out at p mid end out' n x y d t =
      rw (append_assoc (decimal s) (shown f columns) (LF ∷ [])) (put_then out at (decimal s) p mid (shown f columns ++ (LF ∷ [])) end out' n d (rw (together x y) at t))

-- ---- the end line

-- one more count
pub count_more : (out : List ℕ) (at : ℕ) (a ns : List ℕ) (i p : ℕ) (mid : List ℕ) (q : ℕ) (mid' : List ℕ) (r : ℕ) (out' : List ℕ)
    → length out ≤ most_place → i < length ns → Put out at (a ++ flat_map count_text (take i ns)) p mid → Put mid p (TAB ∷ []) q mid' → Put mid' q (decimal (get_or ns i 0)) r out'
    → Put out at (a ++ flat_map count_text (take (i + 1) ns)) r out'
count_more out at a ns i p mid q mid' r out' l h x y z =
    rw (add-one i, take-suc ns i 0 h, ← flat_map_more count_text a (take i ns) (get_or ns i 0)) (put_parted out at _ p mid TAB q mid' _ r out' l x y z)

four_then : (a b c d e l : List ℕ) → (a ++ (b ++ (c ++ (d ++ (e ++ []))))) ++ l ≡ a ++ b ++ c ++ d ++ e ++ l
four_then a b c d e l = simp (append_assoc, append-nil)

pub end_is : (c : Counts) → (end ++ flat_map count_text (c.opened ∷ c.collected ∷ c.dynamic ∷ c.refused ∷ [])) ++ (LF ∷ []) ≡ end_text c
unfolding end_text
end_is c = four_then end (count_text c.opened) (count_text c.collected) (count_text c.dynamic) (count_text c.refused) (LF ∷ [])
