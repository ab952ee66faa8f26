-- The lines of a list: a row is one line, since no held frame shows an LF. Assumes nothing.
use Prim.Native.Nat.{ℕ, zero, suc, ◌+◌, ◌-◌, ◌≤◌, ◌<◌}
use mathlib.Core.List.{List, [], ◌∷◌, ◌++◌}
use mathlib.Core.Bool.{Bool, true, cond, false≢true, ◌&&◌}
use mathlib.Core.Path.{◌≡◌, refl, ap, ◌∙◌}
use native.Mathlib.Omega.{arith}
use lib.Dec.{eqb, leb}
use lib.ListN.{length, take, drop, length-append}
use lib.Seq.{slice, take-append-le}
use borrow.Author.Tests.{leb-true, le-leb, ne_eqb}
use Rattle.digits.specs.Told.{Told, gives, refuses}
use Rattle.digits.proofs.Tests.{by-test, and_true, and_l, and_r}
use Rattle.text.specs.Decimal.{decimal}
use Rattle.text.specs.Lines.{LF, lines}
use Rattle.text.specs.Address.{address_shown}
use Rattle.text.proofs.LineLaws.{lines_both, decimal_none}
use Rattle.frames.specs.declared.reply.StaticReply.{StaticReply}
use Rattle.frames.specs.declared.reply.ReplyLabel.{ReplyLabel}
use Rattle.frames.specs.Rules.{space, between, is_raw}
use Rattle.frames.specs.Kind.{CR, read}
use Rattle.frames.specs.Reply.{reply, labelled}
use Rattle.finder.specs.Pieces.{pieces}
use Rattle.finder.specs.Demands.{every}
use Rattle.finder.proofs.Taken.{Printable, reply_printable}
use Rattle.desk.specs.Limits.{seat_count, cell_size}
use Rattle.desk.specs.declared.key.Key.{Key}
use Rattle.desk.specs.declared.capture.Counts.{Counts}
use Rattle.desk.specs.Hearing.{heard, has_key}
use Rattle.desk.specs.Key.{seat_key}
use Rattle.desk.specs.Seats.{seat_at}
use Rattle.desk.specs.Memory.{Memory, cell_at, mark_at, records_of, held_by}
use Rattle.desk.proofs.ReplayLaws.{desk_facts, cell_keyed_law}
use Rattle.desk.proofs.LeavesLaws.{all_desk}
use Rattle.desk.proofs.HearingLaws.{heard_long}
use Rattle.listing.specs.Text.{Look, plain, address, looks, Column, columns, part, shown, heading, row_text, rows_text, count_text, end_text}
use Rattle.listing.specs.Listing.{most_input, store, seats_text, list_text, after, counts, list_of}
use Rattle.listing.specs.Sizes.{rows_in, LinesAreRows}
use Rattle.listing.proofs.StoreLaws.{store_desk}
use Rattle.listing.proofs.CountLaws.{rows_are_collected}

-- ---- texts without LF

raw_none : (l : List ℕ) → every is_raw l ≡ true → lines l ≡ 0
unfolding is_raw between
raw_none [] e = refl
raw_none (x ∷ l) e =
    let h = leb-true 32 x (and_l (leb 32 x) (leb x 126) (and_l (is_raw x) (every is_raw l) e)) in
    rw (ne_eqb x LF (λ q. omega arith)) (raw_none l (and_r (is_raw x) (every is_raw l) e))

count_none : (n : ℕ) → lines (count_text n) ≡ 0
count_none n = decimal_none n

every_take : (p : ℕ → Bool) (n : ℕ) (l : List ℕ) → every p l ≡ true → every p (take n l) ≡ true
every_take p zero l e = refl
every_take p (suc n) [] e = refl
every_take p (suc n) (x ∷ l) e = and_true (and_l (p x) (every p l) e) (every_take p n l (and_r (p x) (every p l) e))

every_drop : (p : ℕ → Bool) (n : ℕ) (l : List ℕ) → every p l ≡ true → every p (drop n l) ≡ true
every_drop p zero l e = e
every_drop p (suc n) [] e = refl
every_drop p (suc n) (x ∷ l) e = every_drop p n l (and_r (p x) (every p l) e)

-- what a column shows has no LF either
shown_raw_law : (b : ℕ) → is_raw b ≡ true → is_raw (address_shown b) ≡ true
unfolding address_shown is_raw between
shown_raw_law b e = by-test (eqb b space) (λ q. rw q) (λ q. rw q e)

looks_raw : (k : Look) (l : List ℕ) → every is_raw l ≡ true → every is_raw (looks k l) ≡ true
looks_raw plain l e = e
looks_raw address [] e = refl
looks_raw address (b ∷ l) e = and_true (shown_raw_law b (and_l (is_raw b) (every is_raw l) e)) (looks_raw address l (and_r (is_raw b) (every is_raw l) e))

-- ---- a row

-- columns between lead byte and CR
abbrev within : List Column → Bool
within [] = true
within (c ∷ cs) = (leb 1 c.from && leb 1 c.to && leb c.to (cell_size - 1)) && within cs

module _ (inner : List ℕ) (long : length inner ≡ cell_size - 2) (raw : every is_raw inner ≡ true) where
  part_raw : (a e : ℕ) → 1 ≤ a → 1 ≤ e → e ≤ cell_size - 1 → every is_raw (slice a e (18 ∷ (inner ++ (CR ∷ [])))) ≡ true
  part_raw zero e h k l = absurd (omega arith)
  part_raw (suc a) zero h k l = absurd (omega arith)
  part_raw (suc a) (suc e) h k l =
      rw (take-append-le e inner (CR ∷ []) (omega arith)) (every_drop is_raw a (take e inner) (every_take is_raw e inner raw))

  shown_none : (cs : List Column) → within cs ≡ true → lines (shown (18 ∷ (inner ++ (CR ∷ []))) cs) ≡ 0
  shown_none [] w = refl
  shown_none (c ∷ cs) w =
      let t = and_l (leb 1 c.from && leb 1 c.to && leb c.to (cell_size - 1)) (within cs) w in
      let u = and_l (leb 1 c.from && leb 1 c.to) (leb c.to (cell_size - 1)) t in
      let x = raw_none (part (18 ∷ (inner ++ (CR ∷ []))) c) (looks_raw c.look (slice c.from c.to (18 ∷ (inner ++ (CR ∷ [])))) (part_raw c.from c.to (leb-true 1 c.from (and_l (leb 1 c.from) (leb 1 c.to) u)) (leb-true 1 c.to (and_r (leb 1 c.from) (leb 1 c.to) u)) (leb-true c.to (cell_size - 1) (and_r (leb 1 c.from && leb 1 c.to) (leb c.to (cell_size - 1)) t)))) in
      let y = shown_none cs (and_r (leb 1 c.from && leb 1 c.to && leb c.to (cell_size - 1)) (within cs) w) in
      lines_both (part (18 ∷ (inner ++ (CR ∷ []))) c) (shown (18 ∷ (inner ++ (CR ∷ []))) cs) ∙ omega (arith, x, y)

row_one : (s : ℕ) (f : List ℕ) → length f ≡ cell_size → Printable 18 f → lines (row_text s f) ≡ 1
unfolding row_text columns
row_one s f l p =
    let n = length-append p.inner (CR ∷ []) in
    let e : length f ≡ length (18 ∷ (p.inner ++ (CR ∷ []))) = ap length p.is in
    let x : lines (shown f columns) ≡ 0 = rw p.is (shown_none p.inner (omega (arith, n, e, l)) p.raw columns refl) in
    let d = decimal_none s in
    let a = lines_both (decimal s ++ shown f columns) (LF ∷ []) in
    let b = lines_both (decimal s) (shown f columns) in
    a ∙ omega (arith, b, d, x)

-- ---- the rows of a desk

-- a well formed reply
Good : List ℕ → Type 0
Good f = (length f ≡ cell_size) × Printable 18 f

heard_good : (f : List ℕ) (x : Told StaticReply) → read reply f ≡ x → (k : Key) → has_key k (labelled x) ≡ true → Printable 18 f
heard_good f (gives r) e k h = reply_printable f r e
heard_good f (refuses why) e k h = absurd (false≢true h)

given_long : (f : List ℕ) (x : Told ReplyLabel) → heard f ≡ x → (k : Key) → has_key k x ≡ true → length f ≡ cell_size
given_long f (gives c) e k h = heard_long f c e
given_long f (refuses why) e k h = absurd (false≢true h)

keyed_good : (f : List ℕ) (k : Key) → has_key k (heard f) ≡ true → Good f
unfolding heard Good
keyed_good f k h = (given_long f (heard f) refl k h, heard_good f (read reply f) refl k h)

rows_lines : (s : ℕ) (fs gs : List (List ℕ)) → lines (rows_text s (fs ++ gs)) ≡ lines (rows_text s fs) + lines (rows_text s gs)
rows_lines s [] gs = omega arith
rows_lines s (f ∷ fs) gs =
    let h = rows_lines s fs gs in
    let a = lines_both (row_text s f) (rows_text s (fs ++ gs)) in
    let b = lines_both (row_text s f) (rows_text s fs) in
    omega (arith, h, a, b)

module _ (cells marks : List ℕ) (s : ℕ) where
  seat_lines : (n : ℕ) → ((i : ℕ) → i < n → Good (cell_at cells i)) → lines (rows_text s (records_of cells marks s n)) ≡ length (records_of cells marks s n)
  unfolding records_of Good
  seat_lines zero g = refl
  seat_lines (suc n) g =
      let h = seat_lines n (λ i l. g i (omega arith)) in
      let q = g n (omega arith) in
      let one = row_one s (cell_at cells n) q.0 q.1 in
      let a = lines_both (row_text s (cell_at cells n)) [] in
      let last = cond (eqb (mark_at marks n) s) (cell_at cells n ∷ []) [] in
      let same : lines (rows_text s last) ≡ length last = by-test (eqb (mark_at marks n) s) (λ e. rw e (omega (arith, a, one))) (λ e. rw e refl) in
      rows_lines s (records_of cells marks s n) last ∙ omega (arith, h, same, length-append (records_of cells marks s n) last)

seats_lines : (m : Memory) → ((i : ℕ) → i < m.count → Good (cell_at m.cells i)) → (n : ℕ) → lines (seats_text m n) ≡ rows_in m n
unfolding seats_text rows_in
seats_lines m g zero = refl
seats_lines m g (suc n) =
    let h = seats_lines m g n in
    let r = seat_lines m.cells m.marks n m.count g in
    lines_both (seats_text m n) (rows_text n (held_by m n)) ∙ omega (arith, h, r)

end_one : (c : Counts) → lines (end_text c) ≡ 1
unfolding end_text
end_one c =
    let o = count_none c.opened in
    let k = count_none c.collected in
    let d = count_none c.dynamic in
    let r = count_none c.refused in
    simp (lines_both, o, k, d, r)

pub lines_are_rows : LinesAreRows
unfolding list_of list_text
lines_are_rows cells marks s l =
    let m = after cells marks s in
    let facts = desk_facts m (all_desk (store cells marks) (pieces s) (store_desk cells marks s)) in
    let rows = seats_lines m (λ i h. keyed_good (cell_at m.cells i) (seat_key (seat_at m.row (mark_at m.marks i))) (cell_keyed_law m facts i h)) seat_count in
    let c = counts cells marks s in
    let a = lines_both (heading ++ seats_text m seat_count) (end_text c) in
    let b = lines_both heading (seats_text m seat_count) in
    let one : lines heading ≡ 1 = refl in
    rw (le-leb (length s) most_input l) (a ∙ omega (arith, b, one, rows, rows_are_collected cells marks s, end_one c))
