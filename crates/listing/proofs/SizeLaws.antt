-- How long a list can be, and that its numbers are shown whole. Assumes nothing.
use Prim.Native.Nat.{ℕ, zero, suc, ◌+◌, ◌-◌, ◌*◌, ◌<◌, ◌≤◌}
use mathlib.Core.List.{List, [], ◌∷◌, ◌++◌}
use mathlib.Core.Bool.{cond}
use mathlib.Core.Path.{◌≡◌, refl, sym, ap, ◌∙◌}
use native.Mathlib.Omega.{arith}
use native.Mathlib.Nat.{suc-mul, add-mul, mul-le-mul_right}
use native.Mathlib.Numerals.{add-one}
use lib.ListN.{length, length-append}
use lib.Dec.{eqb, ltb}
use borrow.Author.Tests.{lt-ltb, ltb-true, ltb-false, eqb-true, eqb-false, ne_eqb, le-ltb, leb-true}
use Rattle.digits.proofs.Tests.{by-test}
use Rattle.text.specs.Decimal.{width, Whole}
use Rattle.text.specs.Lines.{LF}
use Rattle.text.proofs.DecimalLaws.{width_grows, decimal_length, decimal_is_whole}
use Rattle.finder.specs.Leads.{is_lead}
use Rattle.finder.specs.Demands.{count}
use Rattle.desk.specs.declared.capture.Counts.{Counts}
use Rattle.desk.specs.Limits.{seat_count, most_cells}
use Rattle.desk.specs.Below.{count_below}
use Rattle.desk.specs.Memory.{mark_at, cell_at, records_of}
use Rattle.desk.proofs.Below.{count_most}
use Rattle.desk.proofs.CaptureLaws.{counts_add_up}
use Rattle.listing.specs.Text.{row_text, rows_text, count_text, heading, end, end_text}
use Rattle.listing.specs.Listing.{most_input, store, after, counts, short, seats_text, list_text, list_of}
use Rattle.listing.specs.Sizes.{longest_row, longest_end, longest_list, ListFits, NumbersAreWhole}
use Rattle.listing.specs.inside.Rows.{seats_of}
use Rattle.listing.proofs.ColumnLaws.{row_short}
use Rattle.listing.proofs.RowLaws.{rows_more}
use Rattle.listing.proofs.StoreLaws.{after_fits}
use Rattle.listing.proofs.ListLaws.{seats_are}

-- ---- counts

leads_most : (s : List ℕ) → count is_lead s ≤ length s
leads_most [] = omega arith
leads_most (x ∷ s) = let h = leads_most s in by-test (is_lead x) (λ e. rw e (omega arith)) (λ e. rw e (omega arith))

-- no count is larger than the number of bytes of the capture
record Few (c : Counts) (n : ℕ) : Type 0 where
  opened : c.opened ≤ n
  collected : c.collected ≤ n
  dynamic : c.dynamic ≤ n
  refused : c.refused ≤ n

few : (cells marks s : List ℕ) (n : ℕ) → length s ≤ n → Few (counts cells marks s) n
few cells marks s n l =
    let a = counts_add_up (store cells marks) s in
    let b = leads_most s in
    record { opened = omega (arith, a, b); collected = omega (arith, a, b); dynamic = omega (arith, a, b); refused = omega (arith, a, b) }

-- no such number has more than twenty digits
whole : (n : ℕ) → n ≤ most_input → Whole n
whole n l = decimal_is_whole n (omega (arith, l))

pub numbers_are_whole : NumbersAreWhole
numbers_are_whole = record {
  opened = λ cells marks s l. whole (counts cells marks s).opened (few cells marks s most_input l).opened;
  collected = λ cells marks s l. whole (counts cells marks s).collected (few cells marks s most_input l).collected;
  dynamic = λ cells marks s l. whole (counts cells marks s).dynamic (few cells marks s most_input l).dynamic;
  refused = λ cells marks s l. whole (counts cells marks s).refused (few cells marks s most_input l).refused;
  seat = λ s l. decimal_is_whole s (omega (arith, l));
}

-- ---- rows: at most the longest row for each mark that names a seat

row_most : (s : ℕ) (f : List ℕ) → s < seat_count → length (row_text s f) ≤ longest_row
unfolding longest_row
row_most s f l = let h = row_short s f in let w = width_grows s (seat_count - 1) (omega arith) in omega (arith, h, w)

module _ (cells marks : List ℕ) where
  no_records : (s : ℕ) → records_of cells marks s zero ≡ []
  unfolding records_of
  no_records s = refl

  rows_most : (s : ℕ) → s < seat_count → (n : ℕ) → length (rows_text s (records_of cells marks s n)) ≤ count_below n (λ i. eqb (mark_at marks i) s) * longest_row
  unfolding count_below
  rows_most s l zero = rw (no_records s) (omega arith)
  rows_most s l (suc n) =
      let c : ℕ = count_below n (λ i. eqb (mark_at marks i) s) in
      let h = rows_most s l n in
      let e = ap (λ (j : ℕ). length (rows_text s (records_of cells marks s j))) (sym (add-one n)) ∙ ap length (rows_more cells marks s n) ∙ length-append (rows_text s (records_of cells marks s n)) (cond (eqb (mark_at marks n) s) (row_text s (cell_at cells n)) []) in
      by-test (eqb (mark_at marks n) s)
      (λ b. let q = rw b at e in let o = row_most s (cell_at cells n) l in rw b (let z : length (rows_text s (records_of cells marks s (suc n))) ≤ suc c * longest_row = omega (arith, h, q, o, suc-mul c longest_row) in z))
      (λ b. let q = rw b at e in rw b (omega (arith, h, q)))

  below_more : (s n : ℕ) → count_below n (λ i. ltb (mark_at marks i) s) + count_below n (λ i. eqb (mark_at marks i) s) ≡ count_below n (λ i. ltb (mark_at marks i) (suc s))
  unfolding count_below
  below_more s zero = refl
  below_more s (suc n) =
      let h = below_more s n in
      by-test (ltb (mark_at marks n) s)
      (λ a.
      let l = ltb-true (mark_at marks n) s a in
      rw (a, ne_eqb (mark_at marks n) s (λ e. omega arith), lt-ltb (mark_at marks n) (suc s) (omega arith)) (omega (arith, h)))
      (λ a.
      let l = ltb-false (mark_at marks n) s a in
      by-test (eqb (mark_at marks n) s)
      (λ b. let q = eqb-true (mark_at marks n) s b in rw (a, b, lt-ltb (mark_at marks n) (suc s) (omega arith)) (omega (arith, h)))
      (λ b. let q = eqb-false (mark_at marks n) s b in let r : suc s ≤ mark_at marks n = by_two (mark_at marks n) s l q in rw (a, b, le-ltb (mark_at marks n) (suc s) r) (omega (arith, h))))
    where
      by_two : (m s : ℕ) → s ≤ m → (m ≡ s → ⊥) → suc s ≤ m
      by_two m s l q = omega arith

  seats_fit : (count n : ℕ) → n ≤ seat_count → length (seats_of cells marks count n) ≤ count_below count (λ i. ltb (mark_at marks i) n) * longest_row
  unfolding seats_of
  seats_fit count zero l = omega arith
  seats_fit count (suc n) l =
      let h = seats_fit count n (omega arith) in
      let e = length-append (seats_of cells marks count n) (rows_text n (records_of cells marks n count)) in
      let r = rows_most n (omega arith) count in
      let b = ap (λ (c : ℕ). c * longest_row) (sym (below_more n count)) ∙ add-mul (count_below count (λ i. ltb (mark_at marks i) n)) (count_below count (λ i. eqb (mark_at marks i) n)) longest_row in
      omega (arith, h, e, r, b)

-- ---- the list

count_most_long : (n : ℕ) → n ≤ most_input → length (count_text n) ≤ 1 + width most_input
count_most_long n l = let d = decimal_length n in let w = width_grows n most_input l in omega (arith, d, w)

end_short : (c : Counts) → Few c most_input → length (end_text c) ≤ longest_end
unfolding end_text longest_end
end_short c f =
    let a = count_most_long c.opened f.opened in
    let b = count_most_long c.collected f.collected in
    let d = count_most_long c.dynamic f.dynamic in
    let e = count_most_long c.refused f.refused in
    let l1 = length-append end (count_text c.opened) in
    let l2 = length-append (end ++ count_text c.opened) (count_text c.collected) in
    let l3 = length-append (end ++ count_text c.opened ++ count_text c.collected) (count_text c.dynamic) in
    let l4 = length-append (end ++ count_text c.opened ++ count_text c.collected ++ count_text c.dynamic) (count_text c.refused) in
    let l5 = length-append (end ++ count_text c.opened ++ count_text c.collected ++ count_text c.dynamic ++ count_text c.refused) (LF ∷ []) in
    omega (arith, a, b, d, e, l1, l2, l3, l4, l5)

text_fits : (cells marks s : List ℕ) → length s ≤ most_input → length (list_text (after cells marks s) (counts cells marks s)) ≤ longest_list
unfolding list_text
text_fits cells marks s l =
    let m = after cells marks s in
    let f = after_fits cells marks s in
    let h = seats_fit m.cells m.marks m.count seat_count (omega arith) in
    let k = count_most m.count (λ i. ltb (mark_at m.marks i) seat_count) in
    let r = mul-le-mul_right {m = count_below m.count (λ i. ltb (mark_at m.marks i) seat_count)} {n = most_cells} longest_row (omega (arith, f.most, k)) in
    let e = ap length (seats_are m seat_count) in
    let n = end_short (counts cells marks s) (few cells marks s most_input l) in
    let l1 = length-append heading (seats_text m seat_count) in
    let l2 = length-append (heading ++ seats_text m seat_count) (end_text (counts cells marks s)) in
    omega (arith, h, r, e, n, l1, l2)

pub list_fits : ListFits
unfolding list_of
list_fits cells marks s =
    by-test (short cells marks s)
    (λ e. rw e (text_fits cells marks s (leb-true (length s) most_input e)))
    (λ e. rw e (omega arith))
