-- The columns show a row: its seats, its keys, and which seat has a key. Assumes nothing.
use Prim.Native.Nat.{ℕ, zero, suc, ◌+◌, ◌*◌, ◌/◌, ◌%◌, ◌≤◌, ◌<◌}
use mathlib.Core.List.{List, [], ◌∷◌}
use mathlib.Core.Bool.{Bool, true, false, cond, not, ◌&&◌, ◌||◌}
use mathlib.Core.Path.{◌≡◌, refl, sym, ap, ap₂, ◌∙◌}
use native.Mathlib.Omega.{arith}
use lib.Dec.{eqb, leb, ltb}
use lib.ListN.{length, get_or, set, length-set}
use lib.Seq.{set-get_or, get_or-set_same, get_or-set_other, ext_get_or}
use borrow.Author.Tests.{eqb-true, eq-eqb, ne_eqb, leb-true}
use Rattle.digits.proofs.Tests.{by-test, by_less, and_true, and_l, and_r}
use Rattle.std.proofs.Common.{Option, Some, None, is_some}
use Rattle.std.proofs.lemmas.Option.{cond_some, none-some}
use Rattle.digits.specs.Told.{gives}
use Rattle.frames.specs.declared.reply.ReplyLabel.{ReplyLabel}
use Rattle.frames.specs.Rules.{between, is_address, is_requester}
use Rattle.frames.proofs.RuleLaws.{or_cases, in_range_law}
use Rattle.desk.specs.declared.state.Seat.{Seat}
use Rattle.desk.specs.declared.key.Key.{Key}
use Rattle.desk.specs.Limits.{seat_count}
use Rattle.desk.specs.Below.{all_below, count_below, first}
use Rattle.desk.specs.Key.{key_in, seat_key, same_key, is_key}
use Rattle.desk.specs.Hearing.{heard}
use Rattle.desk.specs.Seats.{zero_seat, seat_at, used_bit, keyed, keyed_at, seat_with}
use Rattle.desk.specs.Desk.{is_zero, apart_at, apart_below}
use Rattle.desk.specs.inside.Columns.{Short, key_number, seat_of, row_of, Sized, found_seat, key_is, alone}
use Rattle.desk.specs.inside.Clauses.{seat_good, seat_good_at}
use Rattle.desk.proofs.Below.{never, false_or, eq-case, all_at, all_of, all_fails, count_one, count_pair, first_ext}
use Rattle.desk.proofs.KeyLaws.{same_key_case, own_key}
use Rattle.desk.proofs.HearingLaws.{heard_legal}

-- ---- the row, seat by seat

row_length : (keys held ended : List ℕ) → length keys ≡ length held → length keys ≡ length ended → length (row_of keys held ended) ≡ length keys
unfolding row_of
row_length [] held ended p q = refl
row_length (k ∷ keys) [] ended p q = absurd (omega arith)
row_length (k ∷ keys) (h ∷ held) [] p q = absurd (omega arith)
row_length (k ∷ keys) (h ∷ held) (e ∷ ended) p q = ap suc (row_length keys held ended (omega arith) (omega arith))

row_at : (keys held ended : List ℕ) → length keys ≡ length held → length keys ≡ length ended → (i : ℕ) → seat_at (row_of keys held ended) i ≡ seat_of (get_or keys i 0) (get_or held i 0) (get_or ended i 0)
unfolding row_of
row_at [] [] [] p q i = refl
row_at [] [] (e ∷ ended) p q i = absurd (omega arith)
row_at [] (h ∷ held) ended p q i = absurd (omega arith)
row_at (k ∷ keys) [] ended p q i = absurd (omega arith)
row_at (k ∷ keys) (h ∷ held) [] p q i = absurd (omega arith)
row_at (k ∷ keys) (h ∷ held) (e ∷ ended) p q zero = refl
row_at (k ∷ keys) (h ∷ held) (e ∷ ended) p q (suc i) = row_at keys held ended (omega arith) (omega arith) i

row_set : (keys held ended : List ℕ) → length keys ≡ length held → length keys ≡ length ended → (i k h e : ℕ)
    → row_of (set keys i k) (set held i h) (set ended i e) ≡ set (row_of keys held ended) i (seat_of k h e)
unfolding row_of
row_set [] held ended p q i k h e = refl
row_set (k' ∷ keys) [] ended p q i k h e = absurd (omega arith)
row_set (k' ∷ keys) (h' ∷ held) [] p q i k h e = absurd (omega arith)
row_set (k' ∷ keys) (h' ∷ held) (e' ∷ ended) p q zero k h e = refl
row_set (k' ∷ keys) (h' ∷ held) (e' ∷ ended) p q (suc i) k h e = ap (λ (l : List Seat). seat_of k' h' e' ∷ l) (row_set keys held ended (omega arith) (omega arith) i k h e)

module _ (keys held ended : List ℕ) (f : Sized keys held ended) where
  pub length_row : length (row_of keys held ended) ≡ seat_count
  length_row = row_length keys held ended (f.all_keys ∙ sym f.all_held) (f.all_keys ∙ sym f.all_ended) ∙ f.all_keys

  pub seat_at_law : (i : ℕ) → seat_at (row_of keys held ended) i ≡ seat_of (get_or keys i 0) (get_or held i 0) (get_or ended i 0)
  seat_at_law = row_at keys held ended (f.all_keys ∙ sym f.all_held) (f.all_keys ∙ sym f.all_ended)

  pub all_set : (i k h e : ℕ) → row_of (set keys i k) (set held i h) (set ended i e) ≡ set (row_of keys held ended) i (seat_of k h e)
  all_set = row_set keys held ended (f.all_keys ∙ sym f.all_held) (f.all_keys ∙ sym f.all_ended)

  -- one seat gets another key
  pub key_set : (i k : ℕ) → row_of (set keys i k) held ended ≡ set (row_of keys held ended) i (seat_of k (get_or held i 0) (get_or ended i 0))
  key_set i k = ap₂ (λ (a b : List ℕ). row_of (set keys i k) a b) (sym (set-get_or held i 0)) (sym (set-get_or ended i 0)) ∙ all_set i k (get_or held i 0) (get_or ended i 0)

  -- one seat goes on
  pub progress_set : (i h e : ℕ) → row_of keys (set held i h) (set ended i e) ≡ set (row_of keys held ended) i (seat_of (get_or keys i 0) h e)
  progress_set i h e = ap (λ (l : List ℕ). row_of l (set held i h) (set ended i e)) (sym (set-get_or keys i 0)) ∙ all_set i (get_or keys i 0) h e

  pub sized_set : (i k h e : ℕ) → Sized (set keys i k) (set held i h) (set ended i e)
  sized_set i k h e = record { all_keys = length-set keys i k ∙ f.all_keys; all_held = length-set held i h ∙ f.all_held; all_ended = length-set ended i e ∙ f.all_ended }

  -- the loop that fills the columns: they show the first i seats of the row, and then one more
  pub shown_next : (row : List Seat) (i k h e : ℕ) → i < seat_count → seat_of k h e ≡ seat_at row i → ((j : ℕ) → j < i → seat_at (row_of keys held ended) j ≡ seat_at row j)
      → (j : ℕ) → j < i + 1 → seat_at (row_of (set keys i k) (set held i h) (set ended i e)) j ≡ seat_at row j
  shown_next row i k h e l here before j m =
      let n = length_row in
      rw (all_set i k h e)
      (eq-case j i
      (λ q. rw q (get_or-set_same (row_of keys held ended) i (seat_of k h e) zero_seat (omega arith) ∙ here))
      (λ d. get_or-set_other (row_of keys held ended) i j (seat_of k h e) zero_seat d ∙ before j (omega (arith, d, m))))

  pub shown_all : (row : List Seat) (i : ℕ) → i ≡ seat_count → length row ≡ seat_count → ((j : ℕ) → j < i → seat_at (row_of keys held ended) j ≡ seat_at row j) → row_of keys held ended ≡ row
  shown_all row i e n h = let l = length_row in ext_get_or zero_seat (row_of keys held ended) row (l ∙ sym n) (λ j m. h j (omega arith))

-- ---- a key as one number

-- the key that a number shows
abbrev pub key_of : ℕ → Key
key_of n = seat_key (seat_of n 0 0)

pub number_key : (n : ℕ) → key_number (key_of n) ≡ n
number_key n = omega arith

pub key_number_law : (k : Key) → Short k → key_of (key_number k) ≡ k
key_number_law k s =
    let a : key_number k / 100000 ≡ k.address * 256 + k.requester = omega (arith, s.number) in
    let o : key_number k / 100000 / 256 ≡ k.address = rw a (omega (arith, s.requester)) in
    let p : key_number k / 100000 % 256 ≡ k.requester = rw a (omega (arith, s.requester)) in
    let q : key_number k % 100000 ≡ k.number = omega (arith, s.number) in
    λ i. record { address = o i; requester = p i; number = q i }

-- two numbers are the same exactly if their keys are
pub same_number : (n : ℕ) (k : Key) → Short k → eqb n (key_number k) ≡ same_key (key_of n) k
same_number n k s =
    eq-case n (key_number k)
    (λ e. eq-eqb n (key_number k) e ∙ sym (rw (e, key_number_law k s) (own_key k)))
    (λ d. ne_eqb n (key_number k) d ∙ sym (false_or (same_key (key_of n) k) (λ t. d (sym (number_key n) ∙ ap key_number (same_key_case (key_of n) k t)))))

-- ---- a key that fits into a number

address_small : (b : ℕ) → is_address b ≡ true → (0 < b) × (b < 128)
unfolding is_address between
address_small b e =
    or_cases (eqb b 32) (leb 48 b && leb b 57) ((0 < b) × (b < 128))
    (λ p. let q = eqb-true b 32 p in (omega arith, omega arith))
    (λ p. let l = leb-true 48 b (and_l (leb 48 b) (leb b 57) p) in let h = leb-true b 57 (and_r (leb 48 b) (leb b 57) p) in (omega arith, omega arith)) e

requester_small : (b : ℕ) → is_requester b ≡ true → b < 256
unfolding is_requester
requester_small b e =
    or_cases (between 48 57 b || between 65 90 b) (between 97 122 b) (b < 256)
    (λ p. or_cases (between 48 57 b) (between 65 90 b) (b < 256) (λ q. let h = in_range_law 48 57 b q in omega arith) (λ q. let h = in_range_law 65 90 b q in omega arith) p)
    (λ p. let h = in_range_law 97 122 b p in omega arith) e

pub record Keyed (k : Key) : Type 0 where
  pub short : Short k
  pub some : 0 < k.address

pub keyed_by_law : (k : Key) → is_address k.address ≡ true → is_requester k.requester ≡ true → k.number ≤ 99999 → Keyed k
keyed_by_law k a q n = let s = address_small k.address a in record { short = record { address = s.1; requester = requester_small k.requester q; number = omega arith }; some = s.0 }

pub legal_keyed : (k : Key) → is_key k ≡ true → Keyed k
unfolding is_key
legal_keyed k h =
    let g = and_l (is_address k.address && is_requester k.requester) (leb k.number 999) h in
    let n = leb-true k.number 999 (and_r (is_address k.address && is_requester k.requester) (leb k.number 999) h) in
    keyed_by_law k (and_l (is_address k.address) (is_requester k.requester) g) (and_r (is_address k.address) (is_requester k.requester) g) (omega arith)

-- ---- good seats

record Zeros (s : Seat) : Type 0 where
  address : s.address ≡ 0
  requester : s.requester ≡ 0
  number : s.number ≡ 0
  held : s.held ≡ 0
  ended : s.ended ≡ 0

zeros : (s : Seat) → is_zero s ≡ true → Zeros s
unfolding is_zero
zeros s h =
    let e = and_l (eqb s.address 0 && eqb s.requester 0 && eqb s.number 0 && eqb s.held 0) (eqb s.ended 0) h in
    let d = and_l (eqb s.address 0 && eqb s.requester 0 && eqb s.number 0) (eqb s.held 0) e in
    let c = and_l (eqb s.address 0 && eqb s.requester 0) (eqb s.number 0) d in
    record {
      address = eqb-true _ _ (and_l (eqb s.address 0) (eqb s.requester 0) c);
      requester = eqb-true _ _ (and_r (eqb s.address 0) (eqb s.requester 0) c);
      number = eqb-true _ _ (and_r (eqb s.address 0 && eqb s.requester 0) (eqb s.number 0) d);
      held = eqb-true _ _ (and_r (eqb s.address 0 && eqb s.requester 0 && eqb s.number 0) (eqb s.held 0) e);
      ended = eqb-true _ _ (and_r (eqb s.address 0 && eqb s.requester 0 && eqb s.number 0 && eqb s.held 0) (eqb s.ended 0) h);
    }

module _ (s : Seat) (bits i : ℕ) (g : seat_good s bits i ≡ true) where
  pub good_used : used_bit bits i ≡ true → Keyed (seat_key s)
  unfolding seat_good
  good_used u = legal_keyed (seat_key s) (rw u at g)

  good_unused : used_bit bits i ≡ false → Zeros s
  unfolding seat_good
  good_unused u = zeros s (rw u at g)

  pub good_short : Short (seat_key s)
  good_short =
      by-test (used_bit bits i) (λ u. (good_used u).short)
      (λ u. let z = good_unused u in record { address = omega (arith, z.address); requester = omega (arith, z.requester); number = omega (arith, z.number) })

  -- a good seat is the one that its numbers show
  pub seat_back : seat_of (key_number (seat_key s)) s.held s.ended ≡ s
  seat_back =
      let k = key_number_law (seat_key s) good_short in
      λ i. record { address = (k i).address; requester = (k i).requester; number = (k i).number; held = s.held; ended = s.ended }

-- ---- a row of good seats

module _ (keys held ended : List ℕ) (f : Sized keys held ended) (bits : ℕ) (good : all_below seat_count (seat_good_at (row_of keys held ended) bits) ≡ true) where
  abbrev row : List Seat
  row = row_of keys held ended

  good_at : (i : ℕ) → i < seat_count → seat_good (seat_at row i) bits i ≡ true
  good_at i l = all_at seat_count (seat_good_at row bits) good i l

  key_at : (i : ℕ) → seat_key (seat_at row i) ≡ key_of (get_or keys i 0)
  key_at i = ap seat_key (seat_at_law keys held ended f i)

  -- a seat that is not in use has key, records and `ended` 0
  pub unused_key : (i : ℕ) → i < seat_count → used_bit bits i ≡ false → get_or keys i 0 ≡ 0
  unused_key i l u =
      let z = good_unused (seat_at row i) bits i (good_at i l) u in
      sym (number_key (get_or keys i 0)) ∙ ap key_number (sym (key_at i)) ∙ rw (z.address, z.requester, z.number)

  pub unused_held : (i : ℕ) → i < seat_count → used_bit bits i ≡ false → get_or held i 0 ≡ 0
  unused_held i l u = ap (λ (s : Seat). s.held) (sym (seat_at_law keys held ended f i)) ∙ (good_unused (seat_at row i) bits i (good_at i l) u).held

  pub unused_ended : (i : ℕ) → i < seat_count → used_bit bits i ≡ false → get_or ended i 0 ≡ 0
  unused_ended i l u = ap (λ (s : Seat). s.ended) (sym (seat_at_law keys held ended f i)) ∙ (good_unused (seat_at row i) bits i (good_at i l) u).ended

  -- the number at a seat is that of a key exactly if the seat is in use and has it
  pub key_is_law : (k : Key) → Keyed k → (i : ℕ) → i < seat_count → key_is keys (key_number k) i ≡ keyed_at row bits k i
  unfolding keyed
  key_is_law k h i l =
      by-test (used_bit bits i)
      (λ u. rw (u, key_at i) (same_number (get_or keys i 0) k h.short))
      (λ u. rw (u, unused_key i l u) (ne_eqb 0 (key_number k) (λ e. let s = h.some in omega arith)))

  pub found : (k : Key) → Keyed k → first seat_count (key_is keys (key_number k)) ≡ seat_with row bits k
  unfolding seat_with
  found k h = first_ext seat_count (key_is keys (key_number k)) (keyed_at row bits k) (key_is_law k h)

  -- ---- each key is at one seat only

  abbrev own : ℕ → Key
  own i = seat_key (seat_at row i)

  own_number : (i : ℕ) → get_or keys i 0 ≡ key_number (own i)
  own_number i = sym (number_key (get_or keys i 0)) ∙ ap key_number (sym (key_at i))

  own_keyed : (i : ℕ) → i < seat_count → used_bit bits i ≡ true → Keyed (own i)
  own_keyed i l u = good_used (seat_at row i) bits i (good_at i l) u

  used_number : (i : ℕ) → i < seat_count → used_bit bits i ≡ true → eqb (get_or keys i 0) 0 ≡ false
  used_number i l u = ne_eqb (get_or keys i 0) 0 (λ e. let s = (own_keyed i l u).some in let q = own_number i in omega arith)

  own_is : (i : ℕ) → i < seat_count → used_bit bits i ≡ true → (j : ℕ) → j < seat_count → key_is keys (get_or keys i 0) j ≡ keyed_at row bits (own i) j
  own_is i l u j h = ap (λ (n : ℕ). key_is keys n j) (own_number i) ∙ key_is_law (own i) (own_keyed i l u) j h

  own_here : (i : ℕ) → i < seat_count → used_bit bits i ≡ true → key_is keys (get_or keys i 0) i ≡ true
  own_here i l u = eq-eqb (get_or keys i 0) (get_or keys i 0) refl

  shared : (i j : ℕ) → i < seat_count → j < i → used_bit bits i ≡ true → keyed_at row bits (own i) j ≡ true → all_below seat_count (alone keys) ≡ false
  shared i j l h u t =
      let two = count_pair seat_count j i (key_is keys (get_or keys i 0)) h l (own_is i l u j (omega arith) ∙ t) (own_here i l u) in
      all_fails seat_count i (alone keys) l (rw (used_number i l u) (ne_eqb (count_below seat_count (key_is keys (get_or keys i 0))) 1 (λ e. omega arith)))

  apart_at_law : all_below seat_count (alone keys) ≡ true → (i : ℕ) → i < seat_count → (j : ℕ) → j < i → apart_at row bits i j ≡ true
  apart_at_law a i l j h =
      by-test (used_bit bits i)
      (λ u. rw u (ap not (false_or (keyed_at row bits (own i) j) (λ t. never (all_below seat_count (alone keys)) a (shared i j l h u t)))))
      (λ u. rw u)

  -- two used seats of one key are not apart
  not_shared : all_below seat_count (apart_below row bits) ≡ true → (i j : ℕ) → i < seat_count → j < seat_count → used_bit bits i ≡ true → keyed_at row bits (own i) j ≡ true → j < i → ⊥
  not_shared a i j l h u t less =
      let p = all_at i (apart_at row bits i) (all_at seat_count (apart_below row bits) a i l) j less in
      let q : not (keyed_at row bits (own i) j) ≡ true = rw u at p in
      never true refl (sym (rw t at q))

  one_seat : all_below seat_count (apart_below row bits) ≡ true → (i : ℕ) → i < seat_count → used_bit bits i ≡ true → (j : ℕ) → j < seat_count → key_is keys (get_or keys i 0) j ≡ true → j ≡ i
  unfolding keyed
  one_seat a i l u j h t =
      let t' : keyed_at row bits (own i) j ≡ true = sym (own_is i l u j h) ∙ t in
      let used : used_bit bits j ≡ true = and_l (used_bit bits j) _ t' in
      let same : own j ≡ own i = same_key_case (own j) (own i) (and_r (used_bit bits j) _ t') in
      let back : keyed_at row bits (own j) i ≡ true = and_true u (rw same (own_key (own i))) in
      eq-case j i (λ e. e) (λ d. by_less j i (λ less. absurd (not_shared a i j l h u t' less)) (λ more. absurd (not_shared a j i h l used back (omega arith))))

  alone_at : all_below seat_count (apart_below row bits) ≡ true → (i : ℕ) → i < seat_count → alone keys i ≡ true
  alone_at a i l =
      by-test (used_bit bits i)
      (λ u. rw (used_number i l u) (eq-eqb _ 1 (count_one seat_count i (key_is keys (get_or keys i 0)) l (own_here i l u) (one_seat a i l u))))
      (λ u. rw (eq-eqb (get_or keys i 0) 0 (unused_key i l u)))

  pub keys_apart : all_below seat_count (alone keys) ≡ all_below seat_count (apart_below row bits)
  keys_apart =
      by-test (all_below seat_count (apart_below row bits))
      (λ a. all_of seat_count (alone keys) (alone_at a) ∙ sym a)
      (λ a. false_or (all_below seat_count (alone keys)) (λ t. never (all_below seat_count (apart_below row bits)) (all_of seat_count (apart_below row bits) (λ i l. all_of i (apart_at row bits i) (λ j h. apart_at_law t i l j h))) a) ∙ sym a)

-- ---- the first seat with a key, as it is looked for

module _ (keys : List ℕ) (k : Key) {r : Option ℕ} {n : ℕ} (e : r ≡ found_seat (first seat_count (key_is keys n))) (q : n ≡ key_number k) where
  abbrev place : ℕ
  place = first seat_count (key_is keys (key_number k))

  looked_for : r ≡ found_seat place
  looked_for = e ∙ ap (λ (n : ℕ). found_seat (first seat_count (key_is keys n))) q

  pub found_some : (s : ℕ) → r ≡ Some s → (place ≡ s) × (ltb place seat_count ≡ true)
  found_some s h = let f = cond_some _ _ _ (sym looked_for ∙ h) in (f.1, f.0)

  pub found_none : r ≡ None → ltb place seat_count ≡ false
  found_none h = go (ltb place seat_count) (sym looked_for ∙ h)
    where
      go : (b : Bool) → cond b (Some place) None ≡ None → b ≡ false
      go true h = absurd (none-some place (sym h))
      go false h = refl

  pub found_tested : is_some r ≡ ltb place seat_count
  found_tested = ap is_some looked_for ∙ go (ltb place seat_count)
    where
      go : (b : Bool) → is_some (cond b (Some place) None) ≡ b
      go true = refl
      go false = refl

-- ---- the key of a reply

pub heard_keyed : (f : List ℕ) (l : ReplyLabel) → heard f ≡ gives l → Keyed (key_in l)
heard_keyed f l e = let h = heard_legal f l e in keyed_by_law (key_in l) h.address h.requester h.number
