-- Laws of the tally: its entries, one more and one less, and the count over the cells held. Assumes nothing.
use Prim.Native.Nat.{ℕ, zero, suc, ◌+◌, ◌-◌, ◌<◌, ◌≤◌}
use mathlib.Core.Bool.{Bool, true, false, cond, ◌&&◌}
use mathlib.Core.List.{List, []}
use mathlib.Core.Path.{◌≡◌, refl, sym, ap, ap₂, ◌∙◌}
use native.Mathlib.Omega.{arith}
use lib.Dec.{eqb, ltb}
use lib.ListN.{length, get_or, set, replicate, length-set, length-replicate, get_or-replicate}
use lib.Seq.{get_or-set_same, get_or-set_other, ext_get_or}
use lib.Bits.{bit_or, or_zero_l, or_add_and, and_le_r}
use borrow.Author.Tests.{eqb-true, eq-eqb, ne_eqb, lt-ltb, le-ltb}
use Rattle.std.proofs.Common.{Some, None}
use Rattle.std.proofs.lemmas.Option.{cond_some, none-some}
use Rattle.digits.specs.Told.{gives, refuses}
use Rattle.digits.specs.Refusals.{NO_SUCH}
use Rattle.digits.proofs.Tests.{by-test, by_less, and_true, and_l, and_r}
use Rattle.frames.specs.Kind.{read}
use Rattle.frames.specs.Reply.{reply, letters, is_letter, letter_place}
use Rattle.frames.specs.Status.{statuses, is_status, status_place}
use Rattle.frames.specs.declared.reply.StaticReply.{StaticReply}
use Rattle.frames.proofs.LabelLaws.{lettered}
use Rattle.frames.proofs.LetterLaws.{letter_below, letter_is, letter_at_law, status_below, status_is, status_at_law}
use Rattle.desk.specs.Below.{all_below, count_below}
use Rattle.desk.specs.Memory.{cell_at}
use Rattle.desk.specs.Tally.{letter_count, status_count, Table, entry_at, entry_of, empty_tally, counted, letter_at, status_at, is_of, held_of, entry_right, row_right, tally_right, counted_in, looks}
use Rattle.desk.specs.inside.Counted.{entry_found, uncounted, zero_at, row_clear, is_clear, row_counted, Whole, Leaves}
use Rattle.desk.proofs.Below.{below-case, eq-case, all_at, all_of, all_next, count_ext, count_most}

pub none_if : {A : Type 0} (b : Bool) (x : A) → cond b (Some x) None ≡ None → b ≡ false
none_if true x h = absurd (none-some x (sym h))
none_if false x h = refl

-- ---- entries

-- a table with another number at one entry
abbrev put : Table → ℕ → ℕ → ℕ → Table
put t a b v = set t a (set (get_or t a []) b v)

put_whole : (t : Table) (a b v : ℕ) → Whole t → Whole (put t a b v)
put_whole t a b v w = record {
  size = length-set t a (set (get_or t a []) b v) ∙ w.size;
  rows = λ i l. eq-case i a
      (λ e. let n = w.size in rw (e, get_or-set_same t a (set (get_or t a []) b v) [] (omega arith)) (length-set (get_or t a []) b v ∙ w.rows a (rw (← e) l)))
      (λ n. rw (get_or-set_other t a i (set (get_or t a []) b v) [] n) (w.rows i l));
}

put_entry : (t : Table) (a b v : ℕ) → Whole t → a < letter_count → b < status_count → (i j : ℕ) → entry_at (put t a b v) i j ≡ cond (eqb i a && eqb j b) v (entry_at t i j)
put_entry t a b v w k l i j =
    let n = w.size in
    let r = w.rows a k in
    eq-case i a
    (λ e.
    rw (e, eq-eqb a a refl, get_or-set_same t a (set (get_or t a []) b v) [] (omega arith))
    (eq-case j b
    (λ d. rw (d, eq-eqb b b refl) (get_or-set_same (get_or t a []) b v 0 (omega arith)))
    (λ d. rw (ne_eqb j b d) (get_or-set_other (get_or t a []) b j v 0 d))))
    (λ e. rw (ne_eqb i a e, get_or-set_other t a i (set (get_or t a []) b v) [] e))

-- tables are the same if all their numbers are
pub same_table : (t u : Table) → Whole t → Whole u → ((i j : ℕ) → i < letter_count → j < status_count → entry_at t i j ≡ entry_at u i j) → t ≡ u
same_table t u a b e =
    ext_get_or [] t u (a.size ∙ sym b.size) (λ i l.
    let k : i < letter_count = rw a.size at l in
    ext_get_or 0 (get_or t i []) (get_or u i []) (a.rows i k ∙ sym (b.rows i k)) (λ j m. e i j k (rw (a.rows i k) at m)))

-- ---- a row of zeros, by its numbers joined bit by bit

or_none_law : (a b : ℕ) → eqb (bit_or a b) 0 ≡ eqb a 0 && eqb b 0
or_none_law a b =
    eq-case a 0
    (λ p. rw (p, or_zero_l b))
    (λ p. ne_eqb (bit_or a b) 0 (λ q. let s = or_add_and a b in let l = and_le_r a b in p (omega (arith, q, s, l))) ∙ sym (ap (λ (x : Bool). x && eqb b 0) (ne_eqb a 0 p)))

pub row_or : (t : Table) (i any : ℕ) → eqb any 0 ≡ all_below i (row_clear t) → eqb (bit_or any (bit_or (bit_or (entry_at t i 0) (entry_at t i 1)) (entry_at t i 2))) 0 ≡ all_below (i + 1) (row_clear t)
row_or t i any e =
    or_none_law any (bit_or (bit_or (entry_at t i 0) (entry_at t i 1)) (entry_at t i 2))
    ∙ ap₂ (λ (x y : Bool). x && y) e (or_none_law (bit_or (entry_at t i 0) (entry_at t i 1)) (entry_at t i 2) ∙ ap (λ (x : Bool). x && zero_at t i 2) (or_none_law (entry_at t i 0) (entry_at t i 1)))
    ∙ sym (all_next i (row_clear t))

-- ---- a reply and its entry

-- letter and status are two of the lists
pub record Listed (f : List ℕ) : Type 0 where
  pub letter : is_letter (letter_at f) ≡ true
  pub status : is_status (status_at f) ≡ true

pub reply_listed : (f : List ℕ) (r : StaticReply) → read reply f ≡ gives r → Listed f
reply_listed f r e = let g = lettered f r e in record { letter = g.letter; status = g.status }

-- a reply counts for an entry exactly if the entry is at its letter and status
of_entry : (f : List ℕ) → Listed f → (i j : ℕ) → i < letter_count → j < status_count → is_of (get_or letters i 0) (get_or statuses j 0) f ≡ eqb i (letter_place (letter_at f)) && eqb j (status_place (status_at f))
of_entry f g i j k l = ap₂ (λ (x y : Bool). x && y) (letter_is (letter_at f) i g.letter k) (status_is (status_at f) j g.status l)

of_own : (f : List ℕ) → is_of (letter_at f) (status_at f) f ≡ true
of_own f = and_true (eq-eqb (letter_at f) (letter_at f) refl) (eq-eqb (status_at f) (status_at f) refl)

-- ---- the count

pub held_next : (cells : List ℕ) (n letter status : ℕ) → held_of cells (suc n) letter status ≡ cond (is_of letter status (cell_at cells n)) (suc (held_of cells n letter status)) (held_of cells n letter status)
unfolding held_of count_below
held_next cells n letter status = refl

pub held_none : (cells : List ℕ) (letter status : ℕ) → held_of cells 0 letter status ≡ 0
unfolding held_of count_below
held_none cells letter status = refl

pub held_most : (cells : List ℕ) (n letter status : ℕ) → held_of cells n letter status ≤ n
unfolding held_of
held_most cells n letter status = count_most n _

held_same : (cells cells' : List ℕ) (n letter status : ℕ) → ((k : ℕ) → k < n → cell_at cells' k ≡ cell_at cells k) → held_of cells' n letter status ≡ held_of cells n letter status
unfolding held_of
held_same cells cells' n letter status h = count_ext n _ _ (λ k l. ap (is_of letter status) (h k l))

-- a cell before n that counts is counted
held_grows : (cells : List ℕ) (letter status k n : ℕ) → k < n → is_of letter status (cell_at cells k) ≡ true → held_of cells k letter status < held_of cells n letter status
held_grows cells letter status k zero l y = absurd (omega arith)
held_grows cells letter status k (suc n) l y =
    below-case k n l
    (λ h. let ih = held_grows cells letter status k n h y in by-test (is_of letter status (cell_at cells n)) (λ t. rw (held_next cells n letter status, t) (omega arith)) (λ t. rw (held_next cells n letter status, t) ih))
    (λ q. let t : is_of letter status (cell_at cells n) ≡ true = sym (ap (λ (i : ℕ). is_of letter status (cell_at cells i)) q) ∙ y in rw (held_next cells n letter status, t, q) (omega arith))

-- ---- a tally that is right

pub record Right (cells : List ℕ) (n : ℕ) (t : Table) : Type 0 where
  pub whole : Whole t
  pub each : (i j : ℕ) → i < letter_count → j < status_count → entry_at t i j ≡ held_of cells n (get_or letters i 0) (get_or statuses j 0)

pub right_of : (cells : List ℕ) (n : ℕ) (t : Table) → tally_right cells n t ≡ true → Right cells n t
unfolding tally_right entry_right
right_of cells n t h =
    let all = all_at letter_count (row_right cells n t) (and_r (eqb (length t) letter_count) _ h) in
    record {
      whole = record {
        size = eqb-true (length t) letter_count (and_l (eqb (length t) letter_count) _ h);
        rows = λ i l. eqb-true (length (get_or t i [])) status_count (and_l (eqb (length (get_or t i [])) status_count) _ (all i l));
      };
      each = λ i j k l. eqb-true _ _ (all_at status_count (entry_right cells n t i) (and_r (eqb (length (get_or t i [])) status_count) _ (all i k)) j l);
    }

pub is_right : (cells : List ℕ) (n : ℕ) (t : Table) → Right cells n t → tally_right cells n t ≡ true
unfolding tally_right entry_right
is_right cells n t r =
    and_true (eq-eqb (length t) letter_count r.whole.size)
    (all_of letter_count (row_right cells n t) (λ i k.
    and_true (eq-eqb (length (get_or t i [])) status_count (r.whole.rows i k)) (all_of status_count (entry_right cells n t i) (λ j l. eq-eqb _ _ (r.each i j k l)))))

abbrev nobody : List ℕ
nobody = replicate status_count 0

-- on an emptied desk
pub right_empty : (cells : List ℕ) → Right cells 0 empty_tally
right_empty cells = record {
  whole = record {
    size = length-replicate {A = List ℕ} letter_count nobody;
    rows = λ i l. rw (get_or-replicate {A = List ℕ} letter_count i nobody [] l) (length-replicate {A = ℕ} status_count 0);
  };
  each = λ i j k l. rw (get_or-replicate {A = List ℕ} letter_count i nobody [] k, held_none cells (get_or letters i 0) (get_or statuses j 0)) (get_or-replicate {A = ℕ} status_count j 0 0 l);
}

pub right_same : (cells cells' : List ℕ) (n : ℕ) (t : Table) → Right cells n t → ((k : ℕ) → k < n → cell_at cells' k ≡ cell_at cells k) → Right cells' n t
right_same cells cells' n t r h = record { whole = r.whole; each = λ i j k l. r.each i j k l ∙ sym (held_same cells cells' n (get_or letters i 0) (get_or statuses j 0) h) }

-- one more cell, and one more at its letter and status
module _ (cells : List ℕ) (n : ℕ) (t : Table) (w : Right cells n t) (f : List ℕ) (c : cell_at cells n ≡ f) (g : Listed f) where
  more_each : (i j : ℕ) → i < letter_count → j < status_count → entry_at (counted t (letter_at f) (status_at f)) i j ≡ held_of cells (suc n) (get_or letters i 0) (get_or statuses j 0)
  more_each i j k l =
      let a = letter_place (letter_at f) in
      let b = status_place (status_at f) in
      rw (put_entry t a b (entry_at t a b + 1) w.whole (letter_below _ g.letter) (status_below _ g.status) i j, held_next cells n (get_or letters i 0) (get_or statuses j 0), c, of_entry f g i j k l)
      (by-test (eqb i a && eqb j b)
      (λ y.
      let p = eqb-true i a (and_l (eqb i a) (eqb j b) y) in
      let q = eqb-true j b (and_r (eqb i a) (eqb j b) y) in
      let s : entry_at t a b ≡ held_of cells n (get_or letters i 0) (get_or statuses j 0) = rw (← p, ← q) (w.each i j k l) in
      rw y (omega (arith, s)))
      (λ y. rw y (w.each i j k l)))

  pub right_more : Right cells (suc n) (counted t (letter_at f) (status_at f))
  right_more = record { whole = put_whole t _ _ _ w.whole; each = more_each }

-- the entry of a letter and a status is their count, and so it is small
pub right_entry : (cells : List ℕ) (n : ℕ) (t : Table) → Right cells n t → (letter status : ℕ) → is_letter letter ≡ true → is_status status ≡ true → entry_of t letter status ≡ held_of cells n letter status
right_entry cells n t w letter status a b =
    w.each (letter_place letter) (status_place status) (letter_below letter a) (status_below status b) ∙ rw (letter_at_law letter a, status_at_law status b)

-- the entry of a letter and a status after one more reply
pub counted_entry : (t : Table) (f : List ℕ) (letter status : ℕ) → Whole t → Listed f → is_letter letter ≡ true → is_status status ≡ true
    → entry_of (counted t (letter_at f) (status_at f)) letter status ≡ cond (is_of letter status f) (entry_of t letter status + 1) (entry_of t letter status)
counted_entry t f letter status w g p q =
    let a = letter_place (letter_at f) in
    let b = status_place (status_at f) in
    let i = letter_place letter in
    let j = status_place status in
    let x : eqb (letter_at f) letter ≡ eqb i a = rw (letter_at_law letter p) at (letter_is (letter_at f) i g.letter (letter_below letter p)) in
    let y : eqb (status_at f) status ≡ eqb j b = rw (status_at_law status q) at (status_is (status_at f) j g.status (status_below status q)) in
    rw (put_entry t a b (entry_at t a b + 1) w (letter_below _ g.letter) (status_below _ g.status) i j, x, y)
    (by-test (eqb i a && eqb j b)
    (λ h. rw (h, ← eqb-true i a (and_l (eqb i a) (eqb j b) h), ← eqb-true j b (and_r (eqb i a) (eqb j b) h)))
    (λ h. rw h))

-- ---- what rows leave of a tally

pub leaves_all : (t : Table) (cells : List ℕ) → Whole t → Leaves t cells 0 t
leaves_all t cells w = record { whole = w; each = λ i j k l. rw (held_none cells (get_or letters i 0) (get_or statuses j 0)) (omega arith) }

module _ (t : Table) (cells : List ℕ) (n : ℕ) (left : Table) (w : Leaves t cells n left) (f : List ℕ) (c : cell_at cells n ≡ f) (g : Listed f) where
  -- what is left for row n
  at_own : entry_of left (letter_at f) (status_at f) + held_of cells n (letter_at f) (status_at f) ≡ entry_of t (letter_at f) (status_at f)
  at_own =
      let h = w.each (letter_place (letter_at f)) (status_place (status_at f)) (letter_below _ g.letter) (status_below _ g.status) in
      rw (letter_at_law (letter_at f) g.letter, status_at_law (status_at f) g.status) at h

  pub row_left : row_counted t cells n ≡ ltb 0 (entry_of left (letter_at f) (status_at f))
  unfolding row_counted
  row_left =
      let h = at_own in
      rw c
      (by_less 0 (entry_of left (letter_at f) (status_at f))
      (λ l. lt-ltb (held_of cells n (letter_at f) (status_at f)) (entry_of t (letter_at f) (status_at f)) (omega arith) ∙ sym (lt-ltb 0 (entry_of left (letter_at f) (status_at f)) l))
      (λ l. le-ltb (held_of cells n (letter_at f) (status_at f)) (entry_of t (letter_at f) (status_at f)) (omega arith) ∙ sym (le-ltb 0 (entry_of left (letter_at f) (status_at f)) l)))

  less_each : 0 < entry_of left (letter_at f) (status_at f) → (i j : ℕ) → i < letter_count → j < status_count → entry_at (uncounted left (letter_at f) (status_at f)) i j + held_of cells (suc n) (get_or letters i 0) (get_or statuses j 0) ≡ entry_at t i j
  less_each some i j k l =
      let a = letter_place (letter_at f) in
      let b = status_place (status_at f) in
      let h = w.each i j k l in
      rw (put_entry left a b (entry_at left a b - 1) w.whole (letter_below _ g.letter) (status_below _ g.status) i j, held_next cells n (get_or letters i 0) (get_or statuses j 0), c, of_entry f g i j k l)
      (by-test (eqb i a && eqb j b)
      (λ y.
      let p = eqb-true i a (and_l (eqb i a) (eqb j b) y) in
      let q = eqb-true j b (and_r (eqb i a) (eqb j b) y) in
      let s : entry_at left a b ≡ entry_at left i j = rw (p, q) in
      rw y (omega (arith, s, h, some)))
      (λ y. rw y h))

  pub leaves_next : 0 < entry_of left (letter_at f) (status_at f) → Leaves t cells (suc n) (uncounted left (letter_at f) (status_at f))
  leaves_next some = record { whole = put_whole left _ _ _ w.whole; each = less_each some }

-- ---- nothing is left exactly of a tally that is right

both : (a b : Bool) → (a ≡ true → b ≡ true) → (b ≡ true → a ≡ true) → a ≡ b
both true true f g = refl
both true false f g = sym (f refl)
both false true f g = g refl
both false false f g = refl

clear_entry : (t : Table) → is_clear t ≡ true → (i j : ℕ) → i < letter_count → j < status_count → entry_at t i j ≡ 0
unfolding is_clear
clear_entry t h i j k l =
    let r = all_at letter_count (row_clear t) h i k in
    let two = and_l (zero_at t i 0 && zero_at t i 1) _ r in
    below-case j 2 l
    (λ b. below-case j 1 b
    (λ d. let z : j ≡ 0 = omega arith in rw z (eqb-true _ _ (and_l (zero_at t i 0) (zero_at t i 1) two)))
    (λ d. rw d (eqb-true _ _ (and_r (zero_at t i 0) (zero_at t i 1) two))))
    (λ b. rw b (eqb-true _ _ (and_r (zero_at t i 0 && zero_at t i 1) _ r)))

pub clear_is_right : (t : Table) (cells : List ℕ) (n : ℕ) (left : Table) → Whole t → Leaves t cells n left → is_clear left ≡ tally_right cells n t
unfolding is_clear
clear_is_right t cells n left whole w = both (is_clear left) (tally_right cells n t) up down
  where
    up : is_clear left ≡ true → tally_right cells n t ≡ true
    up h = is_right cells n t (record { whole = whole; each = λ i j k l. let z = clear_entry left h i j k l in let s = w.each i j k l in omega (arith, z, s) })

    zero_at_law : tally_right cells n t ≡ true → (i j : ℕ) → i < letter_count → j < status_count → zero_at left i j ≡ true
    zero_at_law h i j k l = let s = w.each i j k l in let q = (right_of cells n t h).each i j k l in eq-eqb (entry_at left i j) 0 (omega (arith, s, q))

    down : tally_right cells n t ≡ true → is_clear left ≡ true
    down h = all_of letter_count (row_clear left) (λ i k. and_true (and_true (zero_at_law h i 0 k (omega arith)) (zero_at_law h i 1 k (omega arith))) (zero_at_law h i 2 k (omega arith)))

-- of a tally that is right, one is left for each row that is a reply
pub right_counted : (t : Table) (cells : List ℕ) (n i : ℕ) → tally_right cells n t ≡ true → i < n → Listed (cell_at cells i) → row_counted t cells i ≡ true
unfolding row_counted
right_counted t cells n i h l g =
    let f = cell_at cells i in
    let more = held_grows cells (letter_at f) (status_at f) i n l (of_own f) in
    let q = right_entry cells n t (right_of cells n t h) (letter_at f) (status_at f) g.letter g.status in
    lt-ltb (held_of cells i (letter_at f) (status_at f)) (entry_of t (letter_at f) (status_at f)) (omega (arith, more, q))

-- ---- a look

module _ (t : Table) (letter status : ℕ) where
  pub not_looked : entry_found letter status ≡ None → refuses NO_SUCH ≡ looks t letter status
  unfolding looks
  not_looked e = rw (none_if _ _ e)

  pub counts_nothing : entry_found letter status ≡ None → t ≡ counted_in t letter status
  unfolding counted_in
  counts_nothing e = rw (none_if _ _ e)

  module _ (i j : ℕ) (e : entry_found letter status ≡ Some (i, j)) where
    known : is_letter letter && is_status status ≡ true
    known = (cond_some _ _ _ e).0

    row_is : letter_place letter ≡ i
    row_is = ap (λ (x : ℕ × ℕ). x.0) (cond_some _ _ _ e).1

    column_is : status_place status ≡ j
    column_is = ap (λ (x : ℕ × ℕ). x.1) (cond_some _ _ _ e).1

    pub row_below : i < letter_count
    row_below = let h = letter_below letter (and_l (is_letter letter) (is_status status) known) in let r = row_is in omega (arith, h, r)

    pub column_below : j < status_count
    column_below = let h = status_below status (and_r (is_letter letter) (is_status status) known) in let r = column_is in omega (arith, h, r)

    -- one more is counted, if there is a place for it and the number is not the largest
    pub counts : entry_at t i j < 4294967295 → set t i (set (get_or t i []) j (entry_at t i j + 1)) ≡ counted_in t letter status
    unfolding counted_in
    counts l = let r = lt-ltb (entry_at t i j) 4294967295 l in rw (known, row_is, column_is, r)

    pub counts_no_more : 4294967295 ≤ entry_at t i j → t ≡ counted_in t letter status
    unfolding counted_in
    counts_no_more l = let r = le-ltb (entry_at t i j) 4294967295 l in rw (known, row_is, column_is, r)

    pub looked : gives (entry_at t i j) ≡ looks t letter status
    unfolding looks
    looked = rw (known, row_is, column_is)
