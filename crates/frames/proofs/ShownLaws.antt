-- What the good values of a field show, place by place: its classes are right for a byte, a number, a time, raw bytes, a sign with days, and a date. Assumes nothing.
use Prim.Native.Nat.{ℕ, zero, suc, ◌+◌, ◌-◌, ◌*◌, ◌/◌, ◌%◌, ◌^◌, ◌≤◌, ◌<◌}
use mathlib.Core.List.{List, [], ◌∷◌, ◌++◌}
use mathlib.Core.Bool.{Bool, true, false, false≢true, cond, not, ◌&&◌, ◌||◌, and-eq-true_iff}
use mathlib.Core.Path.{◌≡◌, refl, ap, ◌∙◌}
use native.Mathlib.Omega.{arith}
use native.Mathlib.Nat.{div-lt_iff_lt-mul, one-le-pow}
use lib.Dec.{T, eqb, leb, ltb, leb→le}
use borrow.Author.Tests.{eqb-true, leb-true, ltb-true}
use lib.ListN.{length, get_or, replicate, length-replicate, get_or-replicate}
use Rattle.digits.specs.Text.{one_of}
use Rattle.digits.specs.Digits.{digits}
use Rattle.digits.proofs.Reading.{inside, between as range}
use Rattle.digits.proofs.Writing.{length_digits}
use Rattle.digits.proofs.Parts.{written_in_parts}
use Rattle.digits.proofs.Tables.{agree, agreed}
use Rattle.digits.proofs.Tests.{and_true, and_l, and_r}
use Rattle.times.specs.Clock.{clock, is_time, clock_number, last_tick}
use Rattle.times.specs.Day.{leap, month_length, real_day}
use Rattle.times.specs.Net.{is_net}
use Rattle.times.proofs.DayLaws.{day_bounds}
use Rattle.frames.specs.Rules.{between, up_to, is_raw}
use Rattle.frames.specs.Shape.{number, bytes_of, all_from}
use Rattle.frames.specs.Classes.{Classes, digit_from, digit_to, any_digits, any_raw}
use Rattle.frames.specs.Field.{Field, letter, time_of_day}
use Rattle.frames.specs.Timing.{date, is_date, real_date, is_sign, are_days, net_days, are_raw, raw_bytes}
use Rattle.frames.proofs.RuleLaws.{up_to_law}
use Rattle.frames.proofs.ShapeLaws.{all_bytes}

-- whether byte b is in the class of place j
abbrev pub shows : Classes → ℕ → ℕ → Bool
shows [] j b = false
shows (test ∷ classes) zero b = test b
shows (test ∷ classes) (suc j) b = shows classes j b

-- each byte is in the class of its place
abbrev pub Fits : Classes → List ℕ → Type 0
Fits classes xs = (j : ℕ) → j < length classes → shows classes j (get_or xs j 0) ≡ true

module _ {A : Type 0} (f : Field A) (Fit : A → Type 0) where
  -- a good value, and one that shows the byte b at place j
  pub record Good : Type 0 where
    pub value : A
    pub fine : f.rule value ≡ true
    pub fit : Fit value

  pub record Showing (j b : ℕ) : Type 0 where
    pub value : A
    pub fine : f.rule value ≡ true
    pub fit : Fit value
    pub there : get_or (f.shape.put value) j 0 ≡ b

  -- the classes are exactly what the good values show, and there is a good value
  pub record Shows : Type 0 where
    pub wide : length f.classes ≡ f.shape.width
    pub only : (v : A) → f.rule v ≡ true → Fits f.classes (f.shape.put v)
    pub some : (j b : ℕ) → shows f.classes j b ≡ true → Showing j b
    pub good : Good

pub shown_inside : (classes : Classes) (j b : ℕ) → shows classes j b ≡ true → j < length classes
shown_inside [] j b e = absurd (false≢true e)
shown_inside (test ∷ classes) zero b e = omega arith
shown_inside (test ∷ classes) (suc j) b e = let h = shown_inside classes j b e in omega arith

fits_append : (cs ds : Classes) (xs ys : List ℕ) → length xs ≡ length cs → Fits cs xs → Fits ds ys → Fits (cs ++ ds) (xs ++ ys)
fits_append [] ds [] ys l f g j h = g j h
fits_append [] ds (x ∷ xs) ys l f g j h = absurd (omega arith)
fits_append (c ∷ cs) ds [] ys l f g j h = absurd (omega arith)
fits_append (c ∷ cs) ds (x ∷ xs) ys l f g zero h = f 0 (omega arith)
fits_append (c ∷ cs) ds (x ∷ xs) ys l f g (suc j) h = fits_append cs ds xs ys (omega arith) (λ i k. f (suc i) (omega arith)) g j (omega arith)

-- ---- a byte shows what its rule takes

pub letter_shows : {rule : ℕ → Bool} (some : ℕ) → rule some ≡ true → Shows (letter rule) (λ _. Unit {0})
letter_shows {rule} some good = record { wide = refl; only = one; some = that; good = record { value = some; fine = good; fit = tt } }
  where
    one : (v : ℕ) → rule v ≡ true → Fits (rule ∷ []) (v ∷ [])
    one v q zero h = q
    one v q (suc j) h = absurd (omega arith)

    that : (j b : ℕ) → shows (rule ∷ []) j b ≡ true → Showing (letter rule) (λ _. Unit {0}) j b
    that zero b e = record { value = b; fine = e; fit = tt; there = refl }
    that (suc j) b e = absurd (false≢true e)

-- ---- digits

front : (w n : ℕ) → digits (suc w) n ≡ (48 + n / 10 ^ w % 10) ∷ digits w n
unfolding digits
front w n = let e : suc w ≡ 1 + w = omega arith in ap (λ (x : ℕ). digits x n) e ∙ written_in_parts 1 w n

-- each digit of n is in the class of its place
data Each : Classes → ℕ → ℕ → Type 0 where
  none : {n : ℕ} → Each [] 0 n
  more : {test : ℕ → Bool} {classes : Classes} {w n : ℕ} → test (48 + n / 10 ^ w % 10) ≡ true → Each classes w n → Each (test ∷ classes) (suc w) n

each_fits : {classes : Classes} {w n : ℕ} → Each classes w n → Fits classes (digits w n)
each_fits none j h = absurd (omega arith)
each_fits (more {w = w} {n = n} q e) zero h = rw (front w n) q
each_fits (more {w = w} {n = n} q e) (suc j) h = rw (front w n) (each_fits e j (omega arith))

digit_in : (lo hi d : ℕ) → lo ≤ d → d ≤ hi → digit_from lo hi (48 + d) ≡ true
unfolding digit_from between
digit_in lo hi d h k = inside (48 + lo) (48 + hi) (48 + d) (omega arith) (omega arith)

each_any : (w n : ℕ) → Each (any_digits w) w n
each_any zero n = none
each_any (suc w) n = more (digit_in 0 9 (n / 10 ^ w % 10) (omega arith) (omega arith)) (each_any w n)

-- the first digit is at most `top`
each_top : (w top n : ℕ) → n < suc top * 10 ^ w → Each (digit_to top ∷ any_digits w) (suc w) n
each_top w top n h =
    let l : n / 10 ^ w < suc top = (div-lt_iff_lt-mul (one-le-pow w 10 (omega arith))).1 h in
    more (digit_in 0 top (n / 10 ^ w % 10) (omega arith) (omega arith)) (each_any w n)

-- ---- classes of digits alone: a value for each digit at each place, tried out

data Digital : Classes → Type 0 where
  no_more : Digital []
  digit : {classes : Classes} (lo hi : ℕ) → T (leb hi 9) → Digital classes → Digital (digit_from lo hi ∷ classes)

digital_any : (w : ℕ) → Digital (any_digits w)
digital_any zero = no_more
digital_any (suc w) = digit 0 9 tt (digital_any w)

digit_shown : {classes : Classes} → Digital classes → (j b : ℕ) → shows classes j b ≡ true → (48 ≤ b) × (b ≤ 57)
unfolding digit_from between
digit_shown no_more j b e = absurd (false≢true e)
digit_shown (digit lo hi h f) zero b e = let q = range (48 + lo) (48 + hi) b e in let k = leb→le hi 9 h in (omega arith, omega arith)
digit_shown (digit lo hi h f) (suc j) b e = digit_shown f j b e

-- test j d for all j below w and the ten digits d
abbrev tested : (ℕ → ℕ → Bool) → ℕ → Bool
tested test w = agree (λ j. agree (test j) (λ _. true) 10) (λ _. true) w

tested_at : (test : ℕ → ℕ → Bool) (w : ℕ) → tested test w ≡ true → (j d : ℕ) → j < w → d < 10 → test j d ≡ true
tested_at test w e j d h k = agreed (test j) (λ _. true) 10 (agreed (λ i. agree (test i) (λ _. true) 10) (λ _. true) w e j h) d k

-- if digit d can be at place j, a value is good and shows it there
abbrev witnessed : Classes → (ℕ → ℕ → Bool) → (ℕ → ℕ → List ℕ) → ℕ → ℕ → Bool
witnessed classes good text j d = not (shows classes j (48 + d)) || (good j d && eqb (get_or (text j d) j 0) (48 + d))

record Witness (good : Bool) (text : List ℕ) (j b : ℕ) : Type 0 where
  fine : good ≡ true
  there : get_or text j 0 ≡ b

witness : (classes : Classes) (good : ℕ → ℕ → Bool) (text : ℕ → ℕ → List ℕ) → Digital classes → tested (witnessed classes good text) (length classes) ≡ true
    → (j b : ℕ) → shows classes j b ≡ true → Witness (good j (b - 48)) (text j (b - 48)) j b
witness classes good text digital e j b s =
    let q = digit_shown digital j b s in
    let is : 48 + (b - 48) ≡ b = omega arith in
    let t = tested_at (witnessed classes good text) (length classes) e j (b - 48) (shown_inside classes j b s) (omega arith) in
    let s' : shows classes j (48 + (b - 48)) ≡ true = rw is s in
    let f = (and-eq-true_iff (good j (b - 48)) (eqb (get_or (text j (b - 48)) j 0) (48 + (b - 48)))).0 (rw s' at t) in
    record { fine = f.0; there = eqb-true _ _ f.1 ∙ is }

-- ---- a number

-- the least number with digit d at place j of w + 1; and the least but 0
abbrev pub least : ℕ → ℕ → ℕ → ℕ
least w j d = d * 10 ^ (w - j)

abbrev pub least_positive : ℕ → ℕ → ℕ → ℕ
least_positive w j d = cond (eqb d 0) (cond (eqb j w) 10 1) (least w j d)

-- the classes of a number of w + 1 digits, the first of them at most `top`, are right if these tests pass: each digit is tried out in a value, by a rule that takes no more than the field's
abbrev pub tried_out : ℕ → ℕ → ℕ → (ℕ → Bool) → (ℕ → ℕ → ℕ) → Bool
tried_out w top hi strict value =
    ltb hi (suc top * 10 ^ w) && leb top 9 && strict (value 0 1)
    && tested (witnessed (digit_to top ∷ any_digits w) (λ j d. strict (value j d)) (λ j d. digits (suc w) (value j d))) (length (digit_to top ∷ any_digits w))

module _ (w top hi : ℕ) {rule : ℕ → Bool} (strict : ℕ → Bool) (value : ℕ → ℕ → ℕ)
    (bound : (v : ℕ) → rule v ≡ true → v ≤ hi) (lax : (v : ℕ) → strict v ≡ true → rule v ≡ true) (e : tried_out w top hi strict value ≡ true) where
  abbrev table : Bool
  table = tested (witnessed (digit_to top ∷ any_digits w) (λ j d. strict (value j d)) (λ j d. digits (suc w) (value j d))) (length (digit_to top ∷ any_digits w))

  pub number_shows : Shows (record { shape = number (suc w); rule = rule; classes = digit_to top ∷ any_digits w }) (λ _. Unit {0})
  number_shows =
      let a = (and-eq-true_iff (ltb hi (suc top * 10 ^ w) && leb top 9 && strict (value 0 1)) table).0 e in
      let b = (and-eq-true_iff (ltb hi (suc top * 10 ^ w) && leb top 9) (strict (value 0 1))).0 a.0 in
      let c = (and-eq-true_iff (ltb hi (suc top * 10 ^ w)) (leb top 9)).0 b.0 in
      record {
        wide = ap suc (length-replicate w (digit_to 9));
        only = λ v q. each_fits (each_top w top v (let k = bound v q in let s = ltb-true hi (suc top * 10 ^ w) c.0 in omega arith));
        some = λ j b e.
            let x = witness (digit_to top ∷ any_digits w) (λ j d. strict (value j d)) (λ j d. digits (suc w) (value j d)) (digit 0 top (is_leb c.1) (digital_any w)) a.1 j b e in
            record { value = value j (b - 48); fine = lax (value j (b - 48)) x.fine; fit = tt; there = x.there };
        good = record { value = value 0 1; fine = lax (value 0 1) b.1; fit = tt };
      }
    where
      is_leb : {t : Bool} → t ≡ true → T t
      is_leb h = rw h tt

-- a number of at most hi
pub to_shows : (w top hi : ℕ) → tried_out w top hi (up_to hi) (least w) ≡ true → Shows (record { shape = number (suc w); rule = up_to hi; classes = digit_to top ∷ any_digits w }) (λ _. Unit {0})
to_shows w top hi e = number_shows w top hi (up_to hi) (least w) (up_to_law hi) (λ v q. q) e

-- a number from 1 to hi is one from `lowest` to hi, where that is 0 or 1
pub from_one : (lowest hi : ℕ) → lowest ≤ 1 → (v : ℕ) → between 1 hi v ≡ true → between lowest hi v ≡ true
unfolding between
from_one lowest hi h v e = let q = range 1 hi v e in inside lowest hi v (omega arith) (omega arith)

-- ---- a time

clock_each : (h m s f n : ℕ) → h ≤ 23 → m ≤ 59 → s ≤ 59 → f ≤ 9999 → n ≡ ((h * 100 + m) * 100 + s) * 10000 + f → Each time_of_day.classes 10 n
clock_each h m s f n a b c d e =
    more (digit_in 0 2 (n / 10 ^ 9 % 10) (omega arith) (omega arith))
    (more (digit_in 0 9 (n / 10 ^ 8 % 10) (omega arith) (omega arith))
    (more (digit_in 0 5 (n / 10 ^ 7 % 10) (omega arith) (omega arith))
    (more (digit_in 0 9 (n / 10 ^ 6 % 10) (omega arith) (omega arith))
    (more (digit_in 0 5 (n / 10 ^ 5 % 10) (omega arith) (omega arith))
    (each_any 5 n)))))

-- the ticks of the time whose ten digits are 0 but for a digit d at place j
abbrev ticks_with : ℕ → ℕ → ℕ
ticks_with j d =
    let n = d * 10 ^ (9 - j) in
    ((n / 100000000 * 60 + n / 1000000 % 100) * 60 + n / 10000 % 100) * 10000 + n % 10000

pub time_shows : Shows time_of_day (λ _. Unit {0})
unfolding clock_number digits digit_from between
time_shows = record {
  wide = refl;
  only = λ v q.
      let h = leb-true v last_tick q in
      each_fits (clock_each (v / 36000000) (v / 600000 % 60) (v / 10000 % 60) (v % 10000) (clock_number v) (omega arith) (omega arith) (omega arith) (omega arith) refl);
  some = λ j b e.
      let x = witness time_of_day.classes (λ j d. is_time (ticks_with j d)) (λ j d. clock.put (ticks_with j d))
      (digit 0 2 tt (digit 0 9 tt (digit 0 5 tt (digit 0 9 tt (digit 0 5 tt (digital_any 5)))))) refl j b e in
      record { value = ticks_with j (b - 48); fine = x.fine; fit = tt; there = x.there };
  good = record { value = 0; fine = refl; fit = tt };
}

-- ---- raw bytes

raw_shown : (n j b : ℕ) → shows (any_raw n) j b ≡ true → is_raw b ≡ true
raw_shown zero j b e = absurd (false≢true e)
raw_shown (suc n) zero b e = e
raw_shown (suc n) (suc j) b e = raw_shown n j b e

raw_fits : (n i : ℕ) (l : List ℕ) → all_from is_raw l i n ≡ true → Fits (any_raw n) (bytes_of l i n)
unfolding all_from
raw_fits zero i l e j h = absurd (omega arith)
raw_fits (suc n) i l e zero h = and_l (is_raw (get_or l i 0)) (all_from is_raw l (suc i) n) e
raw_fits (suc n) i l e (suc j) h = raw_fits n (suc i) l (and_r (is_raw (get_or l i 0)) (all_from is_raw l (suc i) n) e) j (omega arith)

raw_all : (n i : ℕ) (l : List ℕ) → ((k : ℕ) → k < i + n → is_raw (get_or l k 0) ≡ true) → all_from is_raw l i n ≡ true
unfolding all_from
raw_all zero i l f = refl
raw_all (suc n) i l f = and_true (f i (omega arith)) (raw_all n (suc i) l (λ k h. f k (omega arith)))

-- n times the byte b
copies_raw : (n b : ℕ) → is_raw b ≡ true → are_raw n (replicate n b) ≡ true
copies_raw n b e = raw_all n 0 (replicate n b) (λ k h. rw (get_or-replicate n k b 0 (omega arith)) e)

pub raw_shows : (n : ℕ) → Shows (raw_bytes n) (λ v. length v ≡ n)
unfolding is_raw between
raw_shows n = record {
  wide = length-replicate n is_raw;
  only = λ v q. raw_fits n 0 v q;
  some = λ j b e.
      let h = shown_inside (any_raw n) j b e in
      let l : length (replicate n b) ≡ n = length-replicate n b in
      record {
        value = replicate n b;
        fine = copies_raw n b (raw_shown n j b e);
        fit = l;
        there = rw (all_bytes (replicate n b) n l) (get_or-replicate n j b 0 (omega (arith, length-replicate n is_raw)));
      };
  good = record { value = replicate n 32; fine = copies_raw n 32 refl; fit = length-replicate n 32 };
}

-- ---- a sign and days

pub net_shows : (ticks : ℕ) → is_time ticks ≡ true → Shows (net_days ticks) (λ _. Unit {0} × Unit {0})
unfolding is_net is_sign one_of digits digit_from between
net_shows ticks time = record { wide = refl; only = λ v q. in_days v q; some = from_days; good = record { value = (43, 0); fine = plus 0 refl; fit = (tt, tt) } }
  where
    -- with a plus all days are good; with either sign one day is
    plus : (days : ℕ) → leb days 9999999 ≡ true → are_days ticks (43, days) ≡ true
    plus days e = rw (e, time)

    one_day : (sign : ℕ) → is_sign sign ≡ true → are_days ticks (sign, 1) ≡ true
    one_day sign e = rw (e, time) (not_zero (eqb sign 45) (eqb ticks 0))
      where
        not_zero : (minus no-time : Bool) → not (minus && (false && no-time)) ≡ true
        not_zero true no-time = refl
        not_zero false no-time = refl

    in_days : (v : ℕ × ℕ) → are_days ticks v ≡ true → Fits (net_days ticks).classes ((net_days ticks).shape.put v)
    in_days v q zero h = and_l (is_sign v.0) _ q
    in_days v q (suc j) h = each_fits (each_any 7 v.1) j (omega arith)

    from_days : (j b : ℕ) → shows (net_days ticks).classes j b ≡ true → Showing (net_days ticks) (λ _. Unit {0} × Unit {0}) j b
    from_days zero b e = record { value = (b, 1); fine = one_day b e; fit = (tt, tt); there = refl }
    from_days (suc j) b e =
        let x = witness (any_digits 7) (λ j d. leb (least 6 j d) 9999999) (λ j d. digits 7 (least 6 j d)) (digital_any 7) refl j b e in
        record { value = (43, least 6 j (b - 48)); fine = plus (least 6 j (b - 48)) x.fine; fit = (tt, tt); there = x.there }

-- ---- a date: its parts go together, so each digit is tried out in a whole date

-- day, month and year of a date with digit d at place j
abbrev date_with : ℕ → ℕ → ℕ × (ℕ × ℕ)
date_with j d = (
  cond (eqb j 0) (cond (eqb d 0) 1 (d * 10)) (cond (eqb j 1) (cond (eqb d 0) 10 d) 1),
  (cond (eqb j 2) (cond (eqb d 0) 1 10) (cond (eqb j 3) (cond (eqb d 0) 10 d) 1), cond (eqb j 6) (2000 + d * 10) (cond (eqb j 7) (2000 + d) 2000)),
)

year_each : (y : ℕ) → 2000 ≤ y → y ≤ 2099 → Each (digit_from 2 2 ∷ digit_to 0 ∷ any_digits 2) 4 y
year_each y h k =
    more (digit_in 2 2 (y / 10 ^ 3 % 10) (omega arith) (omega arith))
    (more (digit_in 0 0 (y / 10 ^ 2 % 10) (omega arith) (omega arith)) (each_any 2 y))

pub date_shows : Shows real_date (λ _. Unit {0} × (Unit {0} × Unit {0}))
unfolding real_day month_length leap digits digit_from between
date_shows = record {
  wide = refl;
  only = in_date;
  some = λ j b e.
      let x = witness real_date.classes (λ j d. is_date (date_with j d)) (λ j d. date.put (date_with j d))
      (digit 0 3 tt (digit 0 9 tt (digit 0 1 tt (digit 0 9 tt (digit 2 2 tt (digit 0 0 tt (digital_any 2))))))) refl j b e in
      record { value = date_with j (b - 48); fine = x.fine; fit = (tt, (tt, tt)); there = x.there };
  good = record { value = (1, (1, 2000)); fine = refl; fit = (tt, (tt, tt)) };
}
  where
    in_date : (v : ℕ × (ℕ × ℕ)) → is_date v ≡ true → Fits real_date.classes (date.put v)
    in_date v e =
        let b = day_bounds v.0 v.1.0 v.1.1 e in
        let d = b.day in
        let m = b.month in
        fits_append (digit_to 3 ∷ any_digits 1) (digit_to 1 ∷ any_digits 1 ++ (digit_from 2 2 ∷ digit_to 0 ∷ any_digits 2)) (digits 2 v.0) (digits 2 v.1.0 ++ digits 4 v.1.1) (length_digits 2 v.0) (each_fits (each_top 1 3 v.0 (omega arith)))
        (fits_append (digit_to 1 ∷ any_digits 1) (digit_from 2 2 ∷ digit_to 0 ∷ any_digits 2) (digits 2 v.1.0) (digits 4 v.1.1) (length_digits 2 v.1.0) (each_fits (each_top 1 1 v.1.0 (omega arith)))
        (each_fits (year_each v.1.1 b.least b.year)))
