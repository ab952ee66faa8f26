-- The quick check of a reply tests what the reader tests. Assumes nothing.
use Rattle.std.specs.Prelude.{Option, Some, None}
use Prim.Native.Nat.{ℕ, zero, suc, ◌+◌, ◌*◌, ◌<◌, ◌≤◌}
use mathlib.Core.List.{List}
use mathlib.Core.Bool.{Bool, true, false, true≢false, false≢true, cond, not, ◌&&◌, ◌||◌, and-eq-true_iff, and_comm}
use mathlib.Core.Path.{◌≡◌, refl, sym, ap, ◌∙◌}
use native.Mathlib.Omega.{arith}
use lib.Dec.{eqb, leb}
use lib.ListN.{length, get_or}
use borrow.Author.Tests.{leb-true, le-leb, lt-leb, eqb-true, eq-eqb, ne_eqb}
use Rattle.digits.specs.Text.{one_of}
use Rattle.digits.specs.Refusals.{FIELD}
use Rattle.digits.specs.Told.{Told, gives, refuses, tried}
use Rattle.digits.specs.Digits.{is_digit, number_at}
use Rattle.digits.specs.Form.{named}
use Rattle.digits.proofs.Tests.{by-test}
use Rattle.times.specs.Clock.{last_tick, is_hour, is_sixtieth, hours, minutes, seconds, fraction, ticks_of, clock, is_time}
use Rattle.times.specs.inside.Clock.{ticks_from}
use Rattle.times.specs.Day.{real_day}
use Rattle.times.specs.Net.{is_net}
use Rattle.times.proofs.ClockLaws.{time_in_parts}
use Rattle.times.proofs.DayLaws.{day_bounds}
use Rattle.times.proofs.NetLaws.{net_is}
use Rattle.frames.specs.declared.reply.StaticReply.{StaticReply}
use Rattle.frames.specs.Rules.{between, up_to, is_address, is_raw, is_requester}
use Rattle.frames.specs.Status.{is_status}
use Rattle.frames.specs.Shape.{all_from}
use Rattle.frames.specs.Layout.{wrong_unless, fields_of}
use Rattle.frames.specs.Kind.{letter_r, CR, head_told, read}
use Rattle.frames.specs.Timing.{is_sign, net_of}
use Rattle.frames.specs.Reply.{is_letter, is_reply_channel, least_run, reply_fields, reply, is_good}
use Rattle.frames.specs.inside.Held.{or_none}
use Rattle.frames.specs.inside.Timing.{clock_wrong, net_wrong, seen_clock, seen_net, seen_raw}
use Rattle.frames.specs.inside.Reply.{head_at, head_wrong, seen_in, reply_at, wrong_at, spoiled_byte}
use Rattle.frames.specs.inside.Check.{is_zero, bounds_good, codes_good, values_good, sign_good}
use Rattle.frames.proofs.RuleLaws.{none_in_range}
use Rattle.frames.proofs.HeadLaws.{tried_gives, then_gives, head_good}
use Rattle.frames.proofs.KindLaws.{passed}
use Rattle.frames.proofs.ReplyLaws.{head_fine, fields_told}
use Rattle.frames.proofs.DigitLaws as D

-- ---- tests

-- both of two tests
split : (a b : Bool) → a && b ≡ true → (a ≡ true) × (b ≡ true)
split a b e = (and-eq-true_iff a b).0 e

-- two tests of which each holds if the other does
same_test : (a b : Bool) → (a ≡ true → b ≡ true) → (b ≡ true → a ≡ true) → a ≡ b
same_test true b f g = sym (f refl)
same_test false true f g = g refl
same_test false false f g = refl

-- a test that cannot hold
never : (t : Bool) → (t ≡ true → ⊥) → false ≡ t
never true h = absurd (h refl)
never false h = refl

-- a test r of the code, by what it means
module _ {r t : Bool} (is : r ≡ t) where
  pub held : r ≡ true → t ≡ true
  held e = sym is ∙ e

  pub failed : r ≡ false → t ≡ false
  failed e = sym is ∙ e

-- the value of two tests, of which the second is made only if the first holds
pub made : {a b r : Bool} → a ≡ true → r ≡ b → r ≡ a && b
made e f = rw (e, f)

pub unmade : {a r : Bool} (b : Bool) → a ≡ false → r ≡ false → r ≡ a && b
unmade b e f = rw (e, f)

regrouped : (a b c d : Bool) → (a && b && c) && d ≡ a && (b && (c && d))
regrouped true true c d = refl
regrouped true false c d = refl
regrouped false b c d = refl

-- ---- a time of day from its digits

-- the time HHMMSSdddd is 0 if this number is
ticks_zero : (n : ℕ) → eqb (or_none (ticks_of n)) 0 ≡ eqb n 0
unfolding ticks_of
ticks_zero zero = refl
ticks_zero (suc k) = go (is_hour (hours (suc k)) && is_sixtieth (minutes (suc k)) && is_sixtieth (seconds (suc k))) ∙ sym (ne_eqb (suc k) 0 (λ z. absurd (omega (arith, z))))
  where
    some : (h m c f : ℕ) → ((h * 100 + m) * 100 + c) * 10000 + f ≡ suc k → ((h * 60 + m) * 60 + c) * 10000 + f ≡ 0 → ⊥
    some h m c f e z = omega arith

    go : (t : Bool) → eqb (or_none (cond t (Some (((hours (suc k) * 60 + minutes (suc k)) * 60 + seconds (suc k)) * 10000 + fraction (suc k))) None)) 0 ≡ false
    go true = ne_eqb _ 0 (some (hours (suc k)) (minutes (suc k)) (seconds (suc k)) (fraction (suc k)) (omega arith))
    go false = refl

ticks_time : (h m c f : ℕ) → f ≤ 9999 → is_time (or_none (ticks_from h m c f)) ≡ leb h 23 && leb m 59 && leb c 59
unfolding ticks_from
ticks_time h m c f k =
    by-test (leb h 23)
    (λ a. by-test (leb m 59)
    (λ b. by-test (leb c 59)
    (λ d. rw (a, b, d) (le-leb (((h * 60 + m) * 60 + c) * 10000 + f) last_tick (omega (arith, leb-true h 23 a, leb-true m 59 b, leb-true c 59 d, k))))
    (λ d. rw (a, b, d)))
    (λ b. rw (a, b)))
    (λ a. rw a)

-- ---- tests, one by one and in another order

-- three fields: none is wrong if each test holds
three_tests : (a b c : Bool) → eqb (wrong_unless a 30 (wrong_unless b 40 (wrong_unless c 48 0))) 0 ≡ a && (b && c)
three_tests true true true = refl
three_tests true true false = refl
three_tests true false c = refl
three_tests false b c = refl

turned : (a b c : Bool) → c && a && b ≡ a && (b && c)
turned true true true = refl
turned true true false = refl
turned true false true = refl
turned true false false = refl
turned false b true = refl
turned false b false = refl

by_sign : (sign : ℕ) (t d : Bool) → (eqb sign 43 || (eqb sign 45 || false)) && (true && true && not (eqb sign 45 && (d && t))) ≡ (eqb sign 43 || eqb sign 45 && not (t && d))
by_sign sign t d = by-test (eqb sign 43) (λ p. rw (eqb-true sign 43 p)) (λ p. rw p (go (eqb sign 45)))
  where
    go : (x : Bool) → (x || false) && (true && true && not (x && (d && t))) ≡ x && not (t && d)
    go true = ap not (and_comm d t)
    go false = refl

module _ (s : List ℕ) where
  -- ---- the tests of time, date and spare

  abbrev time : Bool
  time = is_time (or_none (clock.got s 30))

  abbrev date : Bool
  date = real_day (or_none (number_at s 40 2)) (or_none (number_at s 42 2)) (or_none (number_at s 44 4))

  abbrev days : Bool
  days = is_sign (get_or s 40 0) && is_net (net_of (or_none (clock.got s 30)) (get_or s 40 0) (or_none (number_at s 41 7)))

  abbrev spare : Bool
  spare = all_from is_raw s 48 2

  abbrev pub spare_and_time : Bool
  spare_and_time = spare && time

  -- ---- the time

  time_zero : all_from is_digit s 30 10 ≡ true → eqb (or_none (clock.got s 30)) 0 ≡ all_from is_zero s 30 10
  time_zero e = ap (λ (n : Option ℕ). eqb (or_none (named ticks_of n)) 0) (D.is_number s 30 10 refl e) ∙ ticks_zero (D.value_from s 30 10 0) ∙ D.value_zero s 30 10 0 e

  time_tests : all_from is_digit s 30 10 ≡ true → leb (or_none (number_at s 30 2)) 23 && leb (get_or s 32 0) 53 && leb (get_or s 34 0) 53 ≡ time
  unfolding up_to
  time_tests e =
      let a = D.parted s is_digit 30 2 8 e in
      let b = D.parted s is_digit 32 2 6 a.1 in
      let c = D.parted s is_digit 34 2 4 b.1 in
      let h : number_at s 30 2 ≡ Some (D.value_from s 30 2 0) = D.is_number s 30 2 refl a.0 in
      let m : number_at s 32 2 ≡ Some (D.value_from s 32 2 0) = D.is_number s 32 2 refl b.0 in
      let n : number_at s 34 2 ≡ Some (D.value_from s 34 2 0) = D.is_number s 34 2 refl c.0 in
      let f : number_at s 36 4 ≡ Some (D.value_from s 36 4 0) = D.is_number s 36 4 refl c.1 in
      let small : D.value_from s 36 4 0 ≤ 9999 = omega (arith, (D.value_bounds s 36 4 0 c.1).1) in
      let u : ticks_from (D.value_from s 30 2 0) (D.value_from s 32 2 0) (D.value_from s 34 2 0) (D.value_from s 36 4 0) ≡ clock.got s 30 =
      time_in_parts s 30 (Some _) (Some _) (Some _) (Some _) (sym h) (sym m) (sym n) (sym f) in
      let x : leb (or_none (number_at s 32 2)) 59 ≡ leb (get_or s 32 0) 53 = D.by_first s 32 1 5 59 refl refl b.0 in
      let y : leb (or_none (number_at s 34 2)) 59 ≡ leb (get_or s 34 0) 53 = D.by_first s 34 1 5 59 refl refl c.0 in
      rw (← x, ← y, ← u, h, m, n) (sym (ticks_time (D.value_from s 30 2 0) (D.value_from s 32 2 0) (D.value_from s 34 2 0) (D.value_from s 36 4 0) small))

  -- the check stops at the hour, or goes on to minutes and seconds
  pub time_stops : all_from is_digit s 30 10 ≡ true → 23 < or_none (number_at s 30 2) → false ≡ time
  time_stops e l = ap (λ (t : Bool). t && leb (get_or s 32 0) 53 && leb (get_or s 34 0) 53) (sym (lt-leb _ 23 l)) ∙ time_tests e

  pub time_goes_on : all_from is_digit s 30 10 ≡ true → or_none (number_at s 30 2) ≤ 23 → leb (get_or s 32 0) 53 && leb (get_or s 34 0) 53 ≡ time
  time_goes_on e l = ap (λ (t : Bool). t && leb (get_or s 32 0) 53 && leb (get_or s 34 0) 53) (sym (le-leb _ 23 l)) ∙ time_tests e

  time_digits : time ≡ true → all_from is_digit s 30 10 ≡ true
  time_digits = D.digits_by s (λ n. is_time (or_none (named ticks_of n))) refl 30 10 refl

  -- ---- time, date and spare, by their kind

  pub raw_good : all_from is_raw s 30 20 ≡ eqb (seen_raw s).wrong 0
  unfolding seen_raw all_from
  raw_good =
      D.all_apart s is_raw 30 10 10
      ∙ ap (λ (t : Bool). all_from is_raw s 30 10 && t) (D.all_apart s is_raw 40 8 2)
      ∙ sym (three_tests (all_from is_raw s 30 10) (all_from is_raw s 40 8) spare)

  clock_tests : eqb (seen_clock s).wrong 0 ≡ time && (date && spare)
  unfolding seen_clock clock_wrong all_from
  clock_tests = three_tests time date spare

  clock_good : spare && time && date ≡ eqb (seen_clock s).wrong 0
  clock_good = turned time date spare ∙ sym clock_tests

  -- the check stops at spare and time, or goes on to the date
  pub clock_stops : spare && time ≡ false → false ≡ eqb (seen_clock s).wrong 0
  clock_stops e = ap (λ (t : Bool). t && date) (sym e) ∙ clock_good

  pub clock_goes_on : spare && time ≡ true → date ≡ eqb (seen_clock s).wrong 0
  clock_goes_on e = ap (λ (t : Bool). t && date) (sym e) ∙ clock_good

  -- the numbers of a clock's time and date
  pub record ClockDigits : Type 0 where
    pub time : all_from is_digit s 30 10 ≡ true
    pub day : all_from is_digit s 40 2 ≡ true
    pub month : all_from is_digit s 42 2 ≡ true
    pub year : all_from is_digit s 44 4 ≡ true

  pub clock_digits : all_from is_digit s 30 18 ≡ true → ClockDigits
  clock_digits e =
      let ten = D.parted s is_digit 30 10 8 e in
      let day = D.parted s is_digit 40 2 6 ten.1 in
      let month = D.parted s is_digit 42 2 4 day.1 in
      record { time = ten.0; day = day.0; month = month.0; year = month.1 }

  date_digits : date ≡ true → all_from is_digit s 40 8 ≡ true
  date_digits e =
      let b = day_bounds (or_none (number_at s 40 2)) (or_none (number_at s 42 2)) (or_none (number_at s 44 4)) e in
      D.joint s is_digit 40 2 6 (D.digits_by s (λ n. leb (or_none n) 31) refl 40 2 refl (le-leb _ 31 b.day))
      (D.joint s is_digit 42 2 4 (D.digits_by s (λ n. leb (or_none n) 12) refl 42 2 refl (le-leb _ 12 b.month))
      (D.digits_by s (λ n. leb (or_none n) 2099) refl 44 4 refl (le-leb _ 2099 b.year)))

  pub clock_bad : all_from is_digit s 30 18 ≡ false → false ≡ eqb (seen_clock s).wrong 0
  clock_bad e =
      never (eqb (seen_clock s).wrong 0) (λ q.
      let a = split time (date && spare) (sym clock_tests ∙ q) in
      let d = D.joint s is_digit 30 10 8 (time_digits a.0) (date_digits (split date spare a.1).0) in
      true≢false (sym d ∙ e))

  net_tests : eqb (seen_net s).wrong 0 ≡ time && (days && spare)
  unfolding seen_net net_wrong all_from
  net_tests = three_tests time days spare

  -- the only net time that is refused is a minus in front of zero
  sign_tests : all_from is_digit s 30 10 ≡ true → all_from is_digit s 41 7 ≡ true → time ≡ true → days ≡ sign_good s
  unfolding is_sign one_of is_net sign_good up_to
  sign_tests e f g = rw (D.by_width s 41 6 9999999 refl refl f, g, D.number_zero s 41 7 refl f, time_zero e) (by_sign (get_or s 40 0) (all_from is_zero s 30 10) (all_from is_zero s 41 7))

  net_good : all_from is_digit s 30 10 ≡ true → all_from is_digit s 41 7 ≡ true → spare && time && sign_good s ≡ eqb (seen_net s).wrong 0
  net_good e f =
      turned time (sign_good s) spare
      ∙ by_time time (λ g. ap (λ (t : Bool). t && spare) (sym (sign_tests e f g)))
      ∙ sym net_tests
    where
      by_time : {x y : Bool} (t : Bool) → (t ≡ true → x ≡ y) → t && x ≡ t && y
      by_time true h = h refl
      by_time false h = refl

  module _ (digits : (all_from is_digit s 30 10 ≡ true) × (all_from is_digit s 41 7 ≡ true)) where
    -- the check stops at spare and time, or goes on to the days
    pub net_stops : spare && time ≡ false → false ≡ eqb (seen_net s).wrong 0
    net_stops e = ap (λ (t : Bool). t && sign_good s) (sym e) ∙ net_good digits.0 digits.1

    pub net_goes_on : spare && time ≡ true → sign_good s ≡ eqb (seen_net s).wrong 0
    net_goes_on e = ap (λ (t : Bool). t && sign_good s) (sym e) ∙ net_good digits.0 digits.1

  pub net_bad : all_from is_digit s 30 10 && all_from is_digit s 41 7 ≡ false → false ≡ eqb (seen_net s).wrong 0
  net_bad e =
      never (eqb (seen_net s).wrong 0) (λ q.
      let a = split time (days && spare) (sym net_tests ∙ q) in
      let b = split (is_sign (get_or s 40 0)) _ (split days spare a.1).0 in
      let n = net_is (net_of (or_none (clock.got s 30)) (get_or s 40 0) (or_none (number_at s 41 7))) b.1 in
      let d = D.digits_by s (λ n. leb (or_none n) 9999999) refl 41 7 refl (le-leb _ 9999999 n.days) in
      true≢false (sym ((and-eq-true_iff (all_from is_digit s 30 10) (all_from is_digit s 41 7)).1 (time_digits a.0, d)) ∙ e))

  -- ---- the whole reply

  -- the numbers before the time
  pub record Numbers : Type 0 where
    pub number : all_from is_digit s 7 5 ≡ true
    pub bib : all_from is_digit s 12 5 ≡ true
    pub group : all_from is_digit s 17 3 ≡ true
    pub run : all_from is_digit s 20 3 ≡ true
    pub physical : all_from is_digit s 23 3 ≡ true
    pub channel : all_from is_digit s 26 3 ≡ true

  pub numbers : all_from is_digit s 7 22 ≡ true → Numbers
  numbers e =
      let number = D.parted s is_digit 7 5 17 e in
      let bib = D.parted s is_digit 12 5 12 number.1 in
      let group = D.parted s is_digit 17 3 9 bib.1 in
      let run = D.parted s is_digit 20 3 6 group.1 in
      let physical = D.parted s is_digit 23 3 3 run.1 in
      record { number = number.0; bib = bib.0; group = group.0; run = run.0; physical = physical.0; channel = physical.1 }

  numbers_digits : Numbers → all_from is_digit s 7 22 ≡ true
  numbers_digits n =
      D.joint s is_digit 7 5 17 n.number
      (D.joint s is_digit 12 5 12 n.bib
      (D.joint s is_digit 17 3 9 n.group
      (D.joint s is_digit 20 3 6 n.run
      (D.joint s is_digit 23 3 3 n.physical n.channel))))

  -- what the code tests, in its order
  abbrev quick : Bool
  quick = all_from is_digit s 7 22 && (bounds_good s && (codes_good s && (values_good s && eqb (seen_in s).wrong 0)))

  program_and_mode : all_from is_raw s 3 2 ≡ is_raw (get_or s 3 0) && (is_raw (get_or s 4 0) && true)
  unfolding all_from
  program_and_mode = refl

  -- a reply that the reader takes passes the quick check
  given : (r : StaticReply) → read reply s ≡ gives r → quick ≡ true
  unfolding read head_wrong up_to is_reply_channel bounds_good codes_good values_good
  given r e =
      let head = then_gives (head_told 18 51 s) (fields_of reply_fields 2 s) r e in
      let p = passed 18 51 s head.0 in
      let told : tried (eqb (wrong_at s) 0) (FIELD (wrong_at s) (spoiled_byte s)) (gives (reply_at s)) ≡ gives r = fields_told s (sym head.0) ∙ e in
      let fine = eqb-true (wrong_at s) 0 (tried_gives (eqb (wrong_at s) 0) _ _ r told).0 in
      let f = head_fine (head_at s) (seen_in s).wrong fine in
      let digits : Numbers = record {
        number = D.digits_by s (λ n. up_to 99999 (or_none n)) refl 7 5 refl f.number;
        bib = D.digits_by s (λ n. up_to 59999 (or_none n)) refl 12 5 refl f.bib;
        group = D.digits_by s (λ n. up_to 199 (or_none n)) refl 17 3 refl f.group;
        run = D.digits_by s (λ n. between (least_run (get_or s 5 0)) 250 (or_none n)) (none_in_range (least_run (get_or s 5 0)) 250 (omega arith)) 20 3 refl f.run;
        physical = D.digits_by s (λ n. up_to 999 (or_none n)) refl 23 3 refl f.physical;
        channel = D.digits_by s (λ n. is_reply_channel (or_none n)) refl 26 3 refl f.channel;
      } in
      let first-bib = sym (D.by_first s 12 4 5 59999 refl refl digits.bib) ∙ f.bib in
      let first_group = sym (D.by_first s 17 2 1 199 refl refl digits.group) ∙ f.group in
      rw (
        numbers_digits digits,
        eq-eqb (get_or s 0 0) 18 p.first,
        eq-eqb (get_or s 1 0) letter_r p.letter_r_law,
        eq-eqb (get_or s 50 0) CR p.last,
        first-bib,
        first_group,
        p.address,
        f.requester,
        program_and_mode,
        f.program,
        f.mode,
        f.status,
        f.letter,
        f.run,
        f.channel,
        eq-eqb (seen_in s).wrong 0 f.none,
      )

  good_quick : is_good (read reply s) ≡ true → quick ≡ true
  good_quick = go (read reply s) refl
    where
      go : (t : Told StaticReply) → read reply s ≡ t → is_good t ≡ true → quick ≡ true
      go (gives r) e h = given r e
      go (refuses f) e h = absurd (false≢true h)

  -- a reply that passes the quick check is taken by the reader
  quick_good : length s ≡ 51 → quick ≡ true → is_good (read reply s) ≡ true
  unfolding head_wrong bounds_good codes_good values_good
  quick_good long e =
      let digits = split (all_from is_digit s 7 22) _ e in
      let bounds = split (bounds_good s) _ digits.1 in
      let codes = split (codes_good s) _ bounds.1 in
      let values = split (values_good s) (eqb (seen_in s).wrong 0) codes.1 in
      let group = split (eqb (get_or s 0 0) 18 && eqb (get_or s 1 0) letter_r && eqb (get_or s 50 0) CR && leb (get_or s 12 0) 53) (leb (get_or s 17 0) 49) bounds.0 in
      let bib = split (eqb (get_or s 0 0) 18 && eqb (get_or s 1 0) letter_r && eqb (get_or s 50 0) CR) (leb (get_or s 12 0) 53) group.0 in
      let last = split (eqb (get_or s 0 0) 18 && eqb (get_or s 1 0) letter_r) (eqb (get_or s 50 0) CR) bib.0 in
      let lead = split (eqb (get_or s 0 0) 18) (eqb (get_or s 1 0) letter_r) last.0 in
      let raw = split (is_address (get_or s 2 0) && is_requester (get_or s 6 0)) (all_from is_raw s 3 2) codes.0 in
      let address = split (is_address (get_or s 2 0)) (is_requester (get_or s 6 0)) raw.0 in
      let channel = split (is_status (get_or s 5 0) && is_letter (get_or s 29 0) && between (least_run (get_or s 5 0)) 250 (or_none (number_at s 20 3))) (is_reply_channel (or_none (number_at s 26 3))) values.0 in
      let run = split (is_status (get_or s 5 0) && is_letter (get_or s 29 0)) (between (least_run (get_or s 5 0)) 250 (or_none (number_at s 20 3))) channel.0 in
      let status = split (is_status (get_or s 5 0)) (is_letter (get_or s 29 0)) run.0 in
      let two = split (is_raw (get_or s 3 0)) (is_raw (get_or s 4 0) && true) (sym program_and_mode ∙ raw.1) in
      let mode = split (is_raw (get_or s 4 0)) true two.1 in
      let n = numbers digits.0 in
      let fine : wrong_at s ≡ 0 = rw (
        two.0,
        mode.0,
        status.0,
        address.1,
        D.by_width s 7 4 99999 refl refl n.number,
        D.by_first s 12 4 5 59999 refl refl n.bib ∙ bib.1,
        D.by_first s 17 2 1 199 refl refl n.group ∙ group.1,
        run.1,
        D.by_width s 23 2 999 refl refl n.physical,
        channel.1,
        status.1,
      ) (eqb-true (seen_in s).wrong 0 values.1) in
      let head = head_good 18 51 s (omega arith) (eqb-true (get_or s 0 0) 18 lead.0) long (eqb-true (get_or s 50 0) CR last.1) (eqb-true (get_or s 1 0) letter_r lead.1) address.0 in
      let told : tried (eqb (wrong_at s) 0) (FIELD (wrong_at s) (spoiled_byte s)) (gives (reply_at s)) ≡ read reply s = fields_told s head in
      rw (← told, eq-eqb (wrong_at s) 0 fine)

  -- `is_reply`, by the test at which it stops

  pub other_length : (length s ≡ 51 → ⊥) → false ≡ is_good (read reply s)
  unfolding read
  other_length no-long = go (read reply s) refl
    where
      go : (t : Told StaticReply) → read reply s ≡ t → false ≡ is_good t
      go (gives r) e = absurd (no-long (passed 18 51 s (then_gives (head_told 18 51 s) (fields_of reply_fields 2 s) r e).0).long)
      go (refuses f) e = refl

  module _ (long : length s ≡ 51) where
    reply_is : quick ≡ is_good (read reply s)
    reply_is = same_test quick (is_good (read reply s)) (quick_good long) good_quick

    -- the check stops at a test before time and date, or goes on to them
    pub no_digits : all_from is_digit s 7 22 ≡ false → false ≡ is_good (read reply s)
    no_digits e = rw e at reply_is

    module _ (digits : all_from is_digit s 7 22 ≡ true) where
      tests : (bounds_good s && codes_good s && values_good s) && eqb (seen_in s).wrong 0 ≡ is_good (read reply s)
      tests = regrouped (bounds_good s) (codes_good s) (values_good s) (eqb (seen_in s).wrong 0) ∙ (rw digits at reply_is)

      -- the check stops at a test before time and date, or goes on to them
      pub reply_stops : bounds_good s && codes_good s && values_good s ≡ false → false ≡ is_good (read reply s)
      reply_stops e = ap (λ (t : Bool). t && eqb (seen_in s).wrong 0) (sym e) ∙ tests

      pub reply_goes_on : bounds_good s && codes_good s && values_good s ≡ true → eqb (seen_in s).wrong 0 ≡ is_good (read reply s)
      reply_goes_on e = ap (λ (t : Bool). t && eqb (seen_in s).wrong 0) (sym e) ∙ tests
