-- Time and date of a reply: their layouts are sound, and the code tests, reads and stores what they say. Assumes nothing.
use Prim.Native.Nat.{ℕ, zero, suc}
use mathlib.Core.List.{List, [], ◌∷◌, ◌++◌, append_assoc}
use mathlib.Core.Bool.{Bool, true, false, ◌&&◌, ◌||◌, and-eq-true_iff}
use mathlib.Core.Path.{◌≡◌, refl, sym, ap, ◌∙◌}
use native.Mathlib.Omega.{arith}
use lib.Dec.{eqb, leb}
use lib.ListN.{length, get_or, set, replicate}
use lib.IntN.{ℤ}
use lib.Seq.{sets}
use borrow.Author.Tests.{eqb-true, leb-true, le-leb}
use Rattle.digits.specs.Text.{one_of}
use Rattle.digits.specs.Digits.{digits, number_at}
use Rattle.digits.proofs.Tests.{and_true}
use Rattle.digits.proofs.Writing.{sets_append, length_digits}
use Rattle.times.specs.declared.net.NetParts.{NetParts}
use Rattle.times.specs.Clock.{clock}
use Rattle.times.specs.Net.{is_net, net_sum, net_value, net_parts}
use Rattle.times.proofs.DayLaws.{day_bounds}
use Rattle.times.proofs.NetLaws.{net_inverse, net_is}
use Rattle.frames.specs.declared.timing.TimingKind.{TimingKind}
use Rattle.frames.specs.declared.timing.TimingKind.TheVariants.{Clock as clock_kind, Net as net_kind, Raw as raw_kind}
use Rattle.frames.specs.declared.timing.Timing.{Timing}
use Rattle.frames.specs.declared.timing.Timing.TheVariants.{Clock, Net, Raw}
use Rattle.frames.specs.Shape.{bytes_of, all_from}
use Rattle.frames.specs.Classes.{digit_from}
use Rattle.frames.specs.Layout.{record_wrong, write}
use Rattle.frames.specs.Timing.{Times, is_of, are_zero, date, is_date, real_date, ticks_in, date_in, is_sign, sign_of, net_of, net_in, days_in, signed_days, are_days, net_days, timed}
use Rattle.frames.specs.inside.Held.{or_none}
use Rattle.frames.specs.inside.Timing.{clock_wrong, net_wrong, net_value_wrong, timing_wrong, seen_clock, net_timing, seen_net, seen_raw, seen_of, clock_text, net_text, timing_text}
use Rattle.frames.specs.inside.Spoiled.{in_class, looked_in, timing_byte, reply_byte}
use Rattle.frames.proofs.RuleLaws.{or_cases, or_false}
use Rattle.frames.proofs.RunLaws.{shifted}
use Rattle.frames.proofs.ShapeLaws.{Inverse, digits_inverse, both_inverse}
use Rattle.frames.proofs.LayoutLaws.{unless_none, Sound, field_sound, suits_sound, end_sound, byte_inverse, time_sound, raw_sound, Sees, sees_suits, sees_end}
use Rattle.frames.proofs.ShownLaws.{date_shows, net_shows}
use Rattle.frames.proofs.SeesLaws.{sees_time, sees_date, sees_days, sees_raw}

-- ---- stores that are a single run

pub clock_stores : (o : List ℕ) (ticks day month year : ℕ)
    → sets (sets (sets (sets o 30 (clock.put ticks)) 40 (digits 2 day)) 42 (digits 2 month)) 44 (digits 4 year) ≡ sets o 30 (clock_text ticks day month year)
clock_stores o ticks day month year = simp (sets_append, length_digits)

pub net_stores : (o : List ℕ) (v : ℤ)
    → sets (set (sets o 30 (clock.put (net_parts v).time)) 40 (sign_of (net_parts v).minus)) 41 (digits 7 (net_parts v).days) ≡ sets o 30 (net_text v)
net_stores o v = simp (sets_append, length_digits)

-- ---- bytes that are all zero

zeros_are : (n : ℕ) (l : List ℕ) → length l ≡ n → are_zero n l ≡ true → replicate n 0 ≡ l
unfolding all_from
zeros_are zero [] h e = refl
zeros_are zero (x ∷ l) h e = absurd (omega arith)
zeros_are (suc n) [] h e = absurd (omega arith)
zeros_are (suc n) (x ∷ l) h e =
    let q = (and-eq-true_iff (eqb x 0) (all_from (λ b. eqb b 0) (x ∷ l) 1 n)).0 e in
    rw (eqb-true x 0 q.0, zeros_are n l (omega arith) (sym (shifted (λ b. eqb b 0) x l 0 n) ∙ q.1))

-- ---- the layouts are sound

-- the arrays have their lengths
pub record WholeTimes (t : Times) : Type 0 where
  pub time : length t.raw_time ≡ 10
  pub date : length t.raw_date ≡ 8
  pub spare : length t.spare ≡ 2

date_inverse : Inverse date is_date (λ _. Unit {0} × (Unit {0} × Unit {0}))
date_inverse =
    both_inverse {rule_a = λ d. leb d 31} {rule_b = λ v. leb v.0 12 && leb v.1 2099}
    (digits_inverse 2 31 tt tt (λ v h. leb-true v 31 h))
    (both_inverse {rule_a = λ m. leb m 12} {rule_b = λ y. leb y 2099}
    (digits_inverse 2 12 tt tt (λ v h. leb-true v 12 h))
    (digits_inverse 4 2099 tt tt (λ v h. leb-true v 2099 h))
    (λ v h. (and-eq-true_iff (leb v.0 12) (leb v.1 2099)).0 h))
    (λ v h. let b = day_bounds v.0 v.1.0 v.1.1 h in (le-leb v.0 31 b.day, and_true (le-leb v.1.0 12 b.month) (le-leb v.1.1 2099 b.year)))

days_inverse : (ticks : ℕ) → Inverse signed_days (are_days ticks) (λ _. Unit {0} × Unit {0})
days_inverse ticks =
    both_inverse {rule_a = λ _. true} {rule_b = λ d. leb d 9999999} byte_inverse
    (digits_inverse 7 9999999 tt tt (λ v h. leb-true v 9999999 h))
    (λ v h. (refl, le-leb v.1 9999999 (net_is (net_of ticks v.0 v.1) ((and-eq-true_iff (is_sign v.0) (is_net (net_of ticks v.0 v.1))).0 h).1).days))

-- a record of this kind with these values, whose unused bytes are zero

unused_are : (rt rd : List ℕ) → length rt ≡ 10 → length rd ≡ 8 → (are_zero 10 rt && are_zero 8 rd) ≡ true → (replicate 10 0 ≡ rt) × (replicate 8 0 ≡ rd)
unused_are rt rd a b e =
    let q = (and-eq-true_iff (are_zero 10 rt) (are_zero 8 rd)).0 e in
    (zeros_are 10 rt a q.0, zeros_are 8 rd b q.1)

same_times : {t u : Timing} {a b c d e f : List ℕ} → t ≡ u → a ≡ b → c ≡ d → e ≡ f
    → ◌≡◌ {A = Times} (record { timing = t; raw_time = a; raw_date = c; spare = e }) (record { timing = u; raw_time = b; raw_date = d; spare = f })
same_times p q r s i = record { timing = p i; raw_time = q i; raw_date = r i; spare = s i }

clock_of : (t : Timing) (ticks : ℕ) (day : ℕ × (ℕ × ℕ)) → is_of clock_kind t ≡ true → ticks_in t ≡ ticks → date_in t ≡ day → Clock ticks day.0 day.1.0 day.1.1 ≡ t
clock_of (Clock ticks d m y) ticks' day e a b = rw (← a, ← b)
clock_of (Net value) ticks day e a b = absurd (let z : ◌≡◌ {A = ℕ} 0 1 = cc in omega arith)
clock_of Raw ticks day e a b = absurd (let z : ◌≡◌ {A = ℕ} 0 1 = cc in omega arith)

pub sign_back : (m : Bool) → eqb (sign_of m) 45 ≡ m
sign_back true = refl
sign_back false = refl

sign_again : (sign : ℕ) → is_sign sign ≡ true → sign_of (eqb sign 45) ≡ sign
unfolding is_sign one_of
sign_again sign e =
    or_cases (eqb sign 43) (eqb sign 45 || false) (sign_of (eqb sign 45) ≡ sign)
    (λ p. rw (eqb-true sign 43 p))
    (λ p. or_cases (eqb sign 45) false (sign_of (eqb sign 45) ≡ sign) (λ q. rw (eqb-true sign 45 q)) (λ q. absurd (let z : ◌≡◌ {A = ℕ} 0 1 = cc in omega arith)) p) e

net_of_law : (t : Timing) (ticks : ℕ) (days : ℕ × ℕ) → is_of net_kind t ≡ true → (net_in t).time ≡ ticks → days_in t ≡ days → Net (net_sum (net_of ticks days.0 days.1)) ≡ t
net_of_law (Net v) ticks days e a b = rw (← a, ← b, sign_back (net_parts v).minus) (ap Net (net_inverse.again v))
net_of_law (Clock ticks' d m y) ticks days e a b = absurd (let z : ◌≡◌ {A = ℕ} 0 1 = cc in omega arith)
net_of_law Raw ticks days e a b = absurd (let z : ◌≡◌ {A = ℕ} 0 1 = cc in omega arith)

raw_of : (t : Timing) → is_of raw_kind t ≡ true → Raw ≡ t
raw_of Raw e = refl
raw_of (Clock ticks d m y) e = absurd (let z : ◌≡◌ {A = ℕ} 0 1 = cc in omega arith)
raw_of (Net v) e = absurd (let z : ◌≡◌ {A = ℕ} 0 1 = cc in omega arith)

-- the parts of a net value
module _ (ticks : ℕ) (days : ℕ × ℕ) (good : are_days ticks days ≡ true) where
  net_parts_are : net_parts (net_sum (net_of ticks days.0 days.1)) ≡ net_of ticks days.0 days.1
  net_parts_are = net_inverse.back (net_of ticks days.0 days.1) ((and-eq-true_iff (is_sign days.0) (is_net (net_of ticks days.0 days.1))).0 good).1

  net_days_are : days_in (Net (net_sum (net_of ticks days.0 days.1))) ≡ days
  net_days_are = ap (λ (p : NetParts). (sign_of p.minus, p.days)) net_parts_are ∙ (ap (λ (s : ℕ). (s, days.1)) (sign_again days.0 ((and-eq-true_iff (is_sign days.0) (is_net (net_of ticks days.0 days.1))).0 good).0))

pub timed_sound : (kind : TimingKind) → Sound WholeTimes (timed kind) (λ _. Unit {0}) (Unit {0}) 20
unfolding timed all_from
timed_sound clock_kind =
    suits_sound {at = 30} (omega arith)
    (time_sound tt λ ticks _.
    field_sound {at = 40} {n = 10} {f = real_date} (omega arith) (omega arith) date_inverse date_shows (λ t whole. (tt, (tt, tt))) λ day _.
    raw_sound 2 tt (λ t whole. whole.spare) λ spare _.
    suits_sound {at = 50} (omega arith)
    (end_sound (((((tt, refl), refl), refl), refl), refl)
    (λ f. record { time = refl; date = refl; spare = f.1 })
    (λ t whole h.
    let u = unused_are t.raw_time t.raw_date whole.time whole.date h.1 in
    same_times (clock_of t.timing ticks day h.0.0.0.0.1 h.0.0.0.1 h.0.0.1) u.0 u.1 (sym h.0.1))))
timed_sound net_kind =
    suits_sound {at = 30} (omega arith)
    (time_sound tt λ ticks time.
    field_sound {at = 40} {n = 10} {f = net_days ticks} (omega arith) (omega arith) (days_inverse ticks) (net_shows ticks time) (λ t whole. (tt, tt)) λ days good.
    raw_sound 2 tt (λ t whole. whole.spare) λ spare _.
    suits_sound {at = 50} (omega arith)
    (end_sound (((((tt, refl), ap (λ (p : _). p.time) (net_parts_are ticks days good)), net_days_are ticks days good), refl), refl)
    (λ f. record { time = refl; date = refl; spare = f.1 })
    (λ t whole h.
    let u = unused_are t.raw_time t.raw_date whole.time whole.date h.1 in
    same_times (net_of_law t.timing ticks days h.0.0.0.0.1 h.0.0.0.1 h.0.0.1) u.0 u.1 (sym h.0.1))))
timed_sound raw_kind =
    suits_sound {at = 30} (omega arith)
    (raw_sound 10 tt (λ t whole. whole.time) λ _ _.
    raw_sound 8 tt (λ t whole. whole.date) λ _ _.
    raw_sound 2 tt (λ t whole. whole.spare) λ _ _.
    end_sound ((((tt, refl), refl), refl), refl)
    (λ f. record { time = f.0.0.1; date = f.0.1; spare = f.1 })
    (λ t whole h. same_times (raw_of t.timing h.0.0.0.1) (sym h.0.0.1) (sym h.0.1) (sym h.1)))

-- ---- `timing_wrong` returns the first wrong part of time and date

pub timing_wrong_is : (kind : TimingKind) (t : Timing) (rt rd sp : List ℕ)
    → timing_wrong kind t rt rd sp ≡ record_wrong (timed kind) (record { timing = t; raw_time = rt; raw_date = rd; spare = sp })
unfolding timed record_wrong clock_wrong net_value_wrong net_wrong
timing_wrong_is clock_kind (Clock ticks day month year) rt rd sp = refl
timing_wrong_is clock_kind (Net value) rt rd sp = refl
timing_wrong_is clock_kind Raw rt rd sp = refl
timing_wrong_is net_kind (Clock ticks day month year) rt rd sp = refl
timing_wrong_is net_kind (Net value) rt rd sp = refl
timing_wrong_is net_kind Raw rt rd sp = refl
timing_wrong_is raw_kind (Clock ticks day month year) rt rd sp = refl
timing_wrong_is raw_kind (Net value) rt rd sp = refl
timing_wrong_is raw_kind Raw rt rd sp = refl

-- if time and date of a record are not wrong, its timing has the kind that is asked for
pub kind_fits : (kind : TimingKind) (t : Times) → record_wrong (timed kind) t ≡ 0 → is_of kind t.timing ≡ true
unfolding timed record_wrong
kind_fits clock_kind t e = (unless_none (is_of clock_kind t.timing) 30 _ (omega arith) e).0
kind_fits net_kind t e = (unless_none (is_of net_kind t.timing) 30 _ (omega arith) e).0
kind_fits raw_kind t e = (unless_none (is_of raw_kind t.timing) 30 _ (omega arith) e).0

-- ---- `seen_at` reads a frame's time and date

abbrev pub times_seen : TimingKind → List ℕ → Times
times_seen kind s = record { timing = (seen_of kind s).timing; raw_time = (seen_of kind s).raw.time; raw_date = (seen_of kind s).raw.date; spare = bytes_of s 48 2 }

net_seen : (ticks sign days : ℕ) → are_days ticks (sign, days) ≡ true → Net (net_sum (net_of ticks sign days)) ≡ net_timing (net_of ticks sign days)
unfolding net_value
net_seen ticks sign days good = rw ((and-eq-true_iff (is_sign sign) (is_net (net_of ticks sign days))).0 good).1

no_days : (ticks sign : ℕ) → are_days ticks (sign, 4294967295) ≡ false
unfolding is_net
no_days ticks sign = and_false (is_sign sign)
  where
    and_false : (a : Bool) → (a && false) ≡ false
    and_false true = refl
    and_false false = refl

pub sees_timed : (kind : TimingKind) (s : List ℕ) → Sees (timed kind) 30 s (reply_byte kind s) (seen_of kind s).wrong (times_seen kind s)
unfolding timed seen_clock seen_net seen_raw clock_wrong net_wrong looked_in in_class digit_from
sees_timed clock_kind s =
    sees_suits (sees_time tt refl λ _. sees_date tt refl λ _. sees_raw 2 tt refl λ _. sees_suits (sees_end refl))
sees_timed net_kind s =
    let ticks = or_none (clock.got s 30) in
    let days = or_none (number_at s 41 7) in
    sees_suits (sees_time tt refl λ _. sees_days ticks tt (no_days ticks (get_or s 40 0)) refl λ good. sees_raw 2 tt refl λ _.
    sees_suits (sees_end (same_times (net_seen ticks (get_or s 40 0) days good) refl refl refl)))
sees_timed raw_kind s = sees_suits (sees_raw 10 tt refl λ _. sees_raw 8 tt refl λ _. sees_raw 2 tt refl λ _. sees_end refl)

-- a wrong field that is not time or date has its spoiled byte elsewhere
pub timing_passed : (kind : TimingKind) (s : List ℕ) (wrong known : ℕ) → (eqb wrong 40 || eqb wrong 30) ≡ false → timing_byte kind s wrong known ≡ known
unfolding looked_in
timing_passed kind s wrong known e = let q = or_false (eqb wrong 40) (eqb wrong 30) e in by_kind kind q.0 q.1
  where
    by_kind : (kind : TimingKind) → eqb wrong 40 ≡ false → eqb wrong 30 ≡ false → timing_byte kind s wrong known ≡ known
    by_kind clock_kind a b = rw (a, b)
    by_kind net_kind a b = rw (a, b)
    by_kind raw_kind a b = rw (a, b)

-- ---- time and date, as they are stored, are those of the frame

pub timing_text_law : (kind : TimingKind) (t : Timing) (rt rd sp : List ℕ) → is_of kind t ≡ true
    → write (timed kind) (record { timing = t; raw_time = rt; raw_date = rd; spare = sp }) ≡ timing_text t rt rd ++ bytes_of sp 0 2
unfolding timed write
timing_text_law clock_kind (Clock ticks day month year) rt rd sp e = simp append_assoc
timing_text_law net_kind (Net v) rt rd sp e = simp append_assoc
timing_text_law raw_kind Raw rt rd sp e = refl
timing_text_law clock_kind (Net v) rt rd sp e = absurd (let z : ◌≡◌ {A = ℕ} 0 1 = cc in omega arith)
timing_text_law clock_kind Raw rt rd sp e = absurd (let z : ◌≡◌ {A = ℕ} 0 1 = cc in omega arith)
timing_text_law net_kind (Clock ticks day month year) rt rd sp e = absurd (let z : ◌≡◌ {A = ℕ} 0 1 = cc in omega arith)
timing_text_law net_kind Raw rt rd sp e = absurd (let z : ◌≡◌ {A = ℕ} 0 1 = cc in omega arith)
timing_text_law raw_kind (Clock ticks day month year) rt rd sp e = absurd (let z : ◌≡◌ {A = ℕ} 0 1 = cc in omega arith)
timing_text_law raw_kind (Net v) rt rd sp e = absurd (let z : ◌≡◌ {A = ℕ} 0 1 = cc in omega arith)
