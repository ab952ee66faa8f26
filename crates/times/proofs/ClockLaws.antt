-- A time of day is a lawful form: each time reads as one number of ticks, and each number of ticks of a day is written in one way. Assumes nothing.
use Prim.Native.Nat.{ℕ, ◌+◌, ◌*◌, ◌/◌, ◌%◌, ◌^◌, ◌≤◌, ◌<◌}
use mathlib.Core.List.{List, ◌++◌}
use mathlib.Core.Bool.{Bool, true, false, cond, ◌&&◌, and-eq-true_iff}
use mathlib.Core.Logic.{◌⊎◌, inl, inr}
use mathlib.Core.Path.{◌≡◌, refl, sym, ap, ◌∙◌}
use native.Mathlib.Omega.{arith}
use lib.ListN.{length}
use lib.Seq.{sets}
use borrow.Author.Tests.{leb-true, le-leb, lt-leb}
use Rattle.std.specs.Prelude.{Option, Some, None}
use Rattle.digits.specs.Form.{Lawful, number, named}
use Rattle.digits.specs.Digits.{digits, number_at}
use Rattle.digits.proofs.Reading.{no_room}
use Rattle.digits.proofs.Writing.{length_digits, sets_append}
use Rattle.digits.proofs.Laws.{read_was_written}
use Rattle.digits.proofs.Parts.{joined, read_in_parts, written_in_parts}
use Rattle.digits.proofs.Forms.{number_lawful, number_back, renamed_lawful}
use Rattle.times.specs.Clock.{a_day, last_tick, is_hour, is_sixtieth, hours, minutes, seconds, fraction, ticks_of, clock_number, clock, ClockInverse}
use Rattle.times.specs.inside.Clock.{ticks_from}

-- what follows for HHMMSSdddd if it has ticks
record Time (n v : ℕ) : Type 0 where
  hour : hours n ≤ 23
  minute : minutes n ≤ 59
  second : seconds n ≤ 59
  sum : v ≡ ((hours n * 60 + minutes n) * 60 + seconds n) * 10000 + fraction n

time_is : (n v : ℕ) → ticks_of n ≡ Some v → Time n v
unfolding ticks_of
time_is n v e = go _ refl e
  where
    go : (t : Bool) → (is_hour (hours n) && is_sixtieth (minutes n) && is_sixtieth (seconds n)) ≡ t → cond t (Some (((hours n * 60 + minutes n) * 60 + seconds n) * 10000 + fraction n)) None ≡ Some v → Time n v
    go false q r = absurd (let z : ◌≡◌ {A = ℕ} 0 1 = cc in omega arith)
    go true q r =
        let s : ((hours n * 60 + minutes n) * 60 + seconds n) * 10000 + fraction n ≡ v = cc in
        let a = (and-eq-true_iff (is_hour (hours n) && is_sixtieth (minutes n)) (is_sixtieth (seconds n))).0 q in
        let b = (and-eq-true_iff (is_hour (hours n)) (is_sixtieth (minutes n))).0 a.0 in
        let most = leb-true (hours n) _ b.0 in
        record { hour = omega (arith, most); minute = leb-true _ _ b.1; second = leb-true _ _ a.1; sum = sym s }

-- ---- the four parts of a sum with these bases

pub split_ticks : (h m s d : ℕ) → m ≤ 59 → s ≤ 59 → d ≤ 9999 → (v : ℕ) → v ≡ ((h * 60 + m) * 60 + s) * 10000 + d
    → (v / 36000000 ≡ h) × (v / 600000 % 60 ≡ m) × (v / 10000 % 60 ≡ s) × (v % 10000 ≡ d)
split_ticks h m s d a b c v e = (omega arith, omega arith, omega arith, omega arith)

split_digits : (h m s d : ℕ) → m ≤ 99 → s ≤ 99 → d ≤ 9999 → (n : ℕ) → n ≡ ((h * 100 + m) * 100 + s) * 10000 + d
    → (hours n ≡ h) × (minutes n ≡ m) × (seconds n ≡ s) × (fraction n ≡ d)
split_digits h m s d a b c n e = (omega arith, omega arith, omega arith, omega arith)

join_digits : (n : ℕ) → ((hours n * 100 + minutes n) * 100 + seconds n) * 10000 + fraction n ≡ n
join_digits n = omega arith

join_ticks : (v : ℕ) → ((v / 36000000 * 60 + v / 600000 % 60) * 60 + v / 10000 % 60) * 10000 + v % 10000 ≡ v
join_ticks v = omega arith

-- ---- the ticks of HHMMSSdddd lead back to it, and the ticks of a day, written as HHMMSSdddd, read back

number_again : (n v : ℕ) → ticks_of n ≡ Some v → clock_number v ≡ n
unfolding clock_number
number_again n v e =
    let t = time_is n v e in
    let q = split_ticks (hours n) (minutes n) (seconds n) (fraction n) t.minute t.second (omega arith) v t.sum in
    rw (q.0, q.1, q.2, q.3) (join_digits n)

clock_lawful : Lawful clock
clock_lawful = renamed_lawful (number 10) ticks_of clock_number number_again (number_lawful 10 (omega arith) (omega arith))

time_of : (n h m s d : ℕ) → hours n ≡ h → minutes n ≡ m → seconds n ≡ s → fraction n ≡ d → h ≤ 23 → m ≤ 59 → s ≤ 59
    → ticks_of n ≡ Some (((h * 60 + m) * 60 + s) * 10000 + d)
unfolding ticks_of
time_of n h m s d eh em es ed a b c =
    let i : is_hour h ≡ true = le-leb h _ (omega arith) in
    let j : is_sixtieth m ≡ true = le-leb m _ (omega arith) in
    let k : is_sixtieth s ≡ true = le-leb s _ (omega arith) in
    rw (eh, em, es, ed, i, j, k)

ticks_again : (v : ℕ) → v < a_day → ticks_of (clock_number v) ≡ Some v
unfolding clock_number
ticks_again v f =
    let h = v / 36000000 in
    let m = v / 600000 % 60 in
    let s = v / 10000 % 60 in
    let d = v % 10000 in
    let q = split_digits h m s d (omega arith) (omega arith) (omega arith) (clock_number v) refl in
    time_of (clock_number v) h m s d q.0 q.1 q.2 q.3 (omega arith) (omega arith) (omega arith) ∙ ap Some (join_ticks v)

ten_digits : (v : ℕ) → v < a_day → clock_number v < 10 ^ 10
unfolding clock_number
ten_digits v h = omega arith

clock_back : (v : ℕ) → v < a_day → clock.got (clock.put v) 0 ≡ Some v
clock_back v h = ap (named ticks_of) (number_back 10 (clock_number v) (omega arith) (omega arith) (ten_digits v h)) ∙ ticks_again v h

pub clock_inverse : ClockInverse
clock_inverse = record { lawful = clock_lawful; back = λ v e. let h = leb-true v last_tick e in clock_back v (omega arith) }

-- what is read as a time is less than a day
pub time_below : (s : List ℕ) (p v : ℕ) → clock.got s p ≡ Some v → v < a_day
time_below s p v e = go ((number 10).got s p) e
  where
    go : (x : Option ℕ) → named ticks_of x ≡ Some v → v < a_day
    go (Some n) q = let t = time_is n v q in omega arith
    go None q = absurd (let z : ◌≡◌ {A = ℕ} 0 1 = cc in omega arith)

-- ---- a time read part by part

in_order : (h m s f : ℕ) → m < 100 → s < 100 → f < 10000 → (n : ℕ) → n ≡ ((h * 100 + m) * 100 + s) * 10000 + f → ticks_of n ≡ ticks_from h m s f
unfolding ticks_of ticks_from
in_order h m s f a b c n e =
    let q = split_digits h m s f (omega arith) (omega arith) (omega arith) n e in
    rw (q.0, q.1, q.2, q.3)

pub no_ticks : (h m s f : ℕ) → ((h ≤ 23) × (m ≤ 59) × (59 < s)) ⊎ (((h ≤ 23) × (59 < m)) ⊎ (23 < h)) → None ≡ ticks_from h m s f
unfolding ticks_from
no_ticks h m s f (inl e) = rw (le-leb h 23 e.0, le-leb m 59 e.1, lt-leb s 59 e.2)
no_ticks h m s f (inr (inl e)) = rw (le-leb h 23 e.0, lt-leb m 59 e.1)
no_ticks h m s f (inr (inr e)) = rw (lt-leb h 23 e)

-- the ticks of four parts, if each is a number
abbrev of_parts : Option ℕ → Option ℕ → Option ℕ → Option ℕ → Option ℕ
of_parts (Some h) (Some m) (Some s) (Some f) = ticks_from h m s f
of_parts (Some h) (Some m) (Some s) None = None
of_parts (Some h) (Some m) None w = None
of_parts (Some h) None z w = None
of_parts None y z w = None

by_parts : (x y z w : Option ℕ) → ((v : ℕ) → y ≡ Some v → v < 100) → ((v : ℕ) → z ≡ Some v → v < 100) → ((v : ℕ) → w ≡ Some v → v < 10000)
    → named ticks_of (joined 8 x (joined 6 y (joined 4 z w))) ≡ of_parts x y z w
by_parts (Some h) (Some m) (Some s) (Some f) a b c = in_order h m s f (a m refl) (b s refl) (c f refl) _ (omega arith)
by_parts (Some h) (Some m) (Some s) None a b c = refl
by_parts (Some h) (Some m) None w a b c = refl
by_parts (Some h) None z w a b c = refl
by_parts None y z w a b c = refl

ten_in_parts : (s : List ℕ) (at : ℕ) → number_at s at 10 ≡ joined 8 (number_at s at 2) (joined 6 (number_at s (at + 2) 2) (joined 4 (number_at s (at + 4) 2) (number_at s (at + 6) 4)))
unfolding number_at
ten_in_parts s at =
    let e : at + 4 ≡ at + 2 + 2 = omega arith in
    let g : at + 6 ≡ at + 2 + 2 + 2 = omega arith in
    rw (e, g, ← read_in_parts s (at + 2 + 2) 2 4 0, ← read_in_parts s (at + 2) 2 6 0) (read_in_parts s at 2 8 0)

pub part_below : (w : ℕ) (s : List ℕ) (p v : ℕ) → number_at s p w ≡ Some v → v < 10 ^ w
part_below w s p v e = (read_was_written w s p v e).small

-- `clock_at` reads a time
pub time_in_parts : (s : List ℕ) (at : ℕ) (x y z w : Option ℕ) → x ≡ number_at s at 2 → y ≡ number_at s (at + 2) 2 → z ≡ number_at s (at + 4) 2 → w ≡ number_at s (at + 6) 4
    → of_parts x y z w ≡ clock.got s at
time_in_parts s at x y z w a b c d =
    rw (a, b, c, d)
    (sym
    (ap (named ticks_of) (ten_in_parts s at)
    ∙ by_parts (number_at s at 2) (number_at s (at + 2) 2) (number_at s (at + 4) 2) (number_at s (at + 6) 4) (part_below 2 s (at + 2)) (part_below 2 s (at + 4)) (part_below 4 s (at + 6))))

pub time_no_room : (s : List ℕ) (at : ℕ) → length s < at + 10 → None ≡ clock.got s at
time_no_room s at h = ap (named ticks_of) (sym (no_room s at 10 (omega arith) (omega arith) h))

-- ---- a time stored part by part

two_digits : (n m : ℕ) → n % 100 ≡ m → digits 2 n ≡ digits 2 m
unfolding digits
two_digits n m e =
    let a : n / 10 % 10 ≡ m / 10 % 10 = omega arith in
    let b : n % 10 ≡ m % 10 = omega arith in
    rw (a, b)

four_digits : (n m : ℕ) → n % 10000 ≡ m → digits 4 n ≡ digits 4 m
unfolding digits
four_digits n m e =
    let a : n / 10 / 10 / 10 % 10 ≡ m / 10 / 10 / 10 % 10 = omega arith in
    let b : n / 10 / 10 % 10 ≡ m / 10 / 10 % 10 = omega arith in
    let c : n / 10 % 10 ≡ m / 10 % 10 = omega arith in
    let d : n % 10 ≡ m % 10 = omega arith in
    rw (a, b, c, d)

pub time_text : (v : ℕ) → clock.put v ≡ digits 2 (v / 36000000) ++ (digits 2 (v / 600000 % 60) ++ (digits 2 (v / 10000 % 60) ++ digits 4 (v % 10000)))
unfolding clock_number
time_text v =
    let n = clock_number v in
    let q = split_digits (v / 36000000) (v / 600000 % 60) (v / 10000 % 60) (v % 10000) (omega arith) (omega arith) (omega arith) n refl in
    written_in_parts 2 8 n
    ∙ rw (written_in_parts 2 6 n, written_in_parts 2 4 n, two_digits (n / 1000000) (v / 600000 % 60) q.1, two_digits (n / 10000) (v / 10000 % 60) q.2, four_digits n (v % 10000) q.3, q.0)

-- `put_parts` stores a time
pub stored_in_parts : (l : List ℕ) (at v : ℕ)
    → sets (sets (sets (sets l at (digits 2 (v / 36000000))) (at + 2) (digits 2 (v / 600000 % 60))) (at + 4) (digits 2 (v / 10000 % 60))) (at + 6) (digits 4 (v % 10000)) ≡ sets l at (clock.put v)
stored_in_parts l at v =
    let h = digits 2 (v / 36000000) in
    let m = digits 2 (v / 600000 % 60) in
    let s = digits 2 (v / 10000 % 60) in
    let f = digits 4 (v % 10000) in
    let e : at + 4 ≡ at + 2 + 2 = omega arith in
    let g : at + 6 ≡ at + 2 + 2 + 2 = omega arith in
    sym (rw (time_text v, sets_append l at h (m ++ (s ++ f)), length_digits 2 (v / 36000000), sets_append (sets l at h) (at + 2) m (s ++ f), length_digits 2 (v / 600000 % 60), sets_append (sets (sets l at h) (at + 2) m) (at + 2 + 2) s f, length_digits 2 (v / 10000 % 60), e, g))
