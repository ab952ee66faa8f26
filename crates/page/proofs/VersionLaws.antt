-- Version 1 is sound, and it can show every desk. Assumes nothing.
use Rattle.std.proofs.Common.{◌≡◌, ℕ, ◌+◌, ◌-◌, ◌^◌, ◌<◌, true, ◌&&◌, ltb, leb, [], ◌∷◌, length, sym, refl, ◌∙◌, arith, ltb-false, ltb-true, le-ltb, lt-ltb, ne_eqb, le-leb, leb-true, Some, None}
use borrow.Author.Tests.{lt-leb}
use Rattle.digits.specs.Digits.{is_digit}
use Rattle.digits.specs.Form.{byte}
use Rattle.digits.proofs.Tests.{by-test, and_true, and_l, and_r}
use Rattle.digits.proofs.Forms.{byte_lawful, renamed_lawful}
use Rattle.text.specs.Lines.{LF}
use Rattle.lines.specs.Lines.{every}
use Rattle.desk.specs.Memory.{Memory}
use Rattle.desk.specs.Desk.{is_desk}
use Rattle.desk.proofs.ReplayLaws.{desk_facts}
use Rattle.desk.proofs.ClauseLaws.{cap_room}
use Rattle.page.specs.Version.{seat_digit, digit_seat, one, within, Sound, showable, OneShowsAll}

-- ---- a seat is one digit

-- the digit of a seat that was read
digit_back : (b i : ℕ) → digit_seat b ≡ Some i → seat_digit i ≡ b
unfolding digit_seat seat_digit
digit_back b i e =
    by-test (is_digit b)
    (λ d.
    let l = leb-true 48 b (and_l (leb 48 b) (leb b 57) d) in
    let h = leb-true b 57 (and_r (leb 48 b) (leb b 57) d) in
    let q : Some (b - 48) ≡ Some i = rw d at e in
    let n : b - 48 ≡ i = cc in
    rw (lt-ltb i 10 (omega arith)) (omega arith))
    (λ d.
    by-test (leb 65 b && leb b 70)
    (λ t.
    let l = leb-true 65 b (and_l (leb 65 b) (leb b 70) t) in
    let q : Some (b - 55) ≡ Some i = rw (d, t) at e in
    let n : b - 55 ≡ i = cc in
    rw (le-ltb i 10 (omega arith)) (omega arith))
    (λ t.
    let q : None ≡ Some i = rw (d, t) at e in
    let z : ◌≡◌ {A = ℕ} 0 1 = cc in
    absurd (omega arith)))

-- the seat of a digit that was written
pub seat_back : (i : ℕ) → i < 16 → digit_seat (seat_digit i) ≡ Some i
unfolding digit_seat seat_digit
seat_back i l =
    by-test (ltb i 10)
    (λ t.
    let h = ltb-true i 10 t in
    let n : 48 + i - 48 ≡ i = omega arith in
    rw (t, le-leb 48 (48 + i) (omega arith), le-leb (48 + i) 57 (omega arith), n))
    (λ t.
    let h = ltb-false i 10 t in
    let n : 55 + i - 55 ≡ i = omega arith in
    rw (t, le-leb 48 (55 + i) (omega arith), lt-leb (55 + i) 57 (omega arith), le-leb 65 (55 + i) (omega arith), le-leb (55 + i) 70 (omega arith), n))

digit_inside : (i : ℕ) → every within (seat_digit i ∷ []) ≡ true
unfolding seat_digit
digit_inside i =
    by-test (ltb i 10)
    (λ t. rw (t, ne_eqb (48 + i) LF (λ e. omega arith)))
    (λ t. rw (t, ne_eqb (55 + i) LF (λ e. omega arith)))

one_sound : Sound one
one_sound = record {
  named = refl;
  some = omega arith;
  inverse = record { lawful = renamed_lawful byte digit_seat seat_digit digit_back byte_lawful; back = λ i l. seat_back i (ltb-true i 16 l) };
  inside = λ i l. digit_inside i;
  seats = omega arith;
  cells = omega arith;
}

-- ---- a desk has no more seats and cells than version 1 can show

shows_all : (m : Memory) → showable one m ≡ is_desk m
unfolding showable
shows_all m =
    by-test (is_desk m)
    (λ d.
    let f = desk_facts m d in
    let r = cap_room (length m.cells) (length m.marks) m.count f.fits in
    and_true (and_true d (lt-ltb m.bits (2 ^ 16) f.bits)) (le-leb m.count 256 r.0) ∙ sym d)
    (λ d. rw d)

pub one_shows_all : OneShowsAll
one_shows_all = record { sound = one_sound; all = shows_all }
