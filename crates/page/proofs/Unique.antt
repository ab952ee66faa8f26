-- Only one outcome meets the promise of each call. Assumes nothing.
use Rattle.std.proofs.Common.{◌≡◌, ℕ, ◌*◌, cond, eqb, List, ◌++◌, drop, sym, refl, ap, ◌∙◌, Result, Ok, Err}
use mathlib.Core.Bool.{false≢true}
use Rattle.digits.specs.Told.{Told, gives, refuses}
use Rattle.digits.specs.Refusals.{ROOM, PAGE}
use Rattle.lines.specs.Demands.{SomePage}
use Rattle.lines.proofs.ReadLaws.{first_line_is_one}
use Rattle.desk.specs.Limits.{cell_size}
use Rattle.desk.specs.Memory.{Memory}
use Rattle.page.specs.declared.write.WriteRefusal.{WriteRefusal}
use Rattle.page.specs.declared.write.WriteRefusal.TheVariants.{Desk, Room}
use Rattle.page.specs.declared.read.ReadRefusal.{ReadRefusal}
use Rattle.page.specs.declared.read.ReadRefusal.TheVariants.{Page as NotPage, Room as NoRoom}
use Rattle.page.specs.Version.{Version, one, showable}
use Rattle.page.specs.Page.{page}
use Rattle.page.specs.Writing.{write_told}
use Rattle.page.specs.Reading.{has_room, restored, Writes, PageChecked, a_page, no_page, read_told, PageRead, not_read, no_room, read}
use Rattle.page.specs.Demands.{SameBelow}
use Rattle.page.proofs.VersionLaws.{one_shows_all}
use Rattle.page.proofs.TellLaws.{pages_tell}
use Rattle.page.specs.Unique.{OneOutcome}

abbrev write_back : Told ℕ → Result ℕ WriteRefusal
write_back (gives n) = Ok n
write_back (refuses f) = Err (cond (eqb f.number ROOM.number) Room Desk)

write_back_law : (a : Result ℕ WriteRefusal) → write_back (write_told a) ≡ a
write_back_law (Ok n) = refl
write_back_law (Err Desk) = refl
write_back_law (Err Room) = refl

-- ---- a text is a page or not, and a page shows one desk

module _ {v : Version} {text : List ℕ} where
  some_page : {d : Memory} → Writes v d text → SomePage (showable v) (page v) text
  some_page {d} w = (d, w.desk, w.its_page)

check_once : (text : List ℕ) (a b : Result (Unit {0}) ℕ) → PageChecked one text a → PageChecked one text b → a ≡ b
check_once text _ _ (a_page d w) (a_page e x) = refl
check_once text _ _ (a_page d w) (no_page n none line) = absurd (none (some_page w))
check_once text _ _ (no_page n none line) (a_page d w) = absurd (none (some_page w))
check_once text _ _ (no_page n none line) (no_page k other that) = ap Err (first_line_is_one (showable one) (page one) text n k line that)

-- ---- reading, by what the answer means

module _ (m : Memory) (text : List ℕ) where
  same_desk : (d e : Memory) → Writes one d text → Writes one e text → SameBelow d e
  same_desk d e w x = (pages_tell one one_shows_all.sound).one_desk d e w.desk x.desk (w.its_page ∙ sym x.its_page)

  same_room : (d e : Memory) → SameBelow d e → has_room m d ≡ has_room m e
  unfolding has_room
  same_room d e s = rw s.count

  same_restored : (d e : Memory) → SameBelow d e → restored m d ≡ restored m e
  same_restored d e s =
      λ i. record {
        row = s.row i;
        bits = s.bits i;
        count = s.count i;
        cells = s.cells i ++ drop (s.count i * cell_size) m.cells;
        marks = s.marks i ++ drop (s.count i) m.marks;
        tally = s.tally i;
      }

  read_once : (a b : Told (Unit {0})) (x y : Memory) → PageRead one m text a x → PageRead one m text b y → (a ≡ b) × (x ≡ y)
  read_once _ _ _ _ (not_read n none line) (not_read k other that) = (ap (λ (x : ℕ). refuses (PAGE x)) (first_line_is_one (showable one) (page one) text n k line that), refl)
  read_once _ _ _ _ (not_read n none line) (no_room d w h) = absurd (none (some_page w))
  read_once _ _ _ _ (not_read n none line) (read d w h) = absurd (none (some_page w))
  read_once _ _ _ _ (no_room d w h) (not_read n none line) = absurd (none (some_page w))
  read_once _ _ _ _ (no_room d w h) (no_room e x k) = (refl, refl)
  read_once _ _ _ _ (no_room d w h) (read e x k) = absurd (false≢true (sym h ∙ same_room d e (same_desk d e w x) ∙ k))
  read_once _ _ _ _ (read d w h) (not_read n none line) = absurd (none (some_page w))
  read_once _ _ _ _ (read d w h) (no_room e x k) = absurd (false≢true (sym k ∙ same_room e d (same_desk e d x w) ∙ h))
  read_once _ _ _ _ (read d w h) (read e x k) = (refl, same_restored d e (same_desk d e w x))

-- the answer is known by what it means
abbrev read_back : Told (Unit {0}) → Result (Unit {0}) ReadRefusal
read_back (gives u) = Ok u
read_back (refuses f) = Err (cond (eqb f.number ROOM.number) NoRoom (NotPage f.offset))

read_back_law : (a : Result (Unit {0}) ReadRefusal) → read_back (read_told a) ≡ a
read_back_law (Ok u) = refl
read_back_law (Err (NotPage n)) = refl
read_back_law (Err NoRoom) = refl

pub one_outcome : OneOutcome
one_outcome = record {
  write_page = λ m out o p d e.
      let a = sym (write_back_law o.0) ∙ ap write_back (d.told ∙ sym e.told) ∙ write_back_law p.0 in
      let b = d.bytes ∙ sym e.bytes in
      λ i. (a i, b i);
  check_page = check_once;
  read_page = λ m text o p d e.
      let q = read_once m text (read_told o.0) (read_told p.0) o.1 p.1 d e in
      let a = sym (read_back_law o.0) ∙ ap read_back q.0 ∙ read_back_law p.0 in
      let b = q.1 in
      λ i. (a i, b i);
}
