-- What is demanded of the tally holds. Assumes nothing.
use Prim.Native.Nat.{ℕ, zero, suc, ◌+◌, ◌<◌}
use mathlib.Core.List.{List, [], ◌∷◌}
use mathlib.Core.Bool.{true, false, cond, ◌&&◌}
use mathlib.Core.Logic.{◌↔◌}
use mathlib.Core.Path.{◌≡◌, refl, sym, ap, ◌∙◌}
use native.Mathlib.Omega.{arith}
use lib.ListN.{get_or}
use lib.Dec.{eqb}
use Rattle.digits.specs.Refusals.{plain}
use Rattle.digits.specs.Told.{gives, refuses}
use Rattle.digits.proofs.Sure.{not_refused}
use Rattle.digits.proofs.Tests.{and_l, and_r}
use Rattle.frames.specs.Reply.{is_letter}
use Rattle.frames.specs.Status.{is_status}
use Rattle.frames.proofs.HeadLaws.{tried_gives}
use Rattle.frames.proofs.LabelLaws.{lettered}
use Rattle.frames.proofs.LetterLaws.{letter_own, letter_in_law, status_own, status_in_law}
use Rattle.desk.specs.declared.key.Key.{Key}
use Rattle.desk.specs.Limits.{seat_count}
use Rattle.desk.specs.Hearing.{heard, has_key}
use Rattle.desk.specs.Rule.{Frame}
use Rattle.desk.specs.Memory.{Memory, cell_at, held_by}
use Rattle.desk.specs.Tally.{Table, entry_of, is_of, held_of, looks}
use Rattle.desk.specs.Desk.{is_desk}
use Rattle.desk.specs.Calls.{Outcome, opens, replies, emptied}
use Rattle.desk.specs.Events.{Event, to_open, to_reply, run}
use Rattle.desk.specs.Looks.{all_letters, all_statuses, is_listed, by_bytes, shows, among, by_seats, LooksAreRight}
use Rattle.desk.proofs.Below.{false_or, count_ext}
use Rattle.desk.proofs.HearingLaws.{heard_reply}
use Rattle.desk.proofs.TallyLaws.{reply_listed, right_entry, held_next, held_none, counted_entry}
use Rattle.desk.proofs.ReplayLaws.{Facts, desk_facts, marked, cell_keyed_law}
use Rattle.desk.proofs.ClauseLaws.{cell_byte, key_heard}
use Rattle.desk.proofs.SumLaws.{sum, spread}
use Rattle.desk.proofs.StepLaws.{by_reply, by_opening}
use Rattle.desk.proofs.DeskLaws.{emptied_desk, stays_desk}

-- ---- a look, by the spelled lists

refused : (t : Table) (letter status : ℕ) → (looks t letter status ≡ refuses (plain 17)) ↔ (is_listed letter status ≡ false)
unfolding looks is_letter is_status
refused t letter status = (
  λ e. false_or (is_listed letter status) (λ y. not_refused (entry_of t letter status) (plain 17) (rw y at e)),
  λ y. rw y,
)

given : (t : Table) (i j : ℕ) → i < 33 → j < 3 → looks t (get_or all_letters i 0) (get_or all_statuses j 0) ≡ gives (get_or (get_or t i []) j 0)
unfolding looks
given t i j k l = rw (letter_in_law i k, status_in_law j l, letter_own i k, status_own j l)

record Found (t : Table) (letter status n : ℕ) : Type 0 where
  letter_good : is_letter letter ≡ true
  status_good : is_status status ≡ true
  is : entry_of t letter status ≡ n

found : (t : Table) (letter status n : ℕ) → looks t letter status ≡ gives n → Found t letter status n
unfolding looks
found t letter status n e =
    let q = tried_gives (is_letter letter && is_status status) _ _ n e in
    let s = q.1 in
    record { letter_good = and_l (is_letter letter) (is_status status) q.0; status_good = and_r (is_letter letter) (is_status status) q.0; is = cc }

-- ---- on a desk

held_bytes : (cells : List ℕ) (letter status n : ℕ) → held_of cells n letter status ≡ by_bytes cells letter status n
unfolding by_bytes
held_bytes cells letter status zero = held_none cells letter status
held_bytes cells letter status (suc n) =
    rw (held_next cells n letter status, ← cell_byte cells n 29 (omega arith), ← cell_byte cells n 5 (omega arith), held_bytes cells letter status n)

counts : (m : Memory) (letter status n : ℕ) → Facts m → looks m.tally letter status ≡ gives n → held_of m.cells m.count letter status ≡ n
counts m letter status n d e =
    let f = found m.tally letter status n e in
    sym (right_entry m.cells m.count m.tally d.tally letter status f.letter_good f.status_good) ∙ f.is

-- what the record of a held cell shows are its bytes
cell_shows : (k : Key) (f : List ℕ) (letter status : ℕ) → has_key k (heard f) ≡ true → shows letter status f ≡ is_of letter status f
cell_shows k f letter status e =
    let h = key_heard k (heard f) e in
    let r = heard_reply f h.0 h.1 in
    let g = lettered f r.0 r.1.0 in
    rw (r.1.0, g.letter_is, g.status_is)

seats_sum : (m : Memory) (letter status n : ℕ) → by_seats m letter status n ≡ sum n (λ k. among (shows letter status) (held_by m k))
unfolding by_seats sum
seats_sum m letter status zero = refl
seats_sum m letter status (suc n) = ap (λ (x : ℕ). x + among (shows letter status) (held_by m n)) (seats_sum m letter status n)

by_seats_law : (m : Memory) (letter status : ℕ) → Facts m → by_seats m letter status seat_count ≡ held_of m.cells m.count letter status
unfolding held_of
by_seats_law m letter status d =
    seats_sum m letter status seat_count
    ∙ spread (shows letter status) m.cells m.marks m.count (marked m d)
    ∙ count_ext m.count _ _ (λ i l. cell_shows _ (cell_at m.cells i) letter status (cell_keyed_law m d i l))

at_seats : (m : Memory) (letter status n : ℕ) → is_desk m ≡ true → looks m.tally letter status ≡ gives n → n ≡ by_seats m letter status seat_count
at_seats m letter status n d e = sym (counts m letter status n (desk_facts m d) e) ∙ sym (by_seats_law m letter status (desk_facts m d))

-- ---- after calls

run_desk : (m : Memory) (es : List Event) → is_desk m ≡ true → is_desk (run m es) ≡ true
unfolding run
run_desk m [] d = d
run_desk m (to_open f ∷ es) d = run_desk (opens m f).after es (stays_desk.opening m f d)
run_desk m (to_reply f ∷ es) d = run_desk (replies m f).after es (stays_desk.reply m f d)

after_reset : (m : Memory) (letter status n : ℕ) → looks (emptied m).tally letter status ≡ gives n → n ≡ 0
after_reset m letter status n e = sym (counts (emptied m) letter status n (emptied_desk m) e) ∙ held_none m.cells letter status

after_reply : (m : Memory) (f : Frame) (s letter status n : ℕ) → (replies m f).answer ≡ gives s → looks m.tally letter status ≡ gives n
    → looks (replies m f).after.tally letter status ≡ gives (cond (eqb (get_or f 29 0) letter && eqb (get_or f 5 0) status) (n + 1) n)
unfolding looks
after_reply m f s letter status n a e =
    by_reply m f (λ (o : Outcome). o.answer ≡ gives s → looks o.after.tally letter status ≡ gives (cond (is_of letter status f) (n + 1) n))
    (λ t k h.
    let z = found m.tally letter status n e in
    let r = heard_reply f k.label k.hears in
    let c = counted_entry m.tally f letter status k.facts.tally.whole (reply_listed f r.0 r.1.0) z.letter_good z.status_good in
    rw (z.letter_good, z.status_good, c, z.is))
    (λ why h. absurd (not_refused s why (sym h))) a

after_opening : (m : Memory) (f : Frame) → (opens m f).after.tally ≡ m.tally
after_opening m f = by_opening m f (λ (o : Outcome). o.after.tally ≡ m.tally) (λ o k. refl) (λ why. refl)

pub looks_are_right : LooksAreRight
looks_are_right = record {
  refused = refused;
  given = given;
  on_desk = λ m letter status n d e. sym (counts m letter status n (desk_facts m d) e) ∙ held_bytes m.cells letter status m.count;
  at_seats = at_seats;
  after_events = λ m es letter status n d e. at_seats (run m es) letter status n (run_desk m es d) e;
  after_reset = after_reset;
  after_reply = after_reply;
  after_opening = after_opening;
}
