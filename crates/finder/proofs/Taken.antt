-- A frame that a reader accepts is found whole: its bytes between lead byte and CR are 20h to 7Eh. Assumes nothing.
use Prim.Native.Nat.{ℕ, zero, suc, ◌+◌, ◌/◌, ◌%◌, ◌≤◌}
use mathlib.Core.List.{List, [], ◌∷◌, ◌++◌, append-nil}
use mathlib.Core.Bool.{Bool, true, false≢true, ◌||◌}
use mathlib.Core.Path.{◌≡◌, refl, sym, ◌∙◌}
use native.Mathlib.Omega.{arith}
use lib.Dec.{T, leb, ltb, eqb, ltb→lt}
use lib.ListN.{length, get_or, drop, replicate, length-replicate, drop_of_length-le}
use borrow.Author.Tests.{leb-true, le-leb, eqb-true, ne_eqb}
use Rattle.digits.specs.Text.{one_of}
use Rattle.digits.specs.Told.{gives}
use Rattle.digits.specs.Digits.{digits}
use Rattle.digits.proofs.Tests.{and_true, and_l, and_r}
use Rattle.times.specs.Clock.{is_time}
use Rattle.times.specs.Net.{is_net}
use Rattle.frames.specs.declared.timing.TimingKind.{TimingKind}
use Rattle.frames.specs.declared.timing.TimingKind.TheVariants.{Clock as clock_kind, Net as net_kind, Raw as raw_kind}
use Rattle.frames.specs.declared.reply.StaticReply.{StaticReply}
use Rattle.frames.specs.Rules.{between, space, is_address, is_raw, is_requester, is_output}
use Rattle.frames.specs.Status.{is_status}
use Rattle.frames.specs.Shape.{number, bytes_of, all_from}
use Rattle.frames.specs.Classes.{Classes}
use Rattle.frames.specs.Field.{Field, letter, number_to, time_of_day}
use Rattle.frames.specs.Layout.{Layout, field, suits, end, record_wrong, write, within}
use Rattle.frames.specs.Kind.{Kind, CR, letter_r, read, wrong_in, frame_of, write_tried}
use Rattle.frames.specs.Faithful.{Faithful}
use Rattle.frames.specs.Timing.{are_raw, raw_bytes, is_sign, net_of, real_date, net_days, timed, timing_kind}
use Rattle.frames.specs.Request.{request, request_fields, is_information}
use Rattle.frames.specs.Reply.{reply, reply_fields, Whole as Whole-reply, is_letter, least_run, from_bib, tail_of, with_tail}
use Rattle.frames.specs.Dynamic.{dynamic, dynamic_fields, is_order}
use Rattle.frames.proofs.RuleLaws.{or_cases}
use Rattle.frames.proofs.HeadLaws.{tried_gives}
use Rattle.frames.proofs.LayoutLaws.{unless_none}
use Rattle.frames.proofs.RequestLaws.{request_faithful}
use Rattle.frames.proofs.ReplyLaws.{reply_faithful}
use Rattle.frames.proofs.DynamicLaws.{dynamic_faithful}
use Rattle.finder.specs.Leads.{is_lead}
use Rattle.finder.specs.Demands.{every, is_inner, is_open, FindsWhole, TakenAreFound}
use Rattle.finder.proofs.Demands.{found_whole}

-- ---- bytes 20h to 7Eh

every_both : (p : ℕ → Bool) (a b : List ℕ) → every p a ≡ true → every p b ≡ true → every p (a ++ b) ≡ true
every_both p [] b x y = y
every_both p (c ∷ a) b x y = and_true (and_l (p c) (every p a) x) (every_both p a b (and_r (p c) (every p a) x) y)

is_raw_law : (b : ℕ) → 32 ≤ b → b ≤ 126 → is_raw b ≡ true
unfolding is_raw between
is_raw_law b h k = and_true (le-leb 32 b h) (le-leb b 126 k)

digits_raw : (w n : ℕ) → every is_raw (digits w n) ≡ true
unfolding digits
digits_raw zero n = refl
digits_raw (suc w) n = every_both is_raw (digits w (n / 10)) ((48 + n % 10) ∷ []) (digits_raw w (n / 10)) (and_true (is_raw_law (48 + n % 10) (omega arith) (omega arith)) refl)

listed_raw : (l : List ℕ) → every is_raw l ≡ true → (b : ℕ) → one_of l b ≡ true → is_raw b ≡ true
unfolding one_of
listed_raw [] x b y = absurd (false≢true y)
listed_raw (c ∷ l) x b y =
    or_cases (eqb b c) (one_of l b) (is_raw b ≡ true)
    (λ e. rw (eqb-true b c e) (and_l (is_raw c) (every is_raw l) x))
    (λ e. listed_raw l (and_r (is_raw c) (every is_raw l) x) b e) y

range_raw : (lo hi : ℕ) → 32 ≤ lo → hi ≤ 126 → (b : ℕ) → between lo hi b ≡ true → is_raw b ≡ true
unfolding between
range_raw lo hi h k b e =
    let l = leb-true lo b (and_l (leb lo b) (leb b hi) e) in
    let m = leb-true b hi (and_r (leb lo b) (leb b hi) e) in
    is_raw_law b (omega arith) (omega arith)

-- n bytes that are all raw
run_raw : (l : List ℕ) (i n : ℕ) → all_from is_raw l i n ≡ true → every is_raw (bytes_of l i n) ≡ true
unfolding all_from
run_raw l i zero e = refl
run_raw l i (suc n) e = and_true (and_l (is_raw (get_or l i 0)) (all_from is_raw l (suc i) n) e) (run_raw l (suc i) n (and_r (is_raw (get_or l i 0)) (all_from is_raw l (suc i) n) e))

requester_raw : (b : ℕ) → is_requester b ≡ true → is_raw b ≡ true
unfolding is_requester
requester_raw b e =
    or_cases (between 48 57 b || between 65 90 b) (between 97 122 b) (is_raw b ≡ true)
    (λ x. or_cases (between 48 57 b) (between 65 90 b) (is_raw b ≡ true) (range_raw 48 57 (omega arith) (omega arith) b) (range_raw 65 90 (omega arith) (omega arith) b) x)
    (range_raw 97 122 (omega arith) (omega arith) b) e

-- ---- a layout whose fields are all written in such bytes

data Printed {R : Type 0} : Layout R → Type 1 where
  printed : {A : Type 0} {at : ℕ} {f : Field A} {part : R → A} {next : A → Layout R}
      → T (ltb 0 at) → ((v : A) → f.rule v ≡ true → every is_raw (f.shape.put v) ≡ true) → ((v : A) → f.rule v ≡ true → Printed (next v)) → Printed (field at f part next)
  printed_suits : {at : ℕ} {test : R → Bool} {rest : Layout R} → T (ltb 0 at) → Printed rest → Printed (suits at test rest)
  printed_end : {r : R} → Printed (end r)

write_raw : {R : Type 0} {L : Layout R} → Printed L → (r : R) → record_wrong L r ≡ 0 → every is_raw (write L r) ≡ true
unfolding record_wrong write
write_raw (printed {A} {at} {f} {part} {next} some shows rest) r e =
    let v = part r in
    let u = unless_none (f.rule v) at (record_wrong (next v) r) (ltb→lt 0 at some) e in
    every_both is_raw (f.shape.put v) (write (next v) r) (shows v u.0) (write_raw (rest v u.0) r u.1)
write_raw (printed_suits {at} {test} {rest} some prints) r e =
    write_raw prints r (unless_none (test r) at (record_wrong rest r) (ltb→lt 0 at some) e).1
write_raw printed_end r e = refl

within_printed : {Q R : Type 0} (of : R → Q) (whole : Q → R) {L : Layout Q} → Printed L → Printed (within of whole L)
within_printed of whole (printed some shows rest) = printed some shows λ v good. within_printed of whole (rest v good)
within_printed of whole (printed_suits some rest) = printed_suits some (within_printed of whole rest)
within_printed of whole printed_end = printed_end

-- ---- such fields, by what they are

module _ {R : Type 0} {at : ℕ} where
  module _ {rule : ℕ → Bool} {part : R → ℕ} {next : ℕ → Layout R} where
    letter_printed : T (ltb 0 at) → ((v : ℕ) → rule v ≡ true → is_raw v ≡ true) → ((v : ℕ) → rule v ≡ true → Printed (next v)) → Printed (field at (letter rule) part next)
    letter_printed some raw rest = printed some (λ v q. and_true (raw v q) refl) rest

    number_printed : {classes : Classes} (w : ℕ) → T (ltb 0 at) → ((v : ℕ) → rule v ≡ true → Printed (next v)) → Printed (field at (record { shape = number w; rule = rule; classes = classes }) part next)
    number_printed w some rest = printed some (λ v _. digits_raw w v) rest

  time_printed : {part : R → ℕ} {next : ℕ → Layout R} → T (ltb 0 at) → ((v : ℕ) → is_time v ≡ true → Printed (next v)) → Printed (field at time_of_day part next)
  time_printed some rest = printed some (λ v _. digits_raw 10 _) rest

  raw_printed : {part : R → List ℕ} {next : List ℕ → Layout R} (n : ℕ) → T (ltb 0 at) → ((v : List ℕ) → are_raw n v ≡ true → Printed (next v)) → Printed (field at (raw_bytes n) part next)
  raw_printed n some rest = printed some (λ v q. run_raw v 0 n q) rest

address_raw : (b : ℕ) → is_address b ≡ true → is_raw b ≡ true
unfolding is_address is_raw between
address_raw b e =
    or_cases (eqb b space) (between 48 57 b) (is_raw b ≡ true) (λ x. rw (eqb-true b space x)) (range_raw 48 57 (omega arith) (omega arith) b) e

request_printed : Printed request_fields
unfolding request_fields is_information is_output is_raw between
request_printed =
    letter_printed tt address_raw λ _ _.
    letter_printed tt requester_raw λ _ _.
    number_printed 3 tt λ _ _.
    number_printed 5 tt λ _ _.
    letter_printed tt (listed_raw _ refl) λ _ _.
    number_printed 3 tt λ _ _.
    number_printed 3 tt λ _ _.
    number_printed 3 tt λ _ _.
    letter_printed tt (listed_raw _ refl) λ _ _.
    printed_end

dynamic_printed : Printed dynamic_fields
unfolding dynamic_fields is_order is_output is_raw between
dynamic_printed =
    letter_printed tt address_raw λ _ _.
    letter_printed tt requester_raw λ _ _.
    letter_printed tt (listed_raw _ refl) λ _ _.
    number_printed 5 tt λ _ _.
    number_printed 3 tt λ _ _.
    number_printed 3 tt λ _ _.
    number_printed 5 tt λ _ _.
    number_printed 3 tt λ _ _.
    number_printed 3 tt λ _ _.
    number_printed 1 tt λ _ _.
    time_printed tt λ _ _.
    number_printed 1 tt λ _ _.
    number_printed 5 tt λ _ _.
    letter_printed tt (listed_raw _ refl) λ _ _.
    printed_end

timed_printed : (kind : TimingKind) → Printed (timed kind)
unfolding timed is_sign is_raw between
timed_printed clock_kind =
    printed_suits tt
    (time_printed tt λ _ _.
    printed {f = real_date} tt (λ (d : ℕ × (ℕ × ℕ)) _. every_both is_raw (digits 2 d.0) (digits 2 d.1.0 ++ digits 4 d.1.1) (digits_raw 2 d.0) (every_both is_raw (digits 2 d.1.0) (digits 4 d.1.1) (digits_raw 2 d.1.0) (digits_raw 4 d.1.1))) λ _ _.
    raw_printed 2 tt λ _ _.
    printed_suits tt printed_end)
timed_printed net_kind =
    printed_suits tt
    (time_printed tt λ ticks _.
    printed {f = net_days ticks} tt (λ (d : ℕ × ℕ) q. and_true (listed_raw _ refl d.0 (and_l (is_sign d.0) (is_net (net_of ticks d.0 d.1)) q)) (digits_raw 7 d.1)) λ _ _.
    raw_printed 2 tt λ _ _.
    printed_suits tt printed_end)
timed_printed raw_kind =
    printed_suits tt
    (raw_printed 10 tt λ _ _.
    raw_printed 8 tt λ _ _.
    raw_printed 2 tt λ _ _.
    printed_end)

tail_printed : (status : ℕ) → Printed (from_bib (least_run status) (number_to 3 999) is_letter (timing_kind status))
unfolding from_bib is_letter is_raw between
tail_printed status =
    number_printed 5 tt λ bib _.
    number_printed 3 tt λ group _.
    number_printed 3 tt λ run _.
    number_printed 3 tt λ physical _.
    number_printed 3 tt λ channel _.
    letter_printed tt (listed_raw _ refl) λ letter _.
    within_printed (λ t. t.times) (λ times. record { bib = bib; group = group; run = run; physical = physical; channel = channel; information = letter; times = times }) (timed_printed (timing_kind status letter))

reply_printed : Printed reply_fields
unfolding reply_fields is_status is_raw between
reply_printed =
    letter_printed tt address_raw λ address _.
    letter_printed tt (λ v q. q) λ program _.
    letter_printed tt (λ v q. q) λ mode _.
    letter_printed tt (listed_raw _ refl) λ status _.
    letter_printed tt requester_raw λ requester _.
    number_printed 5 tt λ n _.
    within_printed tail_of (with_tail address program mode status requester n) (tail_printed status)

-- ---- such a frame is found whole

raw_inner : (b : ℕ) → is_raw b ≡ true → is_inner b ≡ true
unfolding is_raw between is_inner is_lead one_of
raw_inner b e =
    let h = leb-true 32 b (and_l (leb 32 b) (leb b 126) e) in
    rw (ne_eqb b 17 (λ q. omega arith), ne_eqb b 18 (λ q. omega arith), ne_eqb b 19 (λ q. omega arith), ne_eqb b 13 (λ q. omega arith))

all_inner : (l : List ℕ) → every is_raw l ≡ true → every is_inner l ≡ true
all_inner [] e = refl
all_inner (b ∷ l) e = and_true (raw_inner b (and_l (is_raw b) (every is_raw l) e)) (all_inner l (and_r (is_raw b) (every is_raw l) e))

-- a frame's bytes between lead byte and CR
pub record Printable (lead : ℕ) (f : List ℕ) : Type 0 where
  pub inner : List ℕ
  pub is : f ≡ lead ∷ (inner ++ (CR ∷ []))
  pub raw : every is_raw inner ≡ true

module _ {R : Type 0} (k : Kind R) (Whole : R → Type 0) (faithful : Faithful k Whole) (prints : Printed k.fields) where
  -- a frame that is accepted is the one that its record writes
  taken_is : (f : List ℕ) (r : R) → read k f ≡ gives r → (wrong_in k r ≡ 0) × (frame_of k r ≡ f)
  unfolding write_tried
  taken_is f r e =
      let size : length {A = ℕ} (replicate k.size 0) ≡ k.size = length-replicate k.size 0 in
      let w = faithful.writes_again f r e (replicate k.size 0) (omega (arith, size)) in
      let fine = tried_gives (eqb (wrong_in k r) 0) _ _ tt w.0 in
      let least : length {A = ℕ} (replicate k.size 0) ≤ k.size = omega (arith, size) in
      let none : drop {A = ℕ} k.size (replicate k.size 0) ≡ [] = drop_of_length-le (replicate k.size 0) least in
      (eqb-true (wrong_in k r) 0 fine.0, sym (append-nil (frame_of k r)) ∙ (rw (w.0, none) at w.1) ∙ append-nil f)

  taken_printable : (f : List ℕ) (r : R) → read k f ≡ gives r → Printable k.lead f
  unfolding is_raw between wrong_in frame_of
  taken_printable f r e =
      let t = taken_is f r e in
      record { inner = letter_r ∷ write k.fields r; is = sym t.1; raw = write_raw prints r t.0 }

  finds_whole : is_lead k.lead ≡ true → FindsWhole k
  unfolding is_open
  finds_whole leads s f rest at r e d =
      let t = taken_printable f r e in
      rw t.is (found_whole s (k.lead ∷ t.inner) rest at (and_true leads (all_inner t.inner t.raw)) (rw t.is at d))

pub reply_printable : (f : List ℕ) (r : StaticReply) → read reply f ≡ gives r → Printable 18 f
reply_printable = taken_printable reply Whole-reply reply_faithful reply_printed

pub taken_are_found : TakenAreFound
unfolding is_lead one_of
taken_are_found = (
  finds_whole request (λ _. Unit {0}) request_faithful request_printed refl,
  (finds_whole reply Whole-reply reply_faithful reply_printed refl, finds_whole dynamic (λ _. Unit {0}) dynamic_faithful dynamic_printed refl),
)
