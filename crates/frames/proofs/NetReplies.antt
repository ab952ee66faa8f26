-- Reading and writing follow the writings of net times. Assumes nothing.
use Prim.Native.Nat.{ℕ, ◌+◌, ◌%◌, ◌≤◌}
use mathlib.Core.List.{List, [], ◌∷◌, ◌++◌, append_assoc}
use mathlib.Core.Bool.{Bool, true, false, true≢false, cond, ◌||◌}
use mathlib.Core.Path.{◌≡◌, refl, sym, ap, ap₂, subst, ◌∙◌}
use native.Mathlib.Omega.{arith}
use lib.Dec.{eqb}
use lib.IntN.{ℤ, nat_abs}
use lib.ListN.{length, get_or, set, take, drop, replicate, length-append}
use lib.Seq.{sets, sets-eq, slice, take_at, drop_at}
use borrow.Author.Tests.{eqb-true, le-leb}
use Rattle.digits.specs.Text.{codes, one_of}
use Rattle.digits.specs.Digits.{digits}
use Rattle.digits.specs.Told.{gives}
use Rattle.times.specs.Clock.{a_day, last_tick, is_time}
use Rattle.times.specs.Day.{real_day}
use Rattle.times.specs.Net.{is_below}
use Rattle.times.proofs.NetLaws.{net_range}
use Rattle.frames.specs.declared.timing.TimingKind.{TimingKind}
use Rattle.frames.specs.declared.timing.TimingKind.TheVariants.{Clock as clock_kind, Net as the_net_kind, Raw as raw_kind}
use Rattle.frames.specs.declared.timing.Timing.{Timing}
use Rattle.frames.specs.declared.timing.Timing.TheVariants.{Clock, Net, Raw}
use Rattle.frames.specs.declared.reply.StaticReply.{StaticReply}
use Rattle.frames.specs.Rules.{is_address}
use Rattle.frames.specs.Status.{is_status, is_z}
use Rattle.frames.specs.Shape.{bytes_of, all_from}
use Rattle.frames.specs.Layout.{wrong_unless}
use Rattle.frames.specs.Kind.{CR, read, wrong_in, frame_of}
use Rattle.frames.specs.Timing.{timing_kind, is_of, are_raw, is_sign, sign_of}
use Rattle.frames.specs.Reply.{is_letter, reply, Whole, tail_of}
use Rattle.frames.specs.NetTimes.{Writing, text_of, value_of, is_writing, is_value, is_net_status, is_net_letter, net_by}
use Rattle.frames.specs.inside.Timing.{clock_wrong, net_wrong, net_value_wrong, timing_wrong, timing_text, net_text}
use Rattle.frames.specs.inside.Reply.{head_text, reply_text}
use Rattle.frames.proofs.RuleLaws.{or_cases}
use Rattle.frames.proofs.LayoutLaws.{unless_none}
use Rattle.frames.proofs.KindLaws.{Own, frame_back, frame_again}
use Rattle.frames.proofs.TimingLaws.{sign_back, kind_fits}
use Rattle.frames.proofs.ReplyLaws.{reply_sound, kind_in, reply_wrong_is, lettered, HeadFine, head_fine, times_fine, text_is_frame, length_timing, length_head}
use Rattle.frames.proofs.NetWritings.{writing_of, writing_text, value_of_writing, writing_good, writing_again, writing_value}

-- ---- 18 bytes after the first 30

module _ (h t z : List ℕ) (a : length h ≡ 30) (b : length t ≡ 18) where
  both_long : length (h ++ t) ≡ 48
  both_long = length-append h t ∙ ap₂ (λ (m n : ℕ). m + n) a b

  pub cut_out : slice 30 48 (h ++ (t ++ z)) ≡ t
  cut_out = ap (λ (l : List ℕ). drop 30 (take 48 l)) (sym (append_assoc h t z)) ∙ ap (drop 30) (take_at (h ++ t) z 48 both_long) ∙ drop_at h t 30 a

  pub left_over_case : drop 48 (h ++ (t ++ z)) ≡ z
  left_over_case = ap (drop 48) (sym (append_assoc h t z)) ∙ drop_at (h ++ t) z 48 both_long

  replaced : (t' : List ℕ) → length t' ≡ 18 → sets (h ++ (t ++ z)) 30 t' ≡ h ++ (t' ++ z)
  replaced t' c =
      let long : 30 + length t' ≤ length (h ++ (t ++ z)) = omega (arith, length-append h (t ++ z), length-append t z) in
      let first : take 30 (h ++ (t ++ z)) ≡ h = take_at h (t ++ z) 30 a in
      sets-eq t' (h ++ (t ++ z)) 30 long ∙ rw (c, first, left_over_case) (append_assoc h t' z)

-- ---- which replies are net

net_letter : (status letter : ℕ) → timing_kind status letter ≡ the_net_kind → (is_z status ≡ false) × (is_net_letter letter ≡ true)
unfolding timing_kind is_net_letter
net_letter status letter = go (is_z status) (one_of (codes "0KSsa") letter) (one_of (codes "123") letter)
  where
    go : (z clock net : Bool) → cond z raw_kind (cond clock clock_kind (cond net the_net_kind raw_kind)) ≡ the_net_kind → (z ≡ false) × (net ≡ true)
    go false false true e = (refl, refl)
    go true clock net e = absurd (let x : ◌≡◌ {A = ℕ} 0 1 = cc in omega arith)
    go false true net e = absurd (let x : ◌≡◌ {A = ℕ} 0 1 = cc in omega arith)
    go false false false e = absurd (let x : ◌≡◌ {A = ℕ} 0 1 = cc in omega arith)

-- the letter of a net reply is one of a reply, and none of the clock
no_clock : (letter : ℕ) → is_net_letter letter ≡ true → (is_letter letter ≡ true) × (one_of (codes "0KSsa") letter ≡ false)
unfolding is_net_letter is_letter one_of
no_clock letter =
    or_cases (eqb letter 49) _ _ (λ e. rw (eqb-true letter 49 e) (refl, refl))
    (or_cases (eqb letter 50) _ _ (λ e. rw (eqb-true letter 50 e) (refl, refl))
    (or_cases (eqb letter 51) _ _ (λ e. rw (eqb-true letter 51 e) (refl, refl)) (λ e. absurd (true≢false (sym e)))))

not_Z : (status : ℕ) → is_net_status status ≡ true → is_z status ≡ false
unfolding is_net_status one_of
not_Z status =
    or_cases (eqb status 82) _ _ (λ e. rw (eqb-true status 82 e))
    (or_cases (eqb status 69) _ _ (λ e. rw (eqb-true status 69 e)) (λ e. absurd (true≢false (sym e))))

net_kind : (status letter : ℕ) → is_net_status status ≡ true → is_net_letter letter ≡ true → timing_kind status letter ≡ the_net_kind
unfolding timing_kind is_net_letter
net_kind status letter e f = rw (not_Z status e, (no_clock letter f).1, f)

r_or_e : (status : ℕ) → is_status status ≡ true → is_z status ≡ false → is_net_status status ≡ true
unfolding is_net_status is_status one_of
r_or_e status e f = go (eqb status 82) (eqb status 69) (eqb status 90) e f
  where
    go : (r e z : Bool) → (r || (e || (z || false))) ≡ true → z ≡ false → (r || (e || false)) ≡ true
    go true e z p q = refl
    go false true z p q = refl
    go false false true p q = absurd (true≢false q)
    go false false false p q = p

net_timing_law : (t : Timing) → is_of the_net_kind t ≡ true → (v : ℤ) × (t ≡ Net v)
net_timing_law (Net v) e = (v, refl)
net_timing_law (Clock ticks day month year) e = absurd (true≢false (sym e))
net_timing_law Raw e = absurd (true≢false (sym e))

kind_of_net : (kind : TimingKind) (t : Timing) (v : ℤ) → t ≡ Net v → is_of kind t ≡ true → kind ≡ the_net_kind
kind_of_net the_net_kind t v n e = refl
kind_of_net clock_kind t v n e = absurd (true≢false (sym (rw n at e)))
kind_of_net raw_kind t v n e = absurd (true≢false (sym (rw n at e)))

-- ---- a net value in a record

value_judged : (v : ℤ) (rest : ℕ) → net_value_wrong v rest ≡ cond (is_value v) rest 40
unfolding net_value_wrong net_wrong is_sign one_of
value_judged v rest =
    let time = le-leb (nat_abs v % a_day) last_tick (omega arith) in
    rw (time, sign_again (is_below v), sign_back (is_below v)) (ap (λ (b : Bool). wrong_unless b 40 rest) (net_range v) ∙ either (is_value v))
  where
    sign_again : (b : Bool) → is_sign (sign_of b) ≡ true
    sign_again true = refl
    sign_again false = refl

    either : (b : Bool) → wrong_unless b 40 rest ≡ cond b rest 40
    either true = refl
    either false = refl

value_fine : (v : ℤ) (rest : ℕ) → net_value_wrong v rest ≡ 0 → (is_value v ≡ true) × (rest ≡ 0)
value_fine v rest e = either (is_value v) (sym (value_judged v rest) ∙ e)
  where
    either : (b : Bool) → cond b rest 40 ≡ 0 → (b ≡ true) × (rest ≡ 0)
    either true e = (refl, e)
    either false e = absurd (omega arith)

-- the spare bytes of a record whose time and date are not wrong
spare_raw : (kind : TimingKind) (t : Timing) (rt rd sp : List ℕ) → timing_wrong kind t rt rd sp ≡ 0 → are_raw 2 sp ≡ true
unfolding clock_wrong
spare_raw clock_kind (Clock ticks day month year) rt rd sp e =
    let time = unless_none (is_time ticks) 30 _ (omega arith) e in
    let date = unless_none (real_day day month year) 40 _ (omega arith) time.1 in
    (unless_none (are_raw 2 sp) 48 _ (omega arith) date.1).0
spare_raw the_net_kind (Net v) rt rd sp e = (unless_none (are_raw 2 sp) 48 _ (omega arith) (value_fine v _ e).1).0
spare_raw raw_kind Raw rt rd sp e =
    let time = unless_none (are_raw 10 rt) 30 _ (omega arith) e in
    let date = unless_none (are_raw 8 rd) 40 _ (omega arith) time.1 in
    (unless_none (are_raw 2 sp) 48 _ (omega arith) date.1).0
spare_raw clock_kind (Net v) rt rd sp e = absurd (omega arith)
spare_raw clock_kind Raw rt rd sp e = absurd (omega arith)
spare_raw the_net_kind (Clock ticks day month year) rt rd sp e = absurd (omega arith)
spare_raw the_net_kind Raw rt rd sp e = absurd (omega arith)
spare_raw raw_kind (Clock ticks day month year) rt rd sp e = absurd (omega arith)
spare_raw raw_kind (Net v) rt rd sp e = absurd (omega arith)

-- ---- the frame of a well formed reply

-- its time and date, and the bytes after them
abbrev times_of : StaticReply → List ℕ
times_of r = timing_text r.timing r.raw_time r.raw_date

abbrev pub after : StaticReply → List ℕ
after r = bytes_of r.spare 0 2 ++ (CR ∷ [])

length_times : (r : StaticReply) → length (times_of r) ≡ 18
length_times r = length_timing r.timing r.raw_time r.raw_date

module _ (r : StaticReply) (fine : wrong_in reply r ≡ 0) where
  frame_is : frame_of reply r ≡ head_text r.head ++ (times_of r ++ after r)
  unfolding reply_text
  frame_is = sym (text_is_frame r fine)

  pub at_status : get_or (frame_of reply r) 5 0 ≡ r.head.status
  at_status = ap (λ (l : List ℕ). get_or l 5 0) frame_is

  pub at_letter : get_or (frame_of reply r) 29 0 ≡ r.head.information
  unfolding digits
  at_letter = ap (λ (l : List ℕ). get_or l 29 0) frame_is

  shown_at_30 : slice 30 48 (frame_of reply r) ≡ times_of r
  shown_at_30 = ap (slice 30 48) frame_is ∙ cut_out (head_text r.head) (times_of r) (after r) (length_head r.head) (length_times r)

  -- with another letter, and any 18 bytes in place of time and date
  pub other_bytes : (letter : ℕ) (t : List ℕ) → length t ≡ 18 → sets (frame_of reply r) 29 (letter ∷ t) ≡ head_text (lettered r.head letter) ++ (t ++ after r)
  unfolding digits
  other_bytes letter t h =
      ap (λ (l : List ℕ). sets (set l 29 letter) 30 t) frame_is
      ∙ replaced (head_text (lettered r.head letter)) (times_of r) (after r) (length_head (lettered r.head letter)) (length_times r) t h

  -- the parts before time and date are not wrong, and neither is the rest
  address_fine : is_address r.head.address ≡ true
  address_fine = (unless_none (is_address r.head.address) 2 _ (omega arith) (reply_wrong_is r ∙ fine)).0

  parts_fine : HeadFine r.head (timing_wrong (kind_in r) r.timing r.raw_time r.raw_date r.spare)
  parts_fine = head_fine r.head _ (unless_none (is_address r.head.address) 2 _ (omega arith) (reply_wrong_is r ∙ fine)).1

  fits : is_of (kind_in r) r.timing ≡ true
  fits = kind_fits (kind_in r) (tail_of r).times (times_fine r fine)

  -- a net value in it has a writing, which the frame shows
  value_is : kind_in r ≡ the_net_kind → (v : ℤ) → r.timing ≡ Net v → is_value v ≡ true
  value_is kind v is =
      (value_fine v _ (sym (ap₂ (λ (k : TimingKind) (t : Timing). timing_wrong k t r.raw_time r.raw_date r.spare) kind is) ∙ parts_fine.none)).0

  value_shown : (v : ℤ) → r.timing ≡ Net v → slice 30 48 (frame_of reply r) ≡ text_of (writing_of v)
  value_shown v is = shown_at_30 ∙ ap (λ (t : Timing). timing_text t r.raw_time r.raw_date) is ∙ writing_text v

  -- a record with a net value says so
  pub net_bytes : (v : ℤ) → r.timing ≡ Net v → (is_net_status (get_or (frame_of reply r) 5 0) ≡ true) × (is_net_letter (get_or (frame_of reply r) 29 0) ≡ true)
  net_bytes v is =
      let kind = net_letter r.head.status r.head.information (kind_of_net (kind_in r) r.timing v is fits) in
      (ap is_net_status at_status ∙ r_or_e r.head.status parts_fine.status kind.0, ap is_net_letter at_letter ∙ kind.1)

-- ---- a reply made net

module _ (r : StaticReply) (fine : wrong_in reply r ≡ 0) (net : is_net_status r.head.status ≡ true) (letter : ℕ) (of-net : is_net_letter letter ≡ true) where
  pub made_judged : (v : ℤ) → wrong_in reply (net_by r letter v) ≡ cond (is_value v) 0 40
  unfolding all_from
  made_judged v =
      let spare = spare_raw (kind_in r) r.timing r.raw_time r.raw_date r.spare (parts_fine r fine).none in
      let kind = net_kind r.head.status letter net of-net in
      let e : timing_wrong (timing_kind r.head.status letter) (Net v) (replicate 10 0) (replicate 8 0) r.spare ≡ cond (is_value v) 0 40 =
      ap (λ (k : TimingKind). timing_wrong k (Net v) (replicate 10 0) (replicate 8 0) r.spare) kind ∙ value_judged v _ ∙ ap (λ (b : Bool). cond (is_value v) (wrong_unless b 48 0) 40) spare in
      sym (reply_wrong_is (net_by r letter v)) ∙ rw (address_fine r fine) ((parts_fine r fine).passes letter (no_clock letter of-net).0 _ ∙ e)

  made_fine : (v : ℤ) → is_value v ≡ true → wrong_in reply (net_by r letter v) ≡ 0
  made_fine v e = made_judged v ∙ rw e

  made_frame : (w : Writing) → is_writing w ≡ true → frame_of reply (net_by r letter (value_of w)) ≡ sets (frame_of reply r) 29 (letter ∷ text_of w)
  made_frame w e =
      let v = value_of w in
      let own : net_text v ≡ text_of w = writing_text v ∙ ap text_of (writing_again w e) in
      frame_is (net_by r letter v) (made_fine v (writing_value w e))
      ∙ rw own (sym (other_bytes r fine letter (text_of w) (ap length (sym own) ∙ length_timing (Net v) [] [])))

  pub made_read : (w : Writing) → is_writing w ≡ true → Whole r → read reply (sets (frame_of reply r) 29 (letter ∷ text_of w)) ≡ gives (net_by r letter (value_of w))
  made_read w e whole =
      ap (read reply) (sym (made_frame w e))
      ∙ frame_back reply_sound (net_by r letter (value_of w)) (record { time = refl; date = refl; spare = whole.spare }) (made_fine (value_of w) (writing_value w e))

-- ---- reading

module _ (s : List ℕ) (r : StaticReply) (e : read reply s ≡ gives r) (net : is_net_status (get_or s 5 0) ≡ true) where
  pub own : Own reply_sound s r
  own = frame_again reply_sound s r e

  byte : (i : ℕ) → get_or (frame_of reply r) i 0 ≡ get_or s i 0
  byte i = ap (λ (l : List ℕ). get_or l i 0) own.bytes

  pub own_status : is_net_status r.head.status ≡ true
  own_status = ap is_net_status (sym (at_status r own.fine) ∙ byte 5) ∙ net

  pub reads_writing : is_net_letter (get_or s 29 0) ≡ true → (w : Writing) × ((is_writing w ≡ true) × ((slice 30 48 s ≡ text_of w) × (r.timing ≡ Net (value_of w))))
  reads_writing of-net =
      let letter = ap is_net_letter (sym (at_letter r own.fine) ∙ byte 29) ∙ of-net in
      let kind = net_kind r.head.status r.head.information own_status letter in
      let t = net_timing_law r.timing (subst (λ (k : TimingKind). is_of k r.timing ≡ true) kind (fits r own.fine)) in
      let v = t.0 in
      (writing_of v, (writing_good v (value_is r own.fine kind v t.1), (ap (slice 30 48) (sym own.bytes) ∙ value_shown r own.fine v t.1, t.1 ∙ ap Net (sym (value_of_writing v)))))

  pub takes_writing : (letter : ℕ) → is_net_letter letter ≡ true → (w : Writing) → is_writing w ≡ true → read reply (sets s 29 (letter ∷ text_of w)) ≡ gives (net_by r letter (value_of w))
  takes_writing letter of-net w g =
      ap (λ (l : List ℕ). read reply (sets l 29 (letter ∷ text_of w))) (sym own.bytes) ∙ made_read r own.fine own_status letter of-net w g own.has
