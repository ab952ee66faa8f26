-- The static reply: its layout is sound, and what the code's steps compute. Assumes nothing.
use Prim.Native.Nat.{ℕ, ◌≤◌}
use mathlib.Core.List.{List, [], ◌∷◌, ◌++◌, append_assoc}
use mathlib.Core.Bool.{Bool, true, false, cond, ◌||◌}
use mathlib.Core.Path.{◌≡◌, refl, sym, ap, ◌∙◌}
use native.Mathlib.Omega.{arith}
use lib.Dec.{eqb}
use lib.ListN.{length, get_or, set, length-append}
use lib.Seq.{sets}
use Rattle.digits.specs.Text.{one_of}
use Rattle.digits.specs.Digits.{digits, number_at}
use Rattle.digits.specs.declared.refusal.Refusal.{Refusal}
use Rattle.digits.specs.Refusals.{FIELD}
use Rattle.digits.specs.Told.{gives, refuses, tried}
use Rattle.digits.proofs.Writing.{sets_append, length_digits}
use Rattle.frames.specs.declared.refusals.ReadRefusal.{ReadRefusal}
use Rattle.std.specs.Prelude.{Result, Ok, Err, IsErrAnd}
use Rattle.frames.specs.declared.timing.TimingKind.{TimingKind}
use Rattle.frames.specs.declared.timing.Timing.{Timing}
use Rattle.frames.specs.declared.timing.Timing.TheVariants.{Clock, Net, Raw}
use Rattle.frames.specs.declared.reply.ReplyHead.{ReplyHead}
use Rattle.frames.specs.declared.reply.StaticReply.{StaticReply}
use Rattle.frames.specs.declared.reply.ReplyLabel.{ReplyLabel}
use Rattle.frames.specs.Refusals.{read_refused, read_told}
use Rattle.frames.specs.Rules.{between, up_to, is_address, is_raw, is_requester}
use Rattle.frames.specs.Status.{is_status, is_z}
use Rattle.frames.specs.Shape.{bytes_of}
use Rattle.frames.specs.Classes.{digit_from}
use Rattle.frames.specs.Field.{number_to}
use Rattle.frames.specs.Layout.{wrong_unless, record_wrong, write, within}
use Rattle.frames.specs.Kind.{letter_r, CR, head_told, read, wrong_in, frame_of}
use Rattle.frames.specs.Faithful.{Faithful}
use Rattle.frames.specs.Timing.{timing_kind, timed}
use Rattle.frames.specs.Reply.{is_letter, is_reply_channel, least_run, Tail, from_bib, tail_of, with_tail, reply_fields, reply, Whole, label_of, labelled}
use Rattle.frames.specs.inside.Held.{or_none}
use Rattle.frames.specs.inside.Timing.{timing_wrong, timing_text}
use Rattle.frames.specs.inside.Reply.{head_wrong, kind_at, seen_in, reply_at, wrong_at, spoiled_byte, head_text, reply_text}
use Rattle.frames.specs.inside.Spoiled.{in_class, looked_in, head_byte, reply_byte}
use Rattle.frames.proofs.RuleLaws.{up_to_law, in_range_law, none_in_range, or_one, to_240}
use Rattle.frames.proofs.ShapeLaws.{all_bytes}
use Rattle.frames.proofs.LayoutLaws.{unless_none, Sound, letter_sound, number_sound, within_wrong, within_write, within_sound, Sees, sees_within}
use Rattle.frames.proofs.ShownLaws.{number_shows, to_shows, from_one, least, least_positive}
use Rattle.frames.proofs.SeesLaws.{sees_letter, sees_number}
use Rattle.frames.proofs.KindLaws as K
use Rattle.frames.proofs.KindLaws.{SoundKind, faithful, length_frame, sees_address}
use Rattle.frames.proofs.TimingLaws.{WholeTimes, timed_sound, timing_wrong_is, kind_fits, sees_timed, timing_passed, timing_text_law}

-- ---- the layout is sound

channel_bound : (v : ℕ) → is_reply_channel v ≡ true → v ≤ 255
unfolding is_reply_channel
channel_bound v = or_one v _ 255 tt (or_one v _ 255 tt (or_one v _ 255 tt (or_one v _ 255 tt (or_one v _ 255 tt (to_240 v)))))

abbrev WholeTail : Tail → Type 0
WholeTail t = WholeTimes t.times

-- from the bib on, for any least run, letters and kind of time for each letter
tail_sound : (lowest : ℕ) → lowest ≤ 1 → (letters : ℕ → Bool) (some : ℕ) → letters some ≡ true → (kind : ℕ → TimingKind)
    → Sound WholeTail (from_bib lowest (number_to 3 999) letters kind) (λ _. Unit {0}) (Unit {0}) 38
unfolding from_bib is_reply_channel between up_to digit_from digits
tail_sound lowest h letters some good kind =
    number_sound 5 59999 tt (up_to_law _) (to_shows 4 5 59999 refl) λ bib _.
    number_sound 3 199 tt (up_to_law _) (to_shows 2 1 199 refl) λ group _.
    number_sound 3 250 tt (in_range_law lowest 250) (number_shows 2 2 250 (between 1 250) (least_positive 2) (in_range_law lowest 250) (from_one lowest 250 h) refl) λ run _.
    number_sound 3 999 tt (up_to_law _) (to_shows 2 9 999 refl) λ physical _.
    number_sound 3 255 tt channel_bound (number_shows 2 2 255 is_reply_channel (least 2) channel_bound (λ v q. q) refl) λ channel _.
    letter_sound some good tt λ letter _.
    within_sound (λ t. t.times) (λ times. record { bib = bib; group = group; run = run; physical = physical; channel = channel; information = letter; times = times })
    WholeTimes WholeTail (λ q. refl) (λ r w. w) (λ q w. w) (timed_sound (kind letter)) _ _ (λ _. tt) (λ r o. tt) (λ q k. ((((((tt, refl), refl), refl), refl), refl), refl))
    (λ r o i. record {
      bib = sym o.0.0.0.0.0.1 i;
      group = sym o.0.0.0.0.1 i;
      run = sym o.0.0.0.1 i;
      physical = sym o.0.0.1 i;
      channel = sym o.0.1 i;
      information = sym o.1 i;
      times = r.times;
    })

-- a run from 1 on is good with each status
least_one : (status : ℕ) → least_run status ≤ 1
unfolding least_run
least_one status = go (is_z status)
  where
    go : (t : Bool) → cond t 0 1 ≤ 1
    go true = omega arith
    go false = omega arith

sound : Sound Whole reply_fields (λ _. Unit {0}) (Unit {0}) 48
unfolding reply_fields is_address is_raw is_status is_requester is_letter one_of between up_to digit_from digits
sound =
    letter_sound 32 refl tt λ address _.
    letter_sound 32 refl tt λ program _.
    letter_sound 32 refl tt λ mode _.
    letter_sound 82 refl tt λ status _.
    letter_sound 65 refl tt λ requester _.
    number_sound 5 99999 tt (up_to_law _) (to_shows 4 9 99999 refl) λ n _.
    within_sound tail_of (with_tail address program mode status requester n) WholeTail Whole (λ q. refl)
    (λ r w. record { time = w.time; date = w.date; spare = w.spare })
    (λ q w. record { time = w.time; date = w.date; spare = w.spare })
    (tail_sound (least_run status) (least_one status) is_letter 80 refl (timing_kind status)) _ _ (λ _. tt) (λ r o. tt) (λ q k. ((((((tt, refl), refl), refl), refl), refl), refl))
    (λ r o i. record {
      head = record {
        address = sym o.0.0.0.0.0.1 i;
        program = sym o.0.0.0.0.1 i;
        mode = sym o.0.0.0.1 i;
        status = sym o.0.0.1 i;
        requester = sym o.0.1 i;
        number = sym o.1 i;
        bib = r.head.bib;
        group = r.head.group;
        run = r.head.run;
        physical = r.head.physical;
        channel = r.head.channel;
        information = r.head.information;
      };
      timing = r.timing;
      raw_time = r.raw_time;
      raw_date = r.raw_date;
      spare = r.spare;
    })

pub reply_sound : SoundKind reply Whole
unfolding reply_fields frame_of write wrong_in record_wrong
reply_sound = record { bytes = 48; sound = sound; size = refl; some = omega arith; address = λ r e. (unless_none _ 2 _ (omega arith) e).0 }

-- what is demanded of reading and writing holds of the static reply
pub reply_faithful : Faithful reply Whole
reply_faithful = faithful reply_sound

pub length_reply : (r : StaticReply) → wrong_in reply r ≡ 0 → length (frame_of reply r) ≡ 51
length_reply = length_frame reply_sound

-- ---- a record's first wrong part

abbrev pub kind_in : StaticReply → TimingKind
kind_in r = timing_kind r.head.status r.head.information

-- the test of time and date alone agrees with that of the whole layout
times_wrong : (r : StaticReply) → wrong_unless (is_address r.head.address) 2 (head_wrong r.head (record_wrong (timed (kind_in r)) (tail_of r).times)) ≡ wrong_in reply r
unfolding head_wrong wrong_in reply_fields from_bib record_wrong
times_wrong r =
    ap (λ w. wrong_unless (is_address r.head.address) 2 (head_wrong r.head w))
    (sym (within_wrong _ _ (within (λ t. t.times) _ (timed (kind_in r))) r ∙ within_wrong _ _ (timed (kind_in r)) (tail_of r)))

-- `reply_wrong` is the first wrong part of a record
pub reply_wrong_is : (r : StaticReply) → wrong_unless (is_address r.head.address) 2 (head_wrong r.head (timing_wrong (kind_in r) r.timing r.raw_time r.raw_date r.spare)) ≡ wrong_in reply r
reply_wrong_is r = ap (λ w. wrong_unless (is_address r.head.address) 2 (head_wrong r.head w)) (timing_wrong_is (kind_in r) r.timing r.raw_time r.raw_date r.spare) ∙ times_wrong r

-- the same head with another letter
abbrev pub lettered : ReplyHead → ℕ → ReplyHead
lettered h letter =
    record { address = h.address; program = h.program; mode = h.mode; status = h.status; requester = h.requester; number = h.number; bib = h.bib; group = h.group; run = h.run; physical = h.physical; channel = h.channel; information = letter }

-- a head and the rest that are not wrong: each part is good, and with any good letter the head leaves what the rest says
pub record HeadFine (h : ReplyHead) (rest : ℕ) : Type 0 where
  pub none : rest ≡ 0
  pub program : is_raw h.program ≡ true
  pub mode : is_raw h.mode ≡ true
  pub status : is_status h.status ≡ true
  pub requester : is_requester h.requester ≡ true
  pub number : up_to 99999 h.number ≡ true
  pub bib : up_to 59999 h.bib ≡ true
  pub group : up_to 199 h.group ≡ true
  pub run : between (least_run h.status) 250 h.run ≡ true
  pub physical : up_to 999 h.physical ≡ true
  pub channel : is_reply_channel h.channel ≡ true
  pub letter : is_letter h.information ≡ true
  pub passes : (letter : ℕ) → is_letter letter ≡ true → (other : ℕ) → head_wrong (lettered h letter) other ≡ other

pub head_fine : (h : ReplyHead) (rest : ℕ) → head_wrong h rest ≡ 0 → HeadFine h rest
unfolding head_wrong
head_fine h rest e =
    let program = unless_none (is_raw h.program) 3 _ (omega arith) e in
    let mode = unless_none (is_raw h.mode) 4 _ (omega arith) program.1 in
    let status = unless_none (is_status h.status) 5 _ (omega arith) mode.1 in
    let requester = unless_none (is_requester h.requester) 6 _ (omega arith) status.1 in
    let number = unless_none (up_to 99999 h.number) 7 _ (omega arith) requester.1 in
    let bib = unless_none (up_to 59999 h.bib) 12 _ (omega arith) number.1 in
    let group = unless_none (up_to 199 h.group) 17 _ (omega arith) bib.1 in
    let run = unless_none (between (least_run h.status) 250 h.run) 20 _ (omega arith) group.1 in
    let physical = unless_none (up_to 999 h.physical) 23 _ (omega arith) run.1 in
    let channel = unless_none (is_reply_channel h.channel) 26 _ (omega arith) physical.1 in
    let letter = unless_none (is_letter h.information) 29 _ (omega arith) channel.1 in
    record {
      none = letter.1;
      program = program.0;
      mode = mode.0;
      status = status.0;
      requester = requester.0;
      number = number.0;
      bib = bib.0;
      group = group.0;
      run = run.0;
      physical = physical.0;
      channel = channel.0;
      letter = letter.0;
      passes = λ letter good other. rw (program.0, mode.0, status.0, requester.0, number.0, bib.0, group.0, run.0, physical.0, channel.0, good);
    }

-- if a record is well formed, so are its time and date
pub times_fine : (r : StaticReply) → wrong_in reply r ≡ 0 → record_wrong (timed (kind_in r)) (tail_of r).times ≡ 0
times_fine r e = (head_fine r.head _ (unless_none (is_address r.head.address) 2 _ (omega arith) (times_wrong r ∙ e)).1).none

-- ---- what the code reads of a frame

-- a field before the time has its spoiled byte there
before_time : (s : List ℕ) (at : ℕ) → eqb at 48 ≡ false → (eqb at 40 || eqb at 30) ≡ false → reply_byte (kind_at s) s at ≡ head_byte s at
unfolding looked_in
before_time s at e f = rw e (timing_passed (kind_at s) s at (head_byte s at) f)

-- from the bib on
sees_tail : (s : List ℕ) → Sees (from_bib (least_run (get_or s 5 0)) (number_to 3 999) is_letter (timing_kind (get_or s 5 0))) 12 s (reply_byte (kind_at s) s)
    (wrong_unless (up_to 59999 (or_none (number_at s 12 5))) 12 (wrong_unless (up_to 199 (or_none (number_at s 17 3))) 17
    (wrong_unless (between (least_run (get_or s 5 0)) 250 (or_none (number_at s 20 3))) 20 (wrong_unless (up_to 999 (or_none (number_at s 23 3))) 23
    (wrong_unless (is_reply_channel (or_none (number_at s 26 3))) 26 (wrong_unless (is_letter (get_or s 29 0)) 29 (seen_in s).wrong))))))
    (tail_of (reply_at s))
unfolding from_bib up_to is_reply_channel looked_in in_class digit_from
sees_tail s =
    sees_number 5 tt refl (before_time s 12 refl refl) λ _.
    sees_number 3 tt refl (before_time s 17 refl refl) λ _.
    sees_number 3 tt (none_in_range (least_run (get_or s 5 0)) 250 (omega arith)) (before_time s 20 refl refl) λ _.
    sees_number 3 tt refl (before_time s 23 refl refl) λ _.
    sees_number 3 tt refl (before_time s 26 refl refl) λ _.
    sees_letter tt (before_time s 29 refl refl) λ _.
    sees_within (λ t. t.times)
    (λ times. record { bib = or_none (number_at s 12 5); group = or_none (number_at s 17 3); run = or_none (number_at s 20 3); physical = or_none (number_at s 23 3); channel = or_none (number_at s 26 3); information = get_or s 29 0; times = times })
    (sees_timed (kind_at s) s) refl

pub sees_reply : (s : List ℕ) → is_address (get_or s 2 0) ≡ true → Sees reply_fields 2 s (reply_byte (kind_at s) s) (wrong_at s) (reply_at s)
unfolding reply_fields head_wrong up_to looked_in in_class digit_from
sees_reply s =
    sees_address (before_time s 2 refl refl)
    (sees_letter tt (before_time s 3 refl refl) λ _.
    sees_letter tt (before_time s 4 refl refl) λ _.
    sees_letter tt (before_time s 5 refl refl) λ _.
    sees_letter tt (before_time s 6 refl refl) λ _.
    sees_number 5 tt refl (before_time s 7 refl refl) λ _.
    sees_within tail_of (with_tail (get_or s 2 0) (get_or s 3 0) (get_or s 4 0) (get_or s 5 0) (get_or s 6 0) (or_none (number_at s 7 5))) (sees_tail s) refl)

-- ---- a reply's text, as it is stored, is its frame

regroup : (a b c d e f : List ℕ) (i : ℕ) (t x : List ℕ)
    → (a ++ (b ++ (c ++ (d ++ (e ++ (f ++ (i ∷ t))))))) ++ x ≡ (a ++ (b ++ (c ++ (d ++ (e ++ (f ++ (i ∷ []))))))) ++ (t ++ x)
regroup a b c d e f i t x = simp append_assoc

pub text_is_frame : (r : StaticReply) → wrong_in reply r ≡ 0 → reply_text r ≡ frame_of reply r
unfolding reply_text frame_of reply_fields from_bib write
text_is_frame r e =
    let h = r.head in
    let t = timing_text r.timing r.raw_time r.raw_date in
    let q = within_write _ _ (within (λ t. t.times) _ (timed (kind_in r))) r
    ∙ within_write _ _ (timed (kind_in r)) (tail_of r)
    ∙ timing_text_law (kind_in r) r.timing r.raw_time r.raw_date r.spare (kind_fits (kind_in r) (tail_of r).times (times_fine r e)) in
    let numbers = digits 5 h.number ++ (digits 5 h.bib ++ (digits 3 h.group ++ (digits 3 h.run ++ (digits 3 h.physical ++ (digits 3 h.channel ++ (h.information ∷ [])))))) in
    sym (ap (λ (l : List ℕ). 18 ∷ letter_r ∷ h.address ∷ h.program ∷ h.mode ∷ h.status ∷ h.requester ∷ l)
    (regroup (digits 5 h.number) (digits 5 h.bib) (digits 3 h.group) (digits 3 h.run) (digits 3 h.physical) (digits 3 h.channel) h.information _ (CR ∷ [])
    ∙ ap (λ (l : List ℕ). numbers ++ (l ++ (CR ∷ []))) q
    ∙ ap (λ (l : List ℕ). numbers ++ l) (append_assoc t (bytes_of r.spare 0 2) (CR ∷ []))))

-- the stores of a reply are a single run
pub head_stores : (h : ReplyHead) (l : List ℕ) →
    set (sets (sets (sets (sets (sets (sets (set (set (set (set (sets l 0 (18 ∷ letter_r ∷ h.address ∷ [])) 3 h.program) 4 h.mode) 5 h.status) 6 h.requester) 7 (digits 5 h.number)) 12 (digits 5 h.bib))
    17 (digits 3 h.group)) 20 (digits 3 h.run)) 23 (digits 3 h.physical)) 26 (digits 3 h.channel)) 29 h.information
    ≡ sets l 0 (head_text h)
head_stores h l = simp (sets_append, length_digits)

pub length_timing : (t : Timing) (rt rd : List ℕ) → length (timing_text t rt rd) ≡ 18
length_timing (Clock ticks day month year) rt rd = simp (length-append, length_digits)
length_timing (Net v) rt rd = simp (length-append, length_digits)
length_timing Raw rt rd = refl

pub length_head : (h : ReplyHead) → length (head_text h) ≡ 30
length_head h = simp (length-append, length_digits)

pub reply_stores : (r : StaticReply) (l : List ℕ) → 2 ≡ length r.spare
    → set (sets (sets (sets l 0 (head_text r.head)) 30 (timing_text r.timing r.raw_time r.raw_date)) 48 r.spare) 50 CR ≡ sets l 0 (reply_text r)
unfolding reply_text
reply_stores r l h =
    let t = timing_text r.timing r.raw_time r.raw_date in
    let a = sets_append l 0 (head_text r.head) (t ++ (bytes_of r.spare 0 2 ++ (CR ∷ []))) in
    let b = sets_append (sets l 0 (head_text r.head)) 30 t (bytes_of r.spare 0 2 ++ (CR ∷ [])) in
    ap (λ (s : List ℕ). set (sets (sets (sets l 0 (head_text r.head)) 30 t) 48 s) 50 CR) (sym (all_bytes r.spare 2 (sym h)))
    ∙ sym (a ∙ rw (length_head r.head, b, length_timing r.timing r.raw_time r.raw_date))

-- reading: the fields of a frame whose head was tested
pub fields_told : (s : List ℕ) → gives tt ≡ head_told 18 51 s → tried (eqb (wrong_at s) 0) (FIELD (wrong_at s) (spoiled_byte s)) (gives (reply_at s)) ≡ read reply s
fields_told s e = K.read_fields reply s (reply_byte (kind_at s) s) (wrong_at s) (reply_at s) (sees_reply s) e

-- ---- the check: like reading, with the label in place of the record

labelled_tried : (t : Bool) (f : Refusal) (r : StaticReply) → tried t f (gives (label_of r)) ≡ labelled (tried t f (gives r))
labelled_tried true f r = refl
labelled_tried false f r = refl

pub check_as : (s : List ℕ) → gives tt ≡ head_told 18 51 s → tried (eqb (wrong_at s) 0) (FIELD (wrong_at s) (spoiled_byte s)) (gives (label_of (reply_at s))) ≡ labelled (read reply s)
check_as s e = labelled_tried (eqb (wrong_at s) 0) (FIELD (wrong_at s) (spoiled_byte s)) (reply_at s) ∙ ap labelled (fields_told s e)

pub check_refused : (s : List ℕ) (f : ReadRefusal) → refuses (read_refused f) ≡ head_told 18 51 s
    → (a : Result ReplyLabel ReadRefusal) → IsErrAnd a (λ g. g ≡ f) → read_told a ≡ labelled (read reply s)
check_refused s f e (Ok l) is = absurd is
check_refused s f e (Err g) is = ap (λ h. refuses (read_refused h)) is ∙ ap labelled (K.read_head reply s f e (Err f) refl)
