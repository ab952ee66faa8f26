-- Net times and their values belong together one to one, reading and writing follow, and minus zero is FIELD 40. Assumes nothing.
use Rattle.std.specs.Prelude.{Some}
use Prim.Native.Nat.{ℕ, ◌+◌, ◌-◌, ◌/◌, ◌%◌, ◌≤◌, ◌<◌}
use mathlib.Core.List.{List, ◌∷◌, ◌++◌}
use mathlib.Core.Bool.{true}
use mathlib.Core.Path.{◌≡◌, refl, sym, ap, ap₂, ◌∙◌}
use native.Mathlib.Omega.{arith}
use lib.IntN.{ℤ, pos, negsuc, nat_abs}
use lib.ListN.{length, get_or, set, take, drop, length-set, take-append-drop}
use lib.Seq.{sets, slice, length-sets, length-slice, sets-eq, set-set, set-get_or, get_or-set_other, take-take, take-append-add, drop-append-add, get_or-take, get_or-drop}
use borrow.Author.Tests.{leb-true, le-leb}
use Rattle.digits.specs.Text.{codes, one_of}
use Rattle.digits.specs.Digits.{digits, number_at, number_from}
use Rattle.digits.specs.Refusals.{spoiled_at}
use Rattle.digits.specs.Told.{gives, refuses}
use Rattle.digits.proofs.Tests.{by_less}
use Rattle.digits.proofs.Forms.{number_back}
use Rattle.times.specs.Clock.{a_day, last_tick, ticks_of, clock_number, clock}
use Rattle.times.specs.Net.{is_below}
use Rattle.times.proofs.ClockLaws.{clock_inverse}
use Rattle.frames.specs.declared.timing.Timing.TheVariants.{Net}
use Rattle.frames.specs.declared.reply.StaticReply.{StaticReply}
use Rattle.frames.specs.Kind.{CR, read, frame_of}
use Rattle.frames.specs.Timing.{sign_of}
use Rattle.frames.specs.Reply.{reply, Whole}
use Rattle.frames.specs.Places.{reply_offsets}
use Rattle.frames.specs.Spoiled.{WellFormed, Begun, Occurs, own, Named}
use Rattle.frames.specs.NetTimes.{Writing, text_of, value_of, is_writing, was_writing, is_net_status, is_net_letter, net_by, NetTimesAreOneToOne}
use Rattle.frames.specs.inside.Reply.{head_text}
use Rattle.frames.proofs.KindLaws.{Own, frame_back, frame_again}
use Rattle.frames.proofs.ReplyLaws.{reply_sound, lettered, length_reply, length_head}
use Rattle.frames.proofs.SpoiledDemands.{spoiled_bytes_are_named}
use Rattle.frames.proofs.NetWritings.{writing_of, writing_text, value_of_writing, writing_good, writing_again, writing_value, writing_stays}
use Rattle.frames.proofs.NetReplies as N

-- ---- no writing shows minus zero

abbrev minus_zero_law : List ℕ
minus_zero_law = codes "0000000000-0000000"

-- digits that show zero are those of zero
zero_time : (t : ℕ) → t < a_day → clock.put t ≡ take 10 minus_zero_law → t ≡ 0
unfolding digits clock_number number_at number_from ticks_of
zero_time t h e =
    let back = clock_inverse.back t (le-leb t last_tick (omega arith)) in
    let none : clock.got (clock.put t) 0 ≡ Some 0 = ap (λ (l : List ℕ). clock.got l 0) e in
    let q : Some t ≡ Some 0 = sym back ∙ none in
    cc

zero_days : (d : ℕ) → d ≤ 9999999 → digits 7 d ≡ drop 11 minus_zero_law → d ≡ 0
unfolding number_at number_from
zero_days d h e =
    let back = number_back 7 d (omega arith) (omega arith) (omega arith) in
    let none : number_at (digits 7 d) 0 7 ≡ Some 0 = ap (λ (l : List ℕ). number_at l 0 7) e in
    let q : Some d ≡ Some 0 = sym back ∙ none in
    cc

no_value : (v : ℤ) → sign_of (is_below v) ≡ 45 → nat_abs v ≡ 0 → ⊥
no_value (pos n) e z = absurd (omega arith)
no_value (negsuc n) e z = absurd (omega arith)

no_minus_zero : (w : Writing) → is_writing w ≡ true → text_of w ≡ minus_zero_law → ⊥
unfolding digits
no_minus_zero w g e =
    let v = value_of w in
    let t = nat_abs v % a_day in
    let d = nat_abs v / a_day in
    let shown : clock.put t ++ (sign_of (is_below v) ∷ digits 7 d) ≡ minus_zero_law = writing_text v ∙ ap text_of (writing_again w g) ∙ e in
    let most = leb-true (nat_abs v) 8639999999999999 (writing_value w g) in
    let no-time = zero_time t (omega arith) (ap (take 10) shown) in
    let no_days = zero_days d (omega arith) (ap (drop 11) shown) in
    no_value v (ap (λ (l : List ℕ). get_or l 10 0) shown) (omega arith)

-- ---- a reply that is made to show minus zero

-- zero with a plus, and minus one day: writings that have each byte of minus zero at its place
abbrev plus_zero_law : Writing
plus_zero_law = record { hours = 0; minutes = 0; seconds = 0; fraction = 0; sign = 43; days = 0 }

abbrev minus_day_law : Writing
minus_day_law = record { hours = 0; minutes = 0; seconds = 0; fraction = 0; sign = 45; days = 1 }

module _ (s : List ℕ) (r : StaticReply) (e : read reply s ≡ gives r) (net : is_net_status (get_or s 5 0) ≡ true) (letter : ℕ) (of-net : is_net_letter letter ≡ true) where
  is_own : Own reply_sound s r
  is_own = N.own s r e net

  abbrev head : List ℕ
  head = head_text (lettered r.head letter)

  abbrev rest : List ℕ
  rest = N.after r

  abbrev showing : List ℕ → List ℕ
  showing t = sets s 29 (letter ∷ t)

  length_first : length head ≡ 30
  length_first = length_head (lettered r.head letter)

  parts : (t : List ℕ) → length t ≡ 18 → showing t ≡ head ++ (t ++ rest)
  parts t h = ap (λ (l : List ℕ). sets l 29 (letter ∷ t)) (sym is_own.bytes) ∙ N.other_bytes r is_own.fine letter t h

  formed : (w : Writing) → is_writing w ≡ true → WellFormed reply Whole reply_offsets (showing (text_of w))
  formed w g =
      let o = frame_again reply_sound (showing (text_of w)) (net_by r letter (value_of w)) (N.takes_writing s r e net letter of-net w g) in
      record { of = net_by r letter (value_of w); whole = o.has; fine = o.fine; bytes = o.bytes }

  -- the bytes up to the sign, and those from a place after the first 30 on
  front : (t : List ℕ) → length t ≡ 18 → take 10 (t ++ rest) ≡ take 10 minus_zero_law → take 40 (showing t) ≡ head ++ take 10 minus_zero_law
  front t h q =
      ap (take 40) (parts t h) ∙ ap (λ (k : ℕ). take k (head ++ (t ++ rest))) (sym (ap (λ (k : ℕ). k + 10) length_first)) ∙ take-append-add head (t ++ rest) 10 ∙ ap (λ (l : List ℕ). head ++ l) q

  back : (t : List ℕ) → length t ≡ 18 → (k : ℕ) → drop (30 + k) (showing t) ≡ drop k (t ++ rest)
  back t h k = ap (drop (30 + k)) (parts t h) ∙ ap (λ (i : ℕ). drop (i + k) (head ++ (t ++ rest))) (sym length_first) ∙ drop-append-add head (t ++ rest) k

  same_front : (w : Writing) → length (text_of w) ≡ 18 → take 10 (text_of w ++ rest) ≡ take 10 minus_zero_law → take 40 (showing (text_of w)) ≡ take 40 (showing minus_zero_law)
  same_front w h q = front (text_of w) h q ∙ sym (front minus_zero_law refl refl)

  -- what follows is of the reply with minus zero
  abbrev shown : List ℕ
  shown = showing minus_zero_law

  begun : (p : ℕ) → p ≤ 40 → Begun reply Whole reply_offsets shown p
  unfolding digits is_writing
  begun p h = record {
    frame = showing (text_of plus_zero_law);
    formed = formed plus_zero_law refl;
    before = sym (take-take p 40 (showing (text_of plus_zero_law)) h) ∙ ap (take p) (same_front plus_zero_law refl refl) ∙ take-take p 40 shown h;
  }

  at_status : get_or shown 5 0 ≡ r.head.status
  at_status = ap (λ (l : List ℕ). get_or l 5 0) (parts minus_zero_law refl)

  at_letter : get_or shown 29 0 ≡ letter
  unfolding digits
  at_letter = ap (λ (l : List ℕ). get_or l 29 0) (parts minus_zero_law refl)

  shown_at_30 : slice 30 48 shown ≡ minus_zero_law
  shown_at_30 = ap (slice 30 48) (parts minus_zero_law refl) ∙ N.cut_out head minus_zero_law rest length_first refl

  wrong : Begun reply Whole reply_offsets shown 48 → ⊥
  wrong b =
      let g = b.frame in
      let f = b.formed in
      let is : read reply g ≡ gives f.of = ap (read reply) (sym f.bytes) ∙ frame_back reply_sound f.of f.whole f.fine in
      let same : (i : ℕ) → i < 48 → get_or g i 0 ≡ get_or shown i 0 = λ i h. sym (get_or-take 48 g i 0 h) ∙ ap (λ (l : List ℕ). get_or l i 0) b.before ∙ get_or-take 48 shown i 0 h in
      let status : is_net_status (get_or g 5 0) ≡ true = ap is_net_status (same 5 (omega arith) ∙ at_status) ∙ N.own_status s r e net in
      let w = N.reads_writing g f.of is status (ap is_net_letter (same 29 (omega arith) ∙ at_letter) ∙ of-net) in
      no_minus_zero w.0 w.1.0 (sym w.1.1.0 ∙ ap (drop 30) b.before ∙ shown_at_30)

  first : {l m : List ℕ} → l ≡ m → get_or l 0 0 ≡ get_or m 0 0
  first q = ap (λ (l : List ℕ). get_or l 0 0) q

  -- each byte of the field at 40 occurs there: the minus with one day, and each digit with a plus
  occurs : (i : ℕ) → 40 ≤ i → i < 48 → Occurs reply Whole reply_offsets shown 40 i
  unfolding digits is_writing
  occurs i lo hi =
      by_less i 41
      (λ h.
      let at : i ≡ 40 = omega arith in
      record {
        frame = showing (text_of minus_day_law);
        formed = formed minus_day_law refl;
        before = same_front minus_day_law refl refl;
        there = rw at (sym (get_or-drop 40 (showing (text_of minus_day_law)) 0 0) ∙ first (back (text_of minus_day_law) refl 10) ∙ sym (first (back minus_zero_law refl 10)) ∙ get_or-drop 40 shown 0 0);
      })
      (λ h.
      let at : i ≡ 41 + (i - 41) = omega arith in
      record {
        frame = showing (text_of plus_zero_law);
        formed = formed plus_zero_law refl;
        before = same_front plus_zero_law refl refl;
        there = rw at (sym (get_or-drop 41 (showing (text_of plus_zero_law)) (i - 41) 0) ∙ ap (λ (l : List ℕ). get_or l (i - 41) 0) (back (text_of plus_zero_law) refl 11 ∙ sym (back minus_zero_law refl 11)) ∙ get_or-drop 41 shown (i - 41) 0);
      })

  named_40 : Named reply Whole reply_offsets shown 40 40
  unfolding one_of
  named_40 = record { begins = refl; begun = begun 40 (omega arith); wrong = wrong; spoiled = own refl occurs }

  refused_40 : read reply shown ≡ refuses (spoiled_at 5 40 40)
  refused_40 =
      let names = spoiled_bytes_are_named.of_reply in
      let long : length shown ≡ 51 = length-sets s 29 (letter ∷ minus_zero_law) ∙ ap length (sym is_own.bytes) ∙ length_reply r is_own.fine in
      let last : get_or shown 50 0 ≡ CR = sym (get_or-drop 48 shown 2 0) ∙ ap (λ (l : List ℕ). get_or l 2 0) (back minus_zero_law refl 18) in
      let f = names.given shown (begun 3 (omega arith)) long last (λ formed. wrong (record { frame = shown; formed = formed; before = refl })) in
      let q = names.once shown f.0 f.1.0 40 40 (names.named shown f.0 f.1.0 f.1.1) named_40 in
      f.1.1 ∙ ap₂ (λ (a b : ℕ). refuses (spoiled_at 5 a b)) q.0 q.1

-- ---- replies of the rule before

-- with any letter, and then with its own letter, time and date again, a reply is itself
shows_own : (s : List ℕ) (b : ℕ) → 48 ≤ length s → sets (set s 29 b) 29 (get_or s 29 0 ∷ slice 30 48 s) ≡ s
shows_own s b h =
    let own = slice 30 48 s in
    let long : length own ≡ 18 = length-slice 30 48 s h in
    ap (λ (l : List ℕ). sets l 30 own) (set-set s 29 b (get_or s 29 0) ∙ set-get_or s 29 0)
    ∙ sets-eq own s 30 (omega arith)
    ∙ ap (λ (n : ℕ). (take 30 s ++ own) ++ drop (30 + n) s) long
    ∙ ap (λ (l : List ℕ). (l ++ own) ++ drop 48 s) (sym (take-take 30 48 s (omega arith)))
    ∙ ap (λ (l : List ℕ). l ++ drop 48 s) (take-append-drop 30 (take 48 s))
    ∙ take-append-drop 48 s

still_accepted : (s : List ℕ) (r : StaticReply) → read reply (set s 29 80) ≡ gives r → is_net_status (get_or s 5 0) ≡ true → is_net_letter (get_or s 29 0) ≡ true
    → (w : Writing) → was_writing w ≡ true → slice 30 48 s ≡ text_of w → read reply s ≡ gives (net_by r (get_or s 29 0) (value_of w))
still_accepted s r e net of-net w was shown =
    let o = N.own (set s 29 80) r e status in
    let long : length s ≡ 51 = sym (length-set s 29 80) ∙ ap length (sym o.bytes) ∙ length_reply r o.fine in
    ap (read reply) (sym (shows_own s 80 (omega arith)) ∙ ap (λ (t : List ℕ). sets (set s 29 80) 29 (get_or s 29 0 ∷ t)) shown)
    ∙ N.takes_writing (set s 29 80) r e status (get_or s 29 0) of-net w (writing_stays w was)
  where
    status : is_net_status (get_or (set s 29 80) 5 0) ≡ true
    status = ap is_net_status (get_or-set_other s 29 5 80 0 (λ z. absurd (omega (arith, z)))) ∙ net

-- ---- all of it

pub net_times_are_one_to_one : NetTimesAreOneToOne
net_times_are_one_to_one = record {
  within = writing_value;
  onto = λ v e. (writing_of v, (writing_good v e, value_of_writing v));
  once = λ w u a b e. sym (writing_again w a) ∙ ap writing_of e ∙ writing_again u b;
  reads = N.reads_writing;
  takes = N.takes_writing;
  refuses_minus_zero = refused_40;
  writes = λ r whole fine v is.
      let net = N.net_bytes r fine v is in
      let w = N.reads_writing (frame_of reply r) r (frame_back reply_sound r whole fine) net.0 net.1 in
      (net.0, (net.1, (w.0, (w.1.0, (same_value (sym w.1.1.1 ∙ is), w.1.1.0)))));
  judges = N.made_judged;
  stays = writing_stays;
  stays_accepted = still_accepted;
}
  where
    same_value : {a b : ℤ} → Net a ≡ Net b → a ≡ b
    same_value e = cc
