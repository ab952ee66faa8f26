-- Net times as replies show them: each has one value, and each value is shown in one way. All of it is spelled over bytes, digits and whole numbers.
use Rattle.std.specs.Prelude.{ℕ, ◌+◌, ◌*◌, List, ◌∷◌, ◌++◌, Bool, true, cond, ◌&&◌, ◌||◌, ◌≡◌, eqb, leb, ltb, ℤ, pos, neg_ℤ, nat_abs, get_or, set, replicate}
use Rattle.std.proofs.lemmas.List.Edits.{sets}
use Rattle.std.proofs.Math.Seq.{slice}
use Rattle.digits.specs.Text.{codes, one_of}
use Rattle.digits.specs.Digits.{digits}
use Rattle.digits.specs.Refusals.{spoiled_at}
use Rattle.digits.specs.Told.{gives, refuses}
use Rattle.frames.specs.declared.timing.Timing.TheVariants.{Net}
use Rattle.frames.specs.declared.reply.StaticReply.{StaticReply}
use Rattle.frames.specs.Kind.{read, wrong_in, frame_of}
use Rattle.frames.specs.Reply.{reply, Whole}

-- HHMMSSdddd, the byte of the sign, and days
pub record Writing : Type 0 where
  pub hours : ℕ
  pub minutes : ℕ
  pub seconds : ℕ
  pub fraction : ℕ
  pub sign : ℕ
  pub days : ℕ

-- the 18 bytes of a writing: in a reply they are at 30 to 47
abbrev pub text_of : Writing → List ℕ
text_of w = digits 2 w.hours ++ (digits 2 w.minutes ++ (digits 2 w.seconds ++ (digits 4 w.fraction ++ (w.sign ∷ digits 7 w.days))))

-- days and time together, in ticks
abbrev pub size_of : Writing → ℕ
size_of w = w.days * 864000000 + (w.hours * 36000000 + (w.minutes * 600000 + (w.seconds * 10000 + w.fraction)))

-- plus or minus all of it; 45 is the minus sign
abbrev pub value_of : Writing → ℤ
value_of w = cond (eqb w.sign 45) (neg_ℤ (pos (size_of w))) (pos (size_of w))

-- a time of day, and days of seven digits
abbrev pub fits_digits : Writing → Bool
fits_digits w = leb w.hours 23 && leb w.minutes 59 && leb w.seconds 59 && leb w.fraction 9999 && leb w.days 9999999

-- a good writing: a plus sign (43), or a minus sign if not all is zero
unfoldable pub is_writing : Writing → Bool
is_writing w = fits_digits w && (eqb w.sign 43 || (eqb w.sign 45 && ltb 0 (size_of w)))

-- a good writing of the rule before, by which a minus covers only the days, and needs one
unfoldable pub was_writing : Writing → Bool
was_writing w = fits_digits w && (eqb w.sign 43 || (eqb w.sign 45 && ltb 0 w.days))

-- a whole number of at most 8,639,999,999,999,999, above or below zero
abbrev pub is_value : ℤ → Bool
is_value v = leb (nat_abs v) 8639999999999999

-- the status and the letter of a net reply: R or E, and 1, 2 or 3
unfoldable pub is_net_status : ℕ → Bool
is_net_status = one_of (codes "RE")

unfoldable pub is_net_letter : ℕ → Bool
is_net_letter = one_of (codes "123")

-- the same record as a net reply with this letter and value
abbrev pub net_by : StaticReply → ℕ → ℤ → StaticReply
net_by r letter v =
    record {
      head = record { address = r.head.address; program = r.head.program; mode = r.head.mode; status = r.head.status; requester = r.head.requester; number = r.head.number; bib = r.head.bib; group = r.head.group; run = r.head.run; physical = r.head.physical; channel = r.head.channel; information = letter };
      timing = Net v;
      raw_time = replicate 10 0;
      raw_date = replicate 8 0;
      spare = r.spare;
    }

pub record NetTimesAreOneToOne : Type 0 where
  -- writings and values: each writing has a value of this range, each value of this range has a writing, and no two writings have the same value
  pub within : (w : Writing) → is_writing w ≡ true → is_value (value_of w) ≡ true
  pub onto : (v : ℤ) → is_value v ≡ true → (w : Writing) × ((is_writing w ≡ true) × (value_of w ≡ v))
  pub once : (w u : Writing) → is_writing w ≡ true → is_writing u ≡ true → value_of w ≡ value_of u → w ≡ u
  -- reading: an accepted net reply shows a writing, and its record holds the value
  pub reads : (s : List ℕ) (r : StaticReply) → read reply s ≡ gives r → is_net_status (get_or s 5 0) ≡ true → is_net_letter (get_or s 29 0) ≡ true
      → (w : Writing) × ((is_writing w ≡ true) × ((slice 30 48 s ≡ text_of w) × (r.timing ≡ Net (value_of w))))
  -- an accepted reply with status R or E, made to show such a letter and any writing, is accepted with the value of that writing; all else stays
  pub takes : (s : List ℕ) (r : StaticReply) → read reply s ≡ gives r → is_net_status (get_or s 5 0) ≡ true → (letter : ℕ) → is_net_letter letter ≡ true
      → (w : Writing) → is_writing w ≡ true → read reply (sets s 29 (letter ∷ text_of w)) ≡ gives (net_by r letter (value_of w))
  -- made to show minus zero, it is refused with FIELD, and both offsets are 40
  pub refuses_minus_zero : (s : List ℕ) (r : StaticReply) → read reply s ≡ gives r → is_net_status (get_or s 5 0) ≡ true → (letter : ℕ) → is_net_letter letter ≡ true
      → read reply (sets s 29 (letter ∷ codes "0000000000-0000000")) ≡ refuses (spoiled_at 5 40 40)
  -- writing: the frame of a well formed record with a net value has such a status and letter, and shows the writing of that value
  pub writes : (r : StaticReply) → Whole r → wrong_in reply r ≡ 0 → (v : ℤ) → r.timing ≡ Net v
      → (is_net_status (get_or (frame_of reply r) 5 0) ≡ true) × ((is_net_letter (get_or (frame_of reply r) 29 0) ≡ true)
      × ((w : Writing) × ((is_writing w ≡ true) × ((value_of w ≡ v) × (slice 30 48 (frame_of reply r) ≡ text_of w)))))
  -- a well formed record with status R or E, made net with any value, is well formed exactly if that value is in the range; otherwise it is wrong at 40
  pub judges : (r : StaticReply) → wrong_in reply r ≡ 0 → is_net_status r.head.status ≡ true → (letter : ℕ) → is_net_letter letter ≡ true
      → (v : ℤ) → wrong_in reply (net_by r letter v) ≡ cond (is_value v) 0 40
  -- every good writing of the rule before is good still
  pub stays : (w : Writing) → was_writing w ≡ true → is_writing w ≡ true
  -- so every net reply of the rule before is accepted still: one that shows a good writing of that rule, and is accepted with the letter P (80), by which time and date are raw
  pub stays_accepted : (s : List ℕ) (r : StaticReply) → read reply (set s 29 80) ≡ gives r → is_net_status (get_or s 5 0) ≡ true → is_net_letter (get_or s 29 0) ≡ true
      → (w : Writing) → was_writing w ≡ true → slice 30 48 s ≡ text_of w → read reply s ≡ gives (net_by r (get_or s 29 0) (value_of w))
