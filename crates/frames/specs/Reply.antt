-- The static reply: 51 bytes, lead byte DC2.
use Rattle.std.specs.Prelude.{ℕ, ◌+◌, ◌*◌, ◌%◌, List, ◌↔◌, ◌≡◌, Bool, true, false, cond, ◌||◌, length, get_or, replicate, leb, eqb, Result, Option, Some, None}
use Rattle.digits.specs.Text.{codes, one_of, place_of}
use Rattle.digits.specs.Told.{Told, gives, refuses}
use Rattle.frames.specs.declared.refusals.ReadRefusal.{ReadRefusal}
use Rattle.frames.specs.declared.timing.TimingKind.{TimingKind}
use Rattle.frames.specs.declared.timing.Timing.TheVariants.{Raw}
use Rattle.frames.specs.declared.reply.ReplyHead.{ReplyHead}
use Rattle.frames.specs.declared.reply.StaticReply.{StaticReply}
use Rattle.frames.specs.declared.reply.ReplyLabel.{ReplyLabel}
use Rattle.frames.specs.Refusals.{read_told}
use Rattle.frames.specs.Rules.{between, is_address, is_raw, is_requester}
use Rattle.frames.specs.Status.{is_status, is_z}
use Rattle.frames.specs.Field.{Field, letter, number_by, number_to}
use Rattle.frames.specs.Layout.{Layout, field, within}
use Rattle.frames.specs.Kind.{Kind, read}
use Rattle.frames.specs.Timing.{Times, timing_kind, timed}

-- 33 letters: the request's without L t * l b c d q, in its order
abbrev pub letters : List ℕ
letters = codes "0123456789AQPaSsTKRGHhIiJjpkugWwX"

unfoldable pub is_letter : ℕ → Bool
is_letter = one_of letters

-- the place of a letter among the 33, or 33 if it is none of them
unfoldable pub letter_place : ℕ → ℕ
letter_place = place_of letters

-- its place, if it is a letter of a reply
abbrev pub letter_found : ℕ → Option ℕ
letter_found b = cond (is_letter b) (Some (letter_place b)) None

unfoldable pub is_reply_channel : ℕ → Bool
is_reply_channel v = leb v 240 || eqb v 245 || eqb v 248 || eqb v 249 || eqb v 250 || eqb v 255

-- a run of 0 is good only with status Z
unfoldable pub least_run : ℕ → ℕ
least_run status = cond (is_z status) 0 1

-- ---- the parts from the bib on

pub record Tail : Type 0 where
  pub bib : ℕ
  pub group : ℕ
  pub run : ℕ
  pub physical : ℕ
  pub channel : ℕ
  pub information : ℕ
  pub times : Times

-- the layout from the bib on, by the least run, the field of the physical channel, the rule for the letter, and the kind of time and date for each letter
unfoldable pub from_bib : ℕ → Field ℕ → (ℕ → Bool) → (ℕ → TimingKind) → Layout Tail
from_bib least physical_channel legal kind =
    field 12 (number_to 5 59999) (λ t. t.bib) λ bib.
    field 17 (number_to 3 199) (λ t. t.group) λ group.
    field 20 (number_by 3 2 (between least 250)) (λ t. t.run) λ run.
    field 23 physical_channel (λ t. t.physical) λ physical.
    -- logical channel
    field 26 (number_by 3 2 is_reply_channel) (λ t. t.channel) λ channel.
    field 29 (letter legal) (λ t. t.information) λ information.
    within (λ t. t.times)
    (λ times. record { bib = bib; group = group; run = run; physical = physical; channel = channel; information = information; times = times })
    (timed (kind information))

-- ---- the whole reply

abbrev pub tail_of : StaticReply → Tail
tail_of r =
    record { bib = r.head.bib; group = r.head.group; run = r.head.run; physical = r.head.physical; channel = r.head.channel; information = r.head.information; times = record { timing = r.timing; raw_time = r.raw_time; raw_date = r.raw_date; spare = r.spare } }

-- a reply from address, program, mode, status, requester and number, and the tail
abbrev pub with_tail : ℕ → ℕ → ℕ → ℕ → ℕ → ℕ → Tail → StaticReply
with_tail address program mode status requester n t =
    record {
      head = record { address = address; program = program; mode = mode; status = status; requester = requester; number = n; bib = t.bib; group = t.group; run = t.run; physical = t.physical; channel = t.channel; information = t.information };
      timing = t.times.timing;
      raw_time = t.times.raw_time;
      raw_date = t.times.raw_date;
      spare = t.times.spare;
    }

unfoldable pub reply_fields : Layout StaticReply
reply_fields =
    field 2 (letter is_address) (λ r. r.head.address) λ address.
    field 3 (letter is_raw) (λ r. r.head.program) λ program.
    field 4 (letter is_raw) (λ r. r.head.mode) λ mode.
    field 5 (letter is_status) (λ r. r.head.status) λ status.
    field 6 (letter is_requester) (λ r. r.head.requester) λ requester.
    field 7 (number_to 5 99999) (λ r. r.head.number) λ n.
    within tail_of (with_tail address program mode status requester n)
    (from_bib (least_run status) (number_to 3 999) is_letter (timing_kind status))

abbrev pub reply : Kind StaticReply
reply = record { lead = 18; size = 51; fields = reply_fields }

-- a record whose arrays have their lengths
pub record Whole (r : StaticReply) : Type 0 where
  pub time : length r.raw_time ≡ 10
  pub date : length r.raw_date ≡ 8
  pub spare : length r.spare ≡ 2

-- ---- what the reader answers

-- a record of zeros, which stands beside a refusal where an answer has room for a record
abbrev pub zero_head : ReplyHead
zero_head = record { address = 0; program = 0; mode = 0; status = 0; requester = 0; number = 0; bib = 0; group = 0; run = 0; physical = 0; channel = 0; information = 0 }

abbrev pub zero_reply : StaticReply
zero_reply =
    record { head = zero_head; timing = Raw; raw_time = replicate 10 0; raw_date = replicate 8 0; spare = replicate 2 0 }

abbrev pub or_zero : Told StaticReply → StaticReply
or_zero (gives r) = r
or_zero (refuses f) = zero_reply

-- what is promised of reading s: the answer means `read reply` of s
abbrev pub ReadAs : List ℕ → Result StaticReply ReadRefusal → Type 0
ReadAs s a = read_told a ≡ read reply s

-- ---- what the check answers: the same refusals as the reader, and of a good reply only status, address, requester and number

abbrev pub label_of : StaticReply → ReplyLabel
label_of r = record { status = r.head.status; address = r.head.address; requester = r.head.requester; number = r.head.number }

abbrev pub labelled : Told StaticReply → Told ReplyLabel
labelled (gives r) = gives (label_of r)
labelled (refuses f) = refuses f

abbrev pub check_told : Result ReplyLabel ReadRefusal → Told ReplyLabel
check_told = read_told

-- what is promised of checking s
abbrev pub CheckedAs : List ℕ → Result ReplyLabel ReadRefusal → Type 0
CheckedAs s a = check_told a ≡ labelled (read reply s)

-- ---- the check alone

-- whether the reader gives a record
abbrev pub is_good : Told StaticReply → Bool
is_good (gives r) = true
is_good (refuses f) = false

-- the check says yes exactly of the frames of which the reader gives a record
abbrev pub GoodIsRead : Type 0
GoodIsRead = (s : List ℕ) → (is_good (read reply s) ≡ true) ↔ ((r : StaticReply) × (read reply s ≡ gives r))

-- the low half of the byte at a place; of a digit it is the value
abbrev pub digit_at : List ℕ → ℕ → ℕ
digit_at s at = get_or s at 0 % 16

-- the label by the bytes alone, whether the frame is good or not
unfoldable pub label_at : List ℕ → ReplyLabel
label_at s =
    record {
      status = get_or s 5 0;
      address = get_or s 2 0;
      requester = get_or s 6 0;
      number = digit_at s 7 * 10000 + digit_at s 8 * 1000 + digit_at s 9 * 100 + digit_at s 10 * 10 + digit_at s 11;
    }

-- of a good reply it is the label that the reader gives
abbrev pub LabelIsRead : Type 0
LabelIsRead = (s : List ℕ) (r : StaticReply) → read reply s ≡ gives r → label_at s ≡ label_of r
