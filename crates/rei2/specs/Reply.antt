-- The reply's record in C: its timing is a code and numbers.
use Rattle.std.specs.Prelude.{ℕ, Bool, false, cond, not, ◌&&◌, List, ◌≡◌, length, eqb, ℤ, pos, negsuc}
use Rattle.digits.specs.Told.{Told}
use Rattle.frames.specs.declared.timing.Timing.{Timing}
use Rattle.frames.specs.declared.timing.Timing.TheVariants.{Clock, Net, Raw}
use Rattle.frames.specs.declared.reply.StaticReply.{StaticReply}
use Rattle.frames.specs.Kind.{wrong_in, frame_of, write_tried, output_after}
use Rattle.frames.specs.Reply.{reply, or_zero}
use Rattle.rei2.specs.declared.reply.TimingNumbers.{TimingNumbers}
use Rattle.rei2.specs.declared.reply.ReplyRecord.{ReplyRecord}
use Rattle.rei2.specs.declared.reply.ReplyAnswer.{ReplyAnswer}
use Rattle.rei2.specs.declared.request.WrittenAnswer.{WrittenAnswer}
use Rattle.rei2.specs.Numbers.{number_in, offset_in, spoiled_in}
use Rattle.rei2.specs.Frames.{written_answer}

-- ---- a timing in numbers: the code of its kind, and 0 for each number that the kind does not use

abbrev pub RAW : ℕ
RAW = 0

abbrev pub CLOCK : ℕ
CLOCK = 1

abbrev pub NET : ℕ
NET = 2

abbrev pub numbers_of : Timing → TimingNumbers
numbers_of (Clock ticks day month year) = record { kind = CLOCK; ticks = ticks; day = day; month = month; year = year; net = pos 0 }
numbers_of (Net value) = record { kind = NET; ticks = 0; day = 0; month = 0; year = 0; net = value }
numbers_of Raw = record { kind = RAW; ticks = 0; day = 0; month = 0; year = 0; net = pos 0 }

-- ---- and back: the code says which timing it is

-- a timing for a code that is none of these: every kind refuses it, with RECORD at the time's offset
abbrev pub no_time : Timing
no_time = Clock 4294967295 0 0 0

unfoldable pub timing_of : TimingNumbers → Timing
timing_of n =
    cond (eqb n.kind RAW) Raw
    (cond (eqb n.kind CLOCK) (Clock n.ticks n.day n.month n.year)
    (cond (eqb n.kind NET) (Net n.net) no_time))

-- ---- the numbers that a timing does not use

abbrev pub is_nothing : ℤ → Bool
is_nothing (pos n) = eqb n 0
is_nothing (negsuc n) = false

abbrev pub no_date : TimingNumbers → Bool
no_date n = eqb n.ticks 0 && eqb n.day 0 && eqb n.month 0 && eqb n.year 0

-- a number that is not used is not 0: a clock timing has no net value, a net timing no ticks and no date, a raw one neither
unfoldable pub left_over : TimingNumbers → Bool
left_over n = not (cond (eqb n.kind CLOCK) (is_nothing n.net) (cond (eqb n.kind NET) (no_date n) (is_nothing n.net && no_date n)))

-- ---- the record

abbrev pub shown : StaticReply → ReplyRecord
shown r =
    record { head = r.head; timing = numbers_of r.timing; raw_time = r.raw_time; raw_date = r.raw_date; spare = r.spare }

abbrev pub record_of : ReplyRecord → StaticReply
record_of r =
    record { head = r.head; timing = timing_of r.timing; raw_time = r.raw_time; raw_date = r.raw_date; spare = r.spare }

-- ---- reading

-- with a refusal comes the record of zeros
abbrev pub reply_answer : Told StaticReply → ReplyAnswer
reply_answer t = record { refusal = number_in t; offset = offset_in t; spoiled = spoiled_in t; reply = shown (or_zero t) }

-- ---- writing

-- the offset at which a number left over is reported: that of the CR
abbrev pub left_at : ℕ
left_at = 50

-- the offset of the record's own first wrong part; if there is none, that of a number left over; 0 if the record is well formed
unfoldable pub wrong_in_c : ReplyRecord → ℕ
wrong_in_c c = cond (eqb (wrong_in reply (record_of c)) 0) (cond (left_over c.timing) left_at 0) (wrong_in reply (record_of c))

-- the answer of writing it to out
abbrev pub tried_in_c : ReplyRecord → List ℕ → Told (Unit {0})
tried_in_c c out = write_tried (wrong_in_c c) reply.size (length out)

-- what is promised of writing c to out: the answer, and every byte of the output
pub record WroteReplyLent (c : ReplyRecord) (out : List ℕ) (answer : WrittenAnswer) (out' : List ℕ) : Type 0 where
  pub told : answer ≡ written_answer reply.size (tried_in_c c out)
  pub bytes : out' ≡ output_after (tried_in_c c out) (frame_of reply (record_of c)) reply.size out

-- ---- nothing is lost between the record and its form in C

pub record RecordsMatch : Type 0 where
  pub there_and_back : (r : StaticReply) → record_of (shown r) ≡ r
  -- a record, shown in numbers, is as wrong as it was
  pub same_wrong : (r : StaticReply) → wrong_in_c (shown r) ≡ wrong_in reply r
  -- every well formed record of C comes from a record
  pub back_and_there : (c : ReplyRecord) → wrong_in_c c ≡ 0 → shown (record_of c) ≡ c
