-- A reply as the code reads, checks and stores it.
use Rattle.std.specs.Prelude.{ℕ, List, [], ◌∷◌, ◌++◌, get_or}
use Rattle.digits.specs.Digits.{digits, number_at}
use Rattle.frames.specs.declared.reply.ReplyHead.{ReplyHead}
use Rattle.frames.specs.declared.reply.StaticReply.{StaticReply}
use Rattle.frames.specs.declared.timing.TimingKind.{TimingKind}
use Rattle.frames.specs.declared.timing.RawBytes.{RawBytes}
use Rattle.frames.specs.declared.timing.Seen.{Seen}
use Rattle.frames.specs.Rules.{between, up_to, is_raw, is_requester}
use Rattle.frames.specs.Status.{is_status}
use Rattle.frames.specs.Shape.{bytes_of}
use Rattle.frames.specs.Layout.{wrong_unless}
use Rattle.frames.specs.Kind.{letter_r, CR}
use Rattle.frames.specs.Timing.{timing_kind}
use Rattle.frames.specs.Reply.{is_letter, is_reply_channel, least_run}
use Rattle.frames.specs.inside.Held.{or_none}
use Rattle.frames.specs.inside.Timing.{seen_of, timing_text}
use Rattle.frames.specs.inside.Spoiled.{reply_byte}

-- the parts before time and date, as they are in a frame
abbrev pub head_at : List ℕ → ReplyHead
head_at s =
    record { address = get_or s 2 0; program = get_or s 3 0; mode = get_or s 4 0; status = get_or s 5 0; requester = get_or s 6 0; number = or_none (number_at s 7 5); bib = or_none (number_at s 12 5); group = or_none (number_at s 17 3); run = or_none (number_at s 20 3); physical = or_none (number_at s 23 3); channel = or_none (number_at s 26 3); information = get_or s 29 0 }

abbrev pub raw_of : StaticReply → RawBytes
raw_of r = record { time = r.raw_time; date = r.raw_date }

abbrev pub reply_of : ReplyHead → Seen → List ℕ → StaticReply
reply_of h seen spare = record { head = h; timing = seen.timing; raw_time = seen.raw.time; raw_date = seen.raw.date; spare = spare }

unfoldable pub head_wrong : ReplyHead → ℕ → ℕ
head_wrong h rest =
    wrong_unless (is_raw h.program) 3 (wrong_unless (is_raw h.mode) 4 (wrong_unless (is_status h.status) 5 (wrong_unless (is_requester h.requester) 6
    (wrong_unless (up_to 99999 h.number) 7 (wrong_unless (up_to 59999 h.bib) 12 (wrong_unless (up_to 199 h.group) 17
    (wrong_unless (between (least_run h.status) 250 h.run) 20 (wrong_unless (up_to 999 h.physical) 23 (wrong_unless (is_reply_channel h.channel) 26
    (wrong_unless (is_letter h.information) 29 rest))))))))))

abbrev pub kind_at : List ℕ → TimingKind
kind_at s = timing_kind (get_or s 5 0) (get_or s 29 0)

-- what the fields of a frame hold, wrong or not, and the offsets of the first wrong one and of the byte that spoils it
abbrev pub seen_in : List ℕ → Seen
seen_in s = seen_of (kind_at s) s

abbrev pub reply_at : List ℕ → StaticReply
reply_at s = reply_of (head_at s) (seen_in s) (bytes_of s 48 2)

abbrev pub wrong_at : List ℕ → ℕ
wrong_at s = head_wrong (head_at s) (seen_in s).wrong

abbrev pub spoiled_byte : List ℕ → ℕ
spoiled_byte s = reply_byte (kind_at s) s (wrong_at s)

abbrev pub head_text : ReplyHead → List ℕ
head_text h =
    18 ∷ letter_r ∷ h.address ∷ h.program ∷ h.mode ∷ h.status ∷ h.requester ∷ (digits 5 h.number ++ (digits 5 h.bib ++ (digits 3 h.group ++ (digits 3 h.run
    ++ (digits 3 h.physical ++ (digits 3 h.channel ++ (h.information ∷ [])))))))

unfoldable pub reply_text : StaticReply → List ℕ
reply_text r = head_text r.head ++ (timing_text r.timing r.raw_time r.raw_date ++ (bytes_of r.spare 0 2 ++ (CR ∷ [])))
