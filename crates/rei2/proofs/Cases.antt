-- The worked answers, each by computation. Assumes nothing.
use Prim.Native.Nat.{ℕ}
use mathlib.Core.Bool.{cond}
use mathlib.Core.List.{List, [], ◌∷◌, ◌++◌}
use mathlib.Core.Path.{◌≡◌, refl, ap, ◌∙◌}
use Rattle.digits.specs.Refusals.{DESK}
use Rattle.digits.specs.Told.{gives, tried}
use Rattle.digits.specs.Digits.{digits, number_at, number_from}
use Rattle.digits.specs.Text.{one_of, place_of}
use Rattle.times.specs.Clock.{ticks_of}
use Rattle.times.specs.Day.{leap, month_length, real_day}
use Rattle.times.specs.Net.{is_net}
use Rattle.times.specs.Running.{in_range, running_time}
use Rattle.frames.specs.Rules.{between, up_to, is_address, is_raw, is_requester, is_output}
use Rattle.frames.specs.Shape.{all_from}
use Rattle.frames.specs.Classes.{digit_from, first_off}
use Rattle.frames.specs.Layout.{fields_of, record_wrong, write}
use Rattle.frames.specs.Kind.{head_told, read, wrong_in, write_tried, frame_of}
use Rattle.frames.specs.Status.{is_status, status_place}
use Rattle.frames.specs.Timing.{timing_kind, is_sign, timed}
use Rattle.frames.specs.Request as Q
use Rattle.frames.specs.declared.reply.StaticReply.{StaticReply}
use Rattle.frames.specs.Reply as P
use Rattle.frames.specs.Reply.{reply}
use Rattle.frames.specs.Dynamic as D
use Rattle.frames.specs.Cases as F
use Rattle.finder.specs.Leads.{is_lead}
use Rattle.finder.specs.Pieces.{Piece, whole, cut, walk, pieces_from, pieces, found_from}
use Rattle.finder.proofs.Taken.{taken_are_found}
use Rattle.desk.specs.Below.{all_below, count_below, first}
use Rattle.desk.specs.Key.{same_key, is_key}
use Rattle.desk.specs.Hearing.{heard, ends, in_place}
use Rattle.desk.specs.Step.{step}
use Rattle.desk.specs.Seats.{keyed, seat_with, lowest_clear}
use Rattle.desk.specs.Memory.{Memory, capacity_of, records_of}
use Rattle.desk.specs.Tally.{held_of, entry_right, tally_right, looks}
use Rattle.desk.specs.Desk.{is_zero, mark_names, last_ends, is_desk}
use Rattle.desk.specs.Calls.{key_tried, request_tried, open_tried, opens, seat_tried, label_tried, reply_tried, replies, resets, next_held}
use Rattle.desk.specs.Capture.{captures, counts_of, meets, fates, after_all, how_many}
use Rattle.desk.specs.Events.{run}
use Rattle.desk.specs.Cases.{asking, replying, bare, asked}
use Rattle.text.specs.Decimal.{width_within, width, decimal}
use Rattle.listing.specs.Text as T
use Rattle.listing.specs.Sizes.{longest_row, longest_end}
use Rattle.listing.specs.Listing.{seats_text, list_text, list_of}
use Rattle.rei2.specs.declared.lent.CapturedAnswer.{CapturedAnswer}
use Rattle.rei2.specs.Lent.{state_in, capture_answer, captured_of}
use Rattle.rei2.specs.Reply.{timing_of, left_over, wrong_in_c}
use Rattle.rei2.specs.Names.{names, name_of}
use Rattle.rei2.specs.Cases.{FramesFound, CellsHeld, DeskCalls, CapturesTaken, FramesRead, FramesWritten, TimingNumbered, OtherCalls, NamesWritten, Looked, Lends, Worked}

frames_found : FramesFound
unfolding one_of is_lead walk pieces_from found_from
frames_found = record { nothing = refl; no_lead = refl; past_the_end = refl; one = refl; no_more = refl; cut_by_end = refl; cut_by_lead = refl; next_one = refl }

cells_held : CellsHeld
unfolding first capacity_of next_held
cells_held = record { first = refl; later = refl; no_more = refl; not_held = refl }

desk_calls : DeskCalls
unfolding number_at number_from one_of between up_to is_address is_raw is_requester is_output all_from fields_of head_told read timing_kind timed Q.is_information Q.is_request_channel Q.request_fields is_status P.is_letter P.is_reply_channel P.least_run P.from_bib P.reply_fields all_below count_below first same_key is_key heard ends in_place keyed seat_with lowest_clear capacity_of is_zero mark_names last_ends place_of P.letter_place status_place held_of entry_right tally_right is_desk key_tried request_tried open_tried opens step seat_tried label_tried reply_tried replies resets run first_off digit_from
desk_calls = record {
  emptied = refl;
  not_emptied = refl;
  opened = refl;
  opened_next = refl;
  no_desk_opens = refl;
  kind = refl;
  length = refl;
  end = refl;
  address = refl;
  field = refl;
  field_spoiled = refl;
  no_answer_due = refl;
  in_use = refl;
  no_seat = refl;
  no_desk_replies = refl;
  reply_field = refl;
  reply_spoiled = refl;
  other_address = refl;
  stray_by_address = refl;
  stray = refl;
  taken = refl;
  ended = refl;
  out_of_place = refl;
  full = refl;
}

-- ---- captures: first their frames, then what becomes of them

captured_by : Memory → List Piece → CapturedAnswer
captured_by m ps =
    capture_answer (state_in (cond (is_desk m) (after_all m ps) m)) (tried (is_desk m) DESK (gives (counts_of (fates m ps))))

captured_by_law : (m : Memory) (s : List ℕ) (ps : List Piece) (a : CapturedAnswer) → pieces s ≡ ps → captured_by m ps ≡ a → captured_of (captures m s) ≡ a
unfolding captured_by
captured_by_law m s ps a e h = ap (captured_by m) e ∙ h

good_reply : (r : StaticReply) × (read reply (replying "E") ≡ gives r)
unfolding number_at number_from one_of between up_to is_address is_raw is_requester all_from fields_of head_told read timing_kind timed is_status P.is_letter P.is_reply_channel P.least_run P.from_bib P.reply_fields first_off digit_from
good_reply = (_, refl)

no_more : pieces_from (replying "E") 51 ≡ []
unfolding walk pieces_from
no_more = refl

-- found whole, as every good frame is
one_reply : pieces (replying "E") ≡ whole 0 (replying "E") ∷ []
one_reply = taken_are_found.1.0 (replying "E") (replying "E") [] 0 good_reply.0 good_reply.1 refl ∙ ap (λ (ps : List Piece). whole 0 (replying "E") ∷ ps) no_more

one_run : pieces (F.running "A" "00041" "00001") ≡ whole 0 (F.running "A" "00041" "00001") ∷ []
unfolding one_of is_lead walk pieces_from
one_run = refl

request_and_leads : pieces (asking "1" "P" ++ (17 ∷ 18 ∷ 19 ∷ [])) ≡ whole 0 (asking "1" "P") ∷ cut 24 (17 ∷ []) ∷ cut 25 (18 ∷ []) ∷ cut 26 (19 ∷ []) ∷ []
unfolding one_of is_lead walk pieces_from
request_and_leads = refl

captures_taken : CapturesTaken
unfolding captured_by number_at number_from one_of between up_to is_address is_raw is_requester is_output all_from fields_of head_told read timing_kind timed Q.is_information Q.is_request_channel Q.request_fields is_status P.is_letter P.is_reply_channel P.least_run P.from_bib P.reply_fields D.is_order D.is_dynamic_channel D.least_period D.dynamic_fields ticks_of all_below count_below first same_key is_key heard ends in_place keyed seat_with lowest_clear capacity_of is_zero mark_names last_ends place_of P.letter_place status_place held_of entry_right tally_right is_desk key_tried request_tried open_tried opens step seat_tried label_tried reply_tried replies meets fates after_all how_many first_off digit_from
captures_taken = record {
  asked_and_cut = captured_by_law bare _ _ _ request_and_leads refl;
  replied = captured_by_law asked _ _ _ one_reply refl;
  ran = captured_by_law asked _ _ _ one_run refl;
  no_desk_case = refl;
}

frames_read : FramesRead
unfolding number_at number_from one_of ticks_of leap month_length real_day is_net between up_to is_address is_raw is_requester is_output all_from fields_of head_told read timing_kind is_sign timed Q.is_information Q.is_request_channel Q.request_fields is_status P.is_letter P.is_reply_channel P.least_run P.from_bib P.reply_fields D.is_order D.is_dynamic_channel D.least_period D.dynamic_fields first_off digit_from
frames_read = record {
  request_read = refl;
  request_refused = refl;
  request_spoiled = refl;
  reply_spoiled = refl;
  dynamic_spoiled = refl;
  request_address = refl;
  reply_read = refl;
  reply_refused_holds = refl;
  reply_address = refl;
  dynamic_read = refl;
  dynamic_address = refl;
  dynamic_refused = refl;
}

frames_written : FramesWritten
unfolding one_of leap month_length real_day between up_to is_address is_raw is_requester is_output all_from record_wrong wrong_in write_tried timing_kind timed Q.is_information Q.is_request_channel Q.request_fields is_status P.is_letter P.is_reply_channel P.least_run P.from_bib P.reply_fields timing_of left_over wrong_in_c frame_of write digits
frames_written = record {
  bytes = λ _ _ w. w.bytes;
  no_bytes = λ _ _ w. w.bytes;
  written = λ _ _ w. w.told;
  no_record = λ _ _ w. w.told;
  no_address = λ _ _ w. w.told;
  no_room = λ _ _ w. w.told;
  reply_written = λ _ _ w. w.told;
  reply_no_address = λ _ _ w. w.told;
  left_over_case = λ _ _ w. w.told;
  reply_room = λ _ _ w. w.told;
}

timing_numbered : TimingNumbered
unfolding one_of leap month_length real_day is_net between up_to is_address is_raw is_requester all_from record_wrong wrong_in timing_kind is_sign timed is_status P.is_letter P.is_reply_channel P.least_run P.from_bib P.reply_fields timing_of left_over wrong_in_c
timing_numbered = record {
  raw = refl;
  clock = refl;
  net = refl;
  clock_net = refl;
  clock_net_minus = refl;
  net_ticks = refl;
  net_day = refl;
  net_month = refl;
  net_year = refl;
  raw_day = refl;
  raw_net = refl;
  raw_alone = refl;
  address_first = refl;
  bib_first = refl;
  time_first = refl;
  date_first = refl;
  other_kind = refl;
  no_kind = refl;
}

other_calls : OtherCalls
unfolding in_range running_time digits width_within width decimal records_of pieces_from walk fates after_all how_many seats_text list_text list_of T.end_text
other_calls = record { running = refl; not_running = refl; list = refl; no_room = refl }

names_written : NamesWritten
unfolding names name_of
names_written = record {
  spared = λ _ _ w. w.bytes;
  written = λ _ _ w. w.told;
  bytes = λ _ _ w. w.bytes;
  no_room = λ _ _ w. w.told;
  no_bytes = λ _ _ w. w.bytes;
}

looked : Looked
unfolding one_of place_of is_status status_place P.is_letter P.letter_place looks
looked = record { first = refl; middle = refl; last = refl; request_letter = refl; lower_status = refl; no_letter = refl }

lends : Lends
unfolding width_within width T.columns longest_row longest_end
lends = record { limits_are = refl }

pub worked : Worked
worked = record {
  frames_found = frames_found;
  cells_held = cells_held;
  desk_calls = desk_calls;
  captures_taken = captures_taken;
  frames_read = frames_read;
  frames_written = frames_written;
  timing_numbered = timing_numbered;
  other_calls = other_calls;
  names_written = names_written;
  looked = looked;
  lends = lends;
}
