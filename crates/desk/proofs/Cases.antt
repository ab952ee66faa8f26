-- The worked calls, each by computation. Assumes nothing.
use mathlib.Core.Path.{refl}
use Rattle.digits.specs.Digits.{number_at, number_from}
use Rattle.digits.specs.Text.{one_of, place_of}
use Rattle.frames.specs.Rules.{between, up_to, is_address, is_raw, is_requester, is_output}
use Rattle.frames.specs.Status.{is_status, status_place}
use Rattle.frames.specs.Shape.{all_from}
use Rattle.frames.specs.Classes.{digit_from, first_off}
use Rattle.frames.specs.Layout.{fields_of}
use Rattle.frames.specs.Kind.{head_told, read}
use Rattle.frames.specs.Timing.{timing_kind, timed}
use Rattle.frames.specs.Request as Q
use Rattle.frames.specs.Reply as P
use Rattle.desk.specs.Below.{all_below, count_below, first}
use Rattle.desk.specs.Key.{same_key, is_key}
use Rattle.desk.specs.Hearing.{heard, ends, in_place}
use Rattle.desk.specs.Step.{step}
use Rattle.desk.specs.Seats.{keyed, seat_with, lowest_clear}
use Rattle.desk.specs.Memory.{capacity_of, records_of}
use Rattle.desk.specs.Tally.{held_of, entry_right, tally_right}
use Rattle.desk.specs.Desk.{is_zero, mark_names, last_ends, is_desk}
use Rattle.desk.specs.Calls.{key_tried, request_tried, open_tried, opens, seat_tried, label_tried, reply_tried, replies, seats_in_use}
use Rattle.desk.specs.Events.{run, answers}
use Rattle.desk.specs.Mix.{replies_to}
use Rattle.desk.specs.Cases.{Worked, MixWorked, AddressMixWorked, OrdersWorked}
use Rattle.desk.specs.DeskCases.{DeskWorked}

pub worked : Worked
unfolding number_at number_from one_of between up_to is_address is_raw is_requester is_output all_from fields_of head_told read timing_kind timed Q.is_information Q.is_request_channel Q.request_fields is_status P.is_letter P.is_reply_channel P.least_run P.from_bib P.reply_fields all_below count_below first same_key is_key heard ends in_place keyed seat_with lowest_clear capacity_of is_zero mark_names last_ends place_of P.letter_place status_place held_of entry_right tally_right is_desk key_tried request_tried open_tried opens step seat_tried label_tried reply_tried replies run seats_in_use records_of first_off digit_from
worked = record {
  no_desk_opens = refl;
  no_desk_replies = refl;
  no_answer_due = refl;
  opened = refl;
  in_use = refl;
  other_address = refl;
  no_address = refl;
  run_spoiled = refl;
  bib_spoiled = refl;
  number_spoiled = refl;
  next_seat = refl;
  no_seat = refl;
  stray = refl;
  stray_by_thousand = refl;
  stray_by_address = refl;
  reply_without_address = refl;
  taken = refl;
  taken_twice = refl;
  ended = refl;
  ended_by_Z = refl;
  out_of_place = refl;
  full = refl;
  open_numbers = refl;
  reply_numbers = refl;
  desk_before_frame = refl;
  frame_before_q = refl;
  q_before_in_use = refl;
  in_use_before_no_seat = refl;
  desk_before_reply = refl;
  stray_before_full = refl;
  ended_before_out_of_place = refl;
  ended_before_full = refl;
  out_of_place_before_full = refl;
  cells_256 = refl;
  no_more_cells = refl;
  a_byte_less = refl;
  a_mark_less = refl;
  two_seats = refl;
  all_seats_case = refl;
}

pub mix_worked : MixWorked
unfolding number_at number_from one_of between up_to is_address is_raw is_requester is_output all_from fields_of head_told read timing_kind timed Q.is_information Q.is_request_channel Q.request_fields is_status P.is_letter P.is_reply_channel P.least_run P.from_bib P.reply_fields all_below count_below first same_key is_key heard ends in_place keyed seat_with lowest_clear capacity_of is_zero mark_names last_ends place_of P.letter_place status_place held_of entry_right tally_right is_desk key_tried request_tried open_tried opens step seat_tried label_tried reply_tried replies run answers replies_to records_of first_off digit_from
mix_worked = record { answers = refl; marks = refl; count = refl; bits = refl; seats = refl; held_by_1 = refl; held_by_A = refl; held_by_z = refl; tally = refl; bound = refl }

pub address_mix_worked : AddressMixWorked
unfolding number_at number_from one_of between up_to is_address is_raw is_requester is_output all_from fields_of head_told read timing_kind timed Q.is_information Q.is_request_channel Q.request_fields is_status P.is_letter P.is_reply_channel P.least_run P.from_bib P.reply_fields all_below count_below first same_key is_key heard ends in_place keyed seat_with lowest_clear capacity_of is_zero mark_names last_ends place_of P.letter_place status_place held_of entry_right tally_right is_desk key_tried request_tried open_tried opens step seat_tried label_tried reply_tried replies run answers replies_to records_of first_off digit_from
address_mix_worked = record { answers = refl; marks = refl; count = refl; seats = refl; held_at_space = refl; held_at_0 = refl; held_at_9 = refl; bound = refl }

pub orders_worked : OrdersWorked
unfolding number_at number_from one_of between up_to is_address is_raw is_requester is_output all_from fields_of head_told read timing_kind timed Q.is_information Q.is_request_channel Q.request_fields is_status P.is_letter P.is_reply_channel P.least_run P.from_bib P.reply_fields all_below count_below first same_key is_key heard ends in_place keyed seat_with lowest_clear capacity_of is_zero mark_names last_ends place_of P.letter_place status_place held_of entry_right tally_right is_desk key_tried request_tried open_tried opens step seat_tried label_tried reply_tried replies run answers records_of first_off digit_from
orders_worked = record {
  marks_one_way = refl;
  marks_other_way = refl;
  one_cell_one_way = refl;
  one_cell_other_way = refl;
  openings_one_way = refl;
  openings_other_way = refl;
}

pub desk_worked : DeskWorked
unfolding number_at number_from one_of between up_to is_address is_raw is_requester is_output all_from fields_of head_told read timing_kind timed Q.is_information Q.is_request_channel Q.request_fields is_status P.is_letter P.is_reply_channel P.least_run P.from_bib P.reply_fields all_below count_below first same_key is_key heard ends in_place keyed seat_with lowest_clear capacity_of is_zero mark_names last_ends place_of P.letter_place status_place held_of entry_right tally_right is_desk key_tried request_tried open_tried opens step seat_tried label_tried reply_tried replies records_of first_off digit_from
desk_worked = record {
  a_desk = refl;
  gap = refl;
  gap_opened = refl;
  fifteen = refl;
  seventeen = refl;
  bit_16 = refl;
  key_B = refl;
  key_at_9 = refl;
  key_at_none = refl;
  key_at_45 = refl;
  key_at_58 = refl;
  key_of_64 = refl;
  key_1000 = refl;
  same_key_case = refl;
  same_but_address = refl;
  same_number = refl;
  address_left = refl;
  requester_left = refl;
  number_left = refl;
  held_left = refl;
  ended_left = refl;
  full = refl;
  no_mark = refl;
  mark_of_unused = refl;
  mark_16 = refl;
  damaged = refl;
  of_another = refl;
  of_another_address = refl;
  of_another_number = refl;
  held_less = refl;
  held_more = refl;
  e_first = refl;
  e_twice = refl;
  z_first = refl;
  z_last = refl;
  z_alone = refl;
  goes_on = refl;
  not_ended = refl;
  ended_by_2 = refl;
  ended_early = refl;
  one_more_case = refl;
  one_less = refl;
  other_status = refl;
  other_letter = refl;
  one_beside = refl;
  no_tally = refl;
  rows_32 = refl;
  rows_34 = refl;
  row_of_two = refl;
  row_of_four = refl;
  stale = refl;
  stale_counted = refl;
}
