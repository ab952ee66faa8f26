-- The worked cases, each by computation. Assumes nothing.
use mathlib.Core.Path.{refl}
use Rattle.digits.specs.Digits.{digits, number_at, number_from}
use Rattle.digits.specs.Text.{one_of, place_of}
use Rattle.times.specs.Clock.{ticks_of, clock_number}
use Rattle.times.specs.Day.{leap, month_length, real_day}
use Rattle.times.specs.Net.{is_net}
use Rattle.times.specs.Running.{in_range, running_time}
use Rattle.frames.specs.Rules.{between, up_to, is_address, is_raw, is_requester, is_output}
use Rattle.frames.specs.Layout.{fields_of, record_wrong, write}
use Rattle.frames.specs.Kind.{head_told, read, wrong_in, frame_of, write_tried}
use Rattle.frames.specs.Status.{is_status, status_place}
use Rattle.frames.specs.Shape.{all_from}
use Rattle.frames.specs.Classes.{digit_from, first_off}
use Rattle.frames.specs.Request as Q
use Rattle.frames.specs.Timing.{timing_kind, is_sign, timed}
use Rattle.frames.specs.Reply as P
use Rattle.frames.specs.Dynamic as D
use Rattle.frames.specs.Cases.{Worked}
use Rattle.frames.specs.RuleCases.{RulesWorked}
use Rattle.frames.specs.RequestCases.{RequestWorked}
use Rattle.frames.specs.ReplyCases.{ReplyWorked}
use Rattle.frames.specs.DynamicCases.{DynamicWorked}
use Rattle.frames.specs.AddressCases.{AddressWorked}
use Rattle.frames.specs.NetCases.{NetWorked}
use Rattle.frames.specs.SpoiledCases.{SpoiledWorked}

pub worked : Worked
unfolding digits clock_number write frame_of number_at number_from one_of ticks_of leap month_length real_day is_net in_range running_time between up_to is_address is_raw is_requester is_output all_from fields_of record_wrong head_told read wrong_in write_tried timing_kind is_sign timed Q.is_information Q.is_request_channel Q.request_fields is_status P.is_letter P.is_reply_channel P.least_run P.from_bib P.reply_fields D.is_order D.is_dynamic_channel D.least_period D.dynamic_fields first_off digit_from
worked = record {
  last_tick_case = refl;
  last_second = refl;
  hour_24 = refl;
  net_hour_24 = refl;
  net_plus = refl;
  net_minus = refl;
  net_second = refl;
  leap_day = refl;
  no_leap_day = refl;
  run_250 = (_, refl);
  run_251 = refl;
  asked_250 = refl;
  replied_250 = (_, refl);
  asked_L = (_, refl);
  replied_L = refl;
  period_a = (_, refl);
  period_A = refl;
  period_B = refl;
  empty_request = refl;
  empty_reply = refl;
  empty_dynamic = refl;
  lead_alone = refl;
  lead_to_reply = refl;
  lead_to_dynamic = refl;
  bracket = refl;
  lowest = refl;
  bib_59999 = (_, refl);
  bib_60000 = refl;
  running_60000 = (_, refl);
  line_feed = refl;
  address_minus = refl;
  address_S = refl;
  record_251 = refl;
  room_23 = refl;
  room_24 = refl;
  read_numbers = refl;
  write_numbers = refl;
  end_before_address = refl;
  end_before_byte_2 = refl;
  address_before_field = refl;
  first_field = refl;
  record_before_room = refl;
  time_of_none = refl;
}

pub request_worked : RequestWorked
unfolding digits number_at number_from one_of between up_to is_address is_requester is_output all_from fields_of record_wrong write head_told read wrong_in frame_of Q.is_information Q.is_request_channel Q.request_fields first_off digit_from
request_worked = record {
  spelled = refl;
  written = refl;
  offsets = refl;
  requester_0 = (_, refl);
  requester_9 = (_, refl);
  requester_A = (_, refl);
  requester_Z = (_, refl);
  requester_a = (_, refl);
  requester_z = (_, refl);
  before_0 = refl;
  after_9 = refl;
  before_A = refl;
  after_Z = refl;
  before_a = refl;
  after_z = refl;
  bib_59999 = (_, refl);
  bib_60000 = refl;
  letter_q_case = (_, refl);
  letter_e = refl;
  channel_240 = (_, refl);
  channel_241 = refl;
  channel_251 = (_, refl);
  run_250 = (_, refl);
  run_251 = refl;
  group_199 = (_, refl);
  group_200 = refl;
  output_T = (_, refl);
  output_C = refl;
  wrong_address = refl;
  wrong_requester = refl;
  wrong_number = refl;
  wrong_bib = refl;
  wrong_information = refl;
  wrong_channel = refl;
  wrong_run = refl;
  wrong_group = refl;
  wrong_output = refl;
}

pub reply_worked : ReplyWorked
unfolding digits number_at number_from one_of between up_to is_address is_requester is_output all_from fields_of record_wrong write head_told read wrong_in frame_of ticks_of clock_number leap month_length real_day is_net is_raw timing_kind is_sign timed is_status P.is_letter P.is_reply_channel P.least_run P.from_bib P.reply_fields first_off digit_from
reply_worked = record {
  net = refl;
  clock = refl;
  raw = refl;
  net_written = refl;
  clock_written = refl;
  raw_written = refl;
  label = refl;
  label_refused = λ f. refl;
  zeros = refl;
  net_offsets = refl;
  clock_offsets = refl;
  raw_offsets = refl;
  status_R = (_, refl);
  status_A = refl;
  requester_a = (_, refl);
  after_Z = refl;
  bib_59999 = (_, refl);
  bib_60000 = refl;
  group_199 = (_, refl);
  group_200 = refl;
  run_0 = refl;
  run_1 = (_, refl);
  run_250 = (_, refl);
  run_251 = refl;
  channel_240 = (_, refl);
  channel_241 = refl;
  channel_245 = (_, refl);
  channel_251 = refl;
  letter_3 = (_, refl);
  letter_q_case = refl;
  minus_no_days = (_, refl);
  plus_no_days = (_, refl);
  minus_zero = refl;
  minus_one_tick = (_, refl);
  minus_one_day = (_, refl);
  plus_zero = (_, refl);
  wrong_address = refl;
  wrong_program = refl;
  wrong_mode = refl;
  wrong_status = refl;
  wrong_requester = refl;
  wrong_number = refl;
  wrong_bib = refl;
  wrong_group = refl;
  wrong_run = refl;
  wrong_physical = refl;
  wrong_channel = refl;
  wrong_letter = refl;
  net_for_clock = refl;
  net_for_raw = refl;
  raw_for_net = refl;
  clock_time = refl;
  clock_date = refl;
  net_date = refl;
  raw_time_case = refl;
  raw_date_case = refl;
  net_spare = refl;
  raw_spare = refl;
  net_left_over = refl;
  clock_left_over = refl;
}

pub dynamic_worked : DynamicWorked
unfolding digits number_at number_from one_of between up_to is_address is_requester is_output all_from fields_of record_wrong write head_told read wrong_in frame_of ticks_of clock_number D.is_order D.is_dynamic_channel D.least_period D.dynamic_fields first_off digit_from
dynamic_worked = record {
  spelled = refl;
  written = refl;
  minus_zero = refl;
  minus_zero_written = refl;
  minus_zero_orders = refl;
  minus_zero_no_period = refl;
  offsets = refl;
  requester_a = (_, refl);
  after_Z = refl;
  order_t = (_, refl);
  order_c = refl;
  bib_60000 = (_, refl);
  bib_60001 = refl;
  channel_250 = (_, refl);
  channel_251 = refl;
  run_250 = (_, refl);
  run_251 = refl;
  stop_bib_0 = refl;
  stop_bib_1 = (_, refl);
  stop_bib_60000 = (_, refl);
  stop_bib_60001 = refl;
  stop_channel_240 = (_, refl);
  stop_channel_241 = refl;
  stop_run_250 = (_, refl);
  stop_run_251 = refl;
  sign_0 = (_, refl);
  sign_2 = refl;
  hour_23 = (_, refl);
  hour_24 = refl;
  output_S = (_, refl);
  output_C = refl;
  wrong_address = refl;
  wrong_requester = refl;
  wrong_order = refl;
  wrong_bib = refl;
  wrong_channel = refl;
  wrong_run = refl;
  wrong_stop_bib = refl;
  wrong_stop_channel = refl;
  wrong_stop_run = refl;
  wrong_sign = refl;
  wrong_time = refl;
  wrong_days = refl;
  wrong_period = refl;
  no_period = refl;
  wrong_output = refl;
}

pub rules_worked : RulesWorked
unfolding one_of between is_address is_raw is_requester is_output timing_kind is_sign Q.is_information Q.is_request_channel is_status P.is_letter P.is_reply_channel D.is_order D.is_dynamic_channel D.least_period place_of P.letter_place status_place
rules_worked = record {
  addresses = refl;
  requesters = refl;
  outputs = refl;
  raw_bytes_case = refl;
  information = refl;
  letters = refl;
  letter_places = refl;
  no_letter_place = refl;
  status_places = refl;
  letters_found = refl;
  letters_alone = refl;
  statuses_found = refl;
  statuses_alone = refl;
  statuses = refl;
  orders = refl;
  signs = refl;
  request_channels = refl;
  reply_channels = refl;
  dynamic_channels = refl;
  clock_letters = refl;
  net_letters = refl;
  clock_letters_of_Z = refl;
  net_letters_of_Z = refl;
  periods = refl;
}

pub address_worked : AddressWorked
unfolding number_at number_from one_of between up_to is_address is_requester is_output all_from fields_of record_wrong head_told read wrong_in write_tried ticks_of clock_number is_net is_raw timing_kind is_sign timed is_status Q.is_information Q.is_request_channel Q.request_fields P.is_letter P.is_reply_channel P.least_run P.from_bib P.reply_fields D.is_order D.is_dynamic_channel D.least_period D.dynamic_fields first_off digit_from
address_worked = record {
  in_request = refl;
  in_reply = refl;
  in_dynamic = refl;
  held_by_request = refl;
  held_by_reply = refl;
  held_by_dynamic = refl;
  before_field = refl;
  before_reply_field = refl;
  before_dynamic_field = refl;
  of_request = refl;
  of_reply = refl;
  of_dynamic = refl;
  before_requester = refl;
  before_program = refl;
  before_dynamic_requester = refl;
  request_refused = refl;
  reply_refused_holds = refl;
  dynamic_refused = refl;
  refused_without_room = refl;
}

pub net_worked : NetWorked
unfolding digits number_at number_from one_of between up_to is_address is_requester is_output all_from fields_of record_wrong write head_told read wrong_in frame_of write_tried ticks_of clock_number leap month_length real_day is_net is_raw timing_kind is_sign timed is_status P.is_letter P.is_reply_channel P.least_run P.from_bib P.reply_fields first_off digit_from
net_worked = record {
  read_as = refl;
  written_as = refl;
  well_formed = refl;
  too_far_case = refl;
  minus_zero = refl;
  minus_tick = refl;
  zero_Z = refl;
  zero_raw = refl;
  zero_clock = refl;
  letters_zero = refl;
  letters_below = refl;
  letters_dated = refl;
}

pub spoiled_worked : SpoiledWorked
unfolding number_at number_from one_of between up_to is_address is_requester is_output all_from fields_of head_told read ticks_of leap month_length real_day is_net is_raw timing_kind is_sign timed is_status Q.is_information Q.is_request_channel Q.request_fields P.is_letter P.is_reply_channel P.least_run P.from_bib P.reply_fields D.is_order D.is_dynamic_channel D.least_period D.dynamic_fields first_off digit_from
spoiled_worked = record {
  request_run = refl;
  request_number = refl;
  request_bib = refl;
  request_channel = refl;
  request_group = refl;
  high_request = refl;
  high_reply = refl;
  high_dynamic = refl;
  two_fields = refl;
  together_first = refl;
  clock_time = refl;
  net_time = refl;
  raw_time_case = refl;
  z_time = refl;
  dynamic_time = refl;
  clock_date = refl;
  clock_year = refl;
  net_date = refl;
  net_date_at_zero = refl;
  spare = refl;
  both_spare = refl;
  raw_date_case = refl;
  reply_run = refl;
  z_run = refl;
  period_A = refl;
  period_b = refl;
  dynamic_bib = refl;
  stop_bib = refl;
  reply_number = refl;
  physical = refl;
}
