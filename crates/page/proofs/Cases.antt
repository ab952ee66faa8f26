-- The worked cases hold. Assumes nothing.
use Rattle.std.proofs.Common.{◌≡◌, true, refl}
use Rattle.digits.specs.Digits.{digits, number_at, number_from}
use Rattle.digits.specs.Text.{one_of}
use Rattle.frames.specs.Rules.{between, up_to, is_address, is_raw, is_requester}
use Rattle.frames.specs.Status.{is_status}
use Rattle.frames.specs.Shape.{all_from}
use Rattle.frames.specs.Layout.{fields_of}
use Rattle.frames.specs.Kind.{head_told, read}
use Rattle.frames.specs.Timing.{timing_kind, timed}
use Rattle.frames.specs.Reply as P
use Rattle.text.specs.Address.{address_shown}
use Rattle.desk.specs.Below.{all_below, count_below}
use Rattle.desk.specs.Key.{same_key, is_key}
use Rattle.desk.specs.Hearing.{heard, ends}
use Rattle.desk.specs.Seats.{keyed}
use Rattle.desk.specs.Memory.{capacity_of}
use Rattle.desk.specs.Tally.{held_of, entry_right, tally_right}
use Rattle.desk.specs.Desk.{is_zero, mark_names, last_ends, is_desk}
use Rattle.page.specs.Version.{seat_digit, showable}
use Rattle.page.specs.Sum.{sum_of}
use Rattle.page.specs.Page.{first_line, seat_line, cell_line, last_line, seat_lines, cell_lines, front, page}
use Rattle.page.specs.Writing.{write_tried}
use Rattle.page.specs.Cases.{small, PageWorked}

small_desk : is_desk small ≡ true
unfolding number_at number_from one_of between up_to is_address is_raw is_requester all_from fields_of head_told read timing_kind timed is_status P.is_letter P.is_reply_channel P.least_run P.from_bib P.reply_fields all_below count_below same_key is_key heard ends keyed capacity_of is_zero mark_names last_ends held_of entry_right tally_right is_desk
small_desk = refl

pub page_worked : PageWorked
unfolding digits address_shown seat_digit sum_of first_line seat_line cell_line last_line seat_lines cell_lines front page write_tried showable all_below is_desk
page_worked = record {
  seats = refl;
  first_line_case = refl;
  seat_line_case = refl;
  seat_line_0 = refl;
  cell_line_case = refl;
  cell_middle = refl;
  last_line_case = refl;
  sum = refl;
  sum_of_line = refl;
  sum_past = refl;
  empty_page = refl;
  small_page = refl;
  answer = rw small_desk;
  answer_room = rw small_desk;
  answer_desk = refl;
  longest = refl;
}
