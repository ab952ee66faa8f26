-- The first wrong line of texts, computed by the machine. Assumes nothing.
use Rattle.std.proofs.Common.{◌≡◌, ℕ, refl}
use Prim.Native.String.{String}
use Rattle.digits.specs.Text.{codes}
use Rattle.digits.specs.Digits.{digits, number_from, number_at}
use Rattle.text.specs.Address.{address_shown, shown_address}
use Rattle.frames.specs.Rules.{between, is_address, is_requester}
use Rattle.lines.specs.Lines.{lines_of, rest_of}
use Rattle.lines.specs.Machine.{wrong, walk, verdict}
use Rattle.lines.specs.Tokens.{same}
use Rattle.desk.specs.Below.{first}
use Rattle.desk.specs.Key.{same_key, is_key}
use Rattle.desk.specs.Seats.{keyed, seat_with}
use Rattle.page.specs.Version.{seat_digit, digit_seat, one}
use Rattle.page.specs.Sum.{sum_of}
use Rattle.page.specs.Page.{first_line, seat_line, cell_line, last_line}
use Rattle.page.specs.LineCases.{WrongAt, LinesNamed}
use Rattle.page.specs.inside.Tokens.{fits, guess_seat, guess_cell, guess_last, guess}
use Rattle.page.specs.inside.Machine.{seat_taken, roomy, machine}
use Rattle.page.proofs.VersionLaws.{one_shows_all}
use Rattle.page.proofs.MachineLaws.{machine_reads}

named : (text : String) (n : ℕ) → verdict (machine one) (codes text) ≡ wrong n → WrongAt text n
named text n e = (((machine_reads one one_shows_all.sound).line_named (codes text) n).0 e).1

pub lines_named : LinesNamed
unfolding digits number_from number_at address_shown shown_address between is_address is_requester lines_of rest_of walk verdict same first same_key is_key keyed seat_with seat_digit digit_seat sum_of first_line seat_line cell_line last_line fits guess_seat guess_cell guess_last guess seat_taken roomy
lines_named = record {
  empty_text = named "" 1 refl;
  no_LF = named "page\t1" 1 refl;
  version_two = named "page\t2\n" 1 refl;
  CR_LF = named "page\t1\r\n" 1 refl;
  first_only = named "page\t1\n" 2 refl;
  empty_line = named "page\t1\n\n" 2 refl;
  line_cut = named "page\t1\n0\t-\tA\t007\t0" 2 refl;
  sum_wrong = named "page\t1\n0000\t00482\n" 2 refl;
  sum_not_reduced = named "page\t1\n0000\t66017\n" 2 refl;
  count_wrong = named "page\t1\n0001\t00481\n" 2 refl;
  last_LF_missing = named "page\t1\n0000\t00481" 2 refl;
  byte_more = named "page\t1\n0000\t00481\nx" 3 refl;
  line_more = named "page\t1\n0000\t00481\n\n" 3 refl;
  lower_case = named "page\t1\nb\t-\tA\t007\t0\n" 2 refl;
  no_such_seat = named "page\t1\nG\t-\tA\t007\t0\n" 2 refl;
  space_shown = named "page\t1\n0\t \tA\t007\t0\n" 2 refl;
  no_requester = named "page\t1\n0\t-\t[\t007\t0\n" 2 refl;
  no_number_case = named "page\t1\n0\t-\tA\t0x7\t0\n" 2 refl;
  neither = named "page\t1\n0\t-\tA\t007\t2\n" 2 refl;
  order = named "page\t1\n1\t-\tA\t007\t0\n0\t-\tB\t007\t0\n" 3 refl;
  seat_again = named "page\t1\n1\t-\tA\t007\t0\n1\t-\tB\t007\t0\n" 3 refl;
  key_again = named "page\t1\n0\t-\tA\t007\t0\n1\t-\tA\t007\t0\n" 3 refl;
  keys_apart = named "page\t1\n0\t-\tA\t007\t0\n1\t0\tA\t007\t0\n2\t-\ta\t007\t0\n3\t-\tA\t008\t0\n" 6 refl;
  still_waits = named "page\t1\n0\t-\tA\t007\t1\n0000\t00885\n" 3 refl;
}
