-- Texts that no desk writes, and the number of the first line up to which no desk's page begins so.
use Rattle.std.specs.Prelude.{ℕ}
use Prim.Native.String.{String}
use Rattle.lines.specs.Demands.{FirstLine}
use Rattle.digits.specs.Text.{codes}
use Rattle.page.specs.Version.{one, showable}
use Rattle.page.specs.Page.{page}

abbrev pub WrongAt : String → ℕ → Type 0
WrongAt text n = FirstLine (showable one) (page one) (codes text) n

pub record LinesNamed : Type 0 where
  -- nothing, a first line without its LF, another version, CR before LF
  pub empty_text : WrongAt "" 1
  pub no_LF : WrongAt "page\t1" 1
  pub version_two : WrongAt "page\t2\n" 1
  pub CR_LF : WrongAt "page\t1\r\n" 1
  -- the second line is missing, or empty, or has no LF
  pub first_only : WrongAt "page\t1\n" 2
  pub empty_line : WrongAt "page\t1\n\n" 2
  pub line_cut : WrongAt "page\t1\n0\t-\tA\t007\t0" 2
  -- the empty desk: with another sum, with another number of cells, without its last LF, with more after it
  pub sum_wrong : WrongAt "page\t1\n0000\t00482\n" 2
  pub sum_not_reduced : WrongAt "page\t1\n0000\t66017\n" 2
  pub count_wrong : WrongAt "page\t1\n0001\t00481\n" 2
  pub last_LF_missing : WrongAt "page\t1\n0000\t00481" 2
  pub byte_more : WrongAt "page\t1\n0000\t00481\nx" 3
  pub line_more : WrongAt "page\t1\n0000\t00481\n\n" 3
  -- a seat in lower case, beyond the last, with a space as its address, with a requester or a number that no request has, neither ended nor not
  pub lower_case : WrongAt "page\t1\nb\t-\tA\t007\t0\n" 2
  pub no_such_seat : WrongAt "page\t1\nG\t-\tA\t007\t0\n" 2
  pub space_shown : WrongAt "page\t1\n0\t \tA\t007\t0\n" 2
  pub no_requester : WrongAt "page\t1\n0\t-\t[\t007\t0\n" 2
  pub no_number_case : WrongAt "page\t1\n0\t-\tA\t0x7\t0\n" 2
  pub neither : WrongAt "page\t1\n0\t-\tA\t007\t2\n" 2
  -- a seat before a lower one, the same seat again, and a key again
  pub order : WrongAt "page\t1\n1\t-\tA\t007\t0\n0\t-\tB\t007\t0\n" 3
  pub seat_again : WrongAt "page\t1\n1\t-\tA\t007\t0\n1\t-\tB\t007\t0\n" 3
  pub key_again : WrongAt "page\t1\n0\t-\tA\t007\t0\n1\t-\tA\t007\t0\n" 3
  -- another address, another requester or another number is another key: these four seats are good, and line 6 is only missing
  pub keys_apart : WrongAt "page\t1\n0\t-\tA\t007\t0\n1\t0\tA\t007\t0\n2\t-\ta\t007\t0\n3\t-\tA\t008\t0\n" 6
  -- the last line while a seat still waits for its end
  pub still_waits : WrongAt "page\t1\n0\t-\tA\t007\t1\n0000\t00885\n" 3
