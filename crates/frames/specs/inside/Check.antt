-- What the steps of the quick check of a reply test.
use Rattle.std.specs.Prelude.{ℕ, List, Bool, not, ◌&&◌, ◌||◌, leb, eqb, get_or}
use Rattle.digits.specs.Digits.{number_at}
use Rattle.frames.specs.Rules.{between, is_address, is_raw, is_requester}
use Rattle.frames.specs.Status.{is_status}
use Rattle.frames.specs.Shape.{all_from}
use Rattle.frames.specs.Kind.{letter_r, CR}
use Rattle.frames.specs.Reply.{is_letter, is_reply_channel, least_run}
use Rattle.frames.specs.inside.Held.{or_none}

-- the digit 0
abbrev pub is_zero : ℕ → Bool
is_zero b = eqb b 48

unfoldable pub bounds_good : List ℕ → Bool
bounds_good s = eqb (get_or s 0 0) 18 && eqb (get_or s 1 0) letter_r && eqb (get_or s 50 0) CR && leb (get_or s 12 0) 53 && leb (get_or s 17 0) 49

unfoldable pub codes_good : List ℕ → Bool
codes_good s = is_address (get_or s 2 0) && is_requester (get_or s 6 0) && all_from is_raw s 3 2

unfoldable pub values_good : List ℕ → Bool
values_good s =
    is_status (get_or s 5 0) && is_letter (get_or s 29 0) && between (least_run (get_or s 5 0)) 250 (or_none (number_at s 20 3)) && is_reply_channel (or_none (number_at s 26 3))

-- a plus, or a minus with digits of time and days that are not all 0
unfoldable pub sign_good : List ℕ → Bool
sign_good s = eqb (get_or s 40 0) 43 || eqb (get_or s 40 0) 45 && not (all_from is_zero s 30 10 && all_from is_zero s 41 7)
