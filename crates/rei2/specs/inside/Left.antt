-- How a reply's record with a number left over is refused.
use Rattle.std.specs.Prelude.{ℕ, Bool, cond, ◌&&◌, eqb}
use Rattle.digits.specs.declared.refusal.Refusal.{Refusal}
use Rattle.digits.specs.Refusals.{RECORD, ROOM}
use Rattle.rei2.specs.declared.request.WrittenAnswer.{WrittenAnswer}
use Rattle.rei2.specs.Reply.{left_at}

-- it is written to an output without room
abbrev pub room_in : Bool → ℕ → ℕ
room_in left size = cond left 0 size

abbrev pub not_written : Refusal → WrittenAnswer
not_written f = record { refusal = f.number; offset = f.offset; size = 0 }

-- if ROOM is then the only refusal, the number left over is reported instead
abbrev pub or_left : Bool → WrittenAnswer → WrittenAnswer
or_left left a = cond (left && eqb a.refusal ROOM.number) (not_written (RECORD left_at)) a
