-- What the refusals of reading and writing mean: their numbers and offsets.
use Rattle.std.specs.Prelude.{Result, Ok, Err}
use Rattle.digits.specs.declared.refusal.Refusal.{Refusal}
use Rattle.digits.specs.Refusals.{KIND, LENGTH, END, ADDRESS, FIELD, RECORD, ROOM}
use Rattle.digits.specs.Told.{Told, gives, refuses}
use Rattle.frames.specs.declared.refusals.ReadRefusal.{ReadRefusal}
use Rattle.frames.specs.declared.refusals.ReadRefusal.TheVariants.{Kind, Length, End, Address, Field}
use Rattle.frames.specs.declared.refusals.WriteRefusal.{WriteRefusal}
use Rattle.frames.specs.declared.refusals.WriteRefusal.TheVariants.{Record, Room}

abbrev pub read_refused : ReadRefusal → Refusal
read_refused Kind = KIND
read_refused Length = LENGTH
read_refused End = END
read_refused Address = ADDRESS
read_refused (Field p) = FIELD p.field p.spoiled

abbrev pub write_refused : WriteRefusal → Refusal
write_refused (Record at) = RECORD at
write_refused Room = ROOM

-- what an answer means
module _ {A : Type 0} where
  abbrev pub read_told : Result A ReadRefusal → Told A
  read_told (Ok a) = gives a
  read_told (Err f) = refuses (read_refused f)

  abbrev pub write_told : Result A WriteRefusal → Told A
  write_told (Ok a) = gives a
  write_told (Err f) = refuses (write_refused f)

abbrev pub verdict_told : Result (Unit {0}) ReadRefusal → Told (Unit {0})
verdict_told = read_told
