-- What is demanded of the numbers. The refusal is 0 exactly if the call was done. Otherwise it is one of the table; only 5 and 6 have an offset, and only 5 has a spoiled byte.
-- Refusal, offset, spoiled byte and value together tell any two answers apart.
use Rattle.std.specs.Prelude.{ℕ, List, true, ◌≡◌}
use Rattle.digits.specs.declared.refusal.Refusal.{Refusal}
use Rattle.digits.specs.Told.{Told, refuses, Sure}
use Rattle.times.specs.declared.running.RunningOf.{RunningOf}
use Rattle.times.specs.Running.{running_time}
use Rattle.frames.specs.Kind.{read, write_tried}
use Rattle.frames.specs.Request.{request}
use Rattle.frames.specs.Reply.{reply, zero_reply}
use Rattle.frames.specs.Dynamic.{dynamic}
use Rattle.desk.specs.declared.state.Desk.{Desk}
use Rattle.desk.specs.declared.state.Seat.{Seat}
use Rattle.desk.specs.Memory.{Memory, memory}
use Rattle.desk.specs.Desk.{is_desk}
use Rattle.desk.specs.Calls.{resets, opens, replies}
use Rattle.desk.specs.Capture.{captures}
use Rattle.desk.specs.Tally.{Table, looks}
use Rattle.listing.specs.Listing.{listed}
use Rattle.rei2.specs.Names.{name_tried}
use Rattle.rei2.specs.Frames.{zero_request, request_answer, zero_dynamic, dynamic_answer}
use Rattle.rei2.specs.Reply.{shown, reply_answer}
use Rattle.rei2.specs.declared.lent.DeskAnswer.{DeskAnswer}
use Rattle.rei2.specs.Lent.{OpenLent, ReplyLent}
use Rattle.rei2.specs.Numbers.{number_in, offset_in, spoiled_in, value_in}

pub record NumbersTell : Type 1 where
  pub reading_request : (s : List ℕ) → Sure (read request s)
  pub reading_reply : (s : List ℕ) → Sure (read reply s)
  pub reading_dynamic : (s : List ℕ) → Sure (read dynamic s)
  pub writing : (wrong size room : ℕ) → Sure (write_tried wrong size room)
  pub running : (of : RunningOf) → Sure (running_time of)
  pub reset : (m : Memory) → Sure (resets m).answer
  pub opening : (m : Memory) (f : List ℕ) → Sure (opens m f).answer
  pub replying : (m : Memory) (f : List ℕ) → Sure (replies m f).answer
  pub capture : (m : Memory) (s : List ℕ) → Sure (captures m s).answer
  pub look : (t : Table) (letter status : ℕ) → Sure (looks t letter status)
  pub naming : (name out : List ℕ) → Sure (name_tried name out)
  pub listing : (cells marks s out : List ℕ) → Sure (listed cells marks s out)
  -- with a refusal all its numbers are handed on, and the rest of the answer is zero
  pub request_refused : (f : Refusal) → request_answer (refuses f) ≡ record { refusal = f.number; offset = f.offset; spoiled = f.spoiled; request = zero_request }
  pub reply_refused_holds : (f : Refusal) → reply_answer (refuses f) ≡ record { refusal = f.number; offset = f.offset; spoiled = f.spoiled; reply = shown zero_reply }
  pub dynamic_refused : (f : Refusal) → dynamic_answer (refuses f) ≡ record { refusal = f.number; offset = f.offset; spoiled = f.spoiled; request = zero_dynamic }
  -- and so do an opening and a reply on a lent desk, whatever answer meets their promises
  pub opening_refused : (seats seats' : List Seat) (d : Desk) (cells marks frame : List ℕ) (tally : List (List ℕ)) (r : DeskAnswer) (f : Refusal) → is_desk (memory d seats cells marks tally) ≡ true → read request frame ≡ refuses f
      → OpenLent seats d cells marks tally frame r seats' → r ≡ record { desk = d; refusal = f.number; offset = f.offset; spoiled = f.spoiled; seat = 0 }
  pub replying_refused : (seats seats' : List Seat) (d : Desk) (cells cells' marks marks' frame : List ℕ) (tally tally' : List (List ℕ)) (r : DeskAnswer) (f : Refusal) → is_desk (memory d seats cells marks tally) ≡ true → read reply frame ≡ refuses f
      → ReplyLent seats d cells marks tally frame r seats' cells' marks' tally' → r ≡ record { desk = d; refusal = f.number; offset = f.offset; spoiled = f.spoiled; seat = 0 }
  -- so number, offset, spoiled byte and value together determine an answer
  pub told : {A : Type 0} (zero : A) (t t' : Told A) → Sure t → Sure t' → number_in t ≡ number_in t' → offset_in t ≡ offset_in t' → spoiled_in t ≡ spoiled_in t' → value_in zero t ≡ value_in zero t' → t ≡ t'
