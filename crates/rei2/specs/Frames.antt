-- The answers of reading and writing frames, in numbers.
use Rattle.std.specs.Prelude.{ℕ, List, ◌≡◌, length}
use Rattle.digits.specs.Told.{Told, gives, refuses}
use Rattle.frames.specs.declared.request.StaticRequest.{StaticRequest}
use Rattle.frames.specs.declared.dynamic.DynamicRequest.{DynamicRequest}
use Rattle.frames.specs.Kind.{Kind, wrong_in, write_tried}
use Rattle.frames.specs.Faithful.{output_of}
use Rattle.rei2.specs.declared.request.RequestAnswer.{RequestAnswer}
use Rattle.rei2.specs.declared.request.WrittenAnswer.{WrittenAnswer}
use Rattle.rei2.specs.declared.dynamic.DynamicAnswer.{DynamicAnswer}
use Rattle.rei2.specs.Numbers.{number_in, offset_in, spoiled_in, value_in}

-- ---- reading

abbrev pub zero_request : StaticRequest
zero_request = record { address = 0; requester = 0; number = 0; bib = 0; information = 0; channel = 0; run = 0; group = 0; output = 0 }

abbrev pub request_answer : Told StaticRequest → RequestAnswer
request_answer t = record { refusal = number_in t; offset = offset_in t; spoiled = spoiled_in t; request = value_in zero_request t }

abbrev pub zero_dynamic : DynamicRequest
zero_dynamic =
    record { address = 0; requester = 0; order = 0; bib = 0; channel = 0; run = 0; stop_bib = 0; stop_channel = 0; stop_run = 0; sign = 0; time = 0; days = 0; period = 0; output = 0 }

abbrev pub dynamic_answer : Told DynamicRequest → DynamicAnswer
dynamic_answer t = record { refusal = number_in t; offset = offset_in t; spoiled = spoiled_in t; request = value_in zero_dynamic t }

-- ---- writing

-- how many bytes were written: the frame's size, or 0 if it was refused
abbrev pub size_in : ℕ → Told (Unit {0}) → ℕ
size_in size (gives done) = size
size_in size (refuses f) = 0

abbrev pub written_answer : ℕ → Told (Unit {0}) → WrittenAnswer
written_answer size t = record { refusal = number_in t; offset = offset_in t; size = size_in size t }

-- what is promised of writing r to out: the answer, and every byte of the output
pub record WroteLent {R : Type 0} (k : Kind R) (r : R) (out : List ℕ) (answer : WrittenAnswer) (out' : List ℕ) : Type 0 where
  pub told : answer ≡ written_answer k.size (write_tried (wrong_in k r) k.size (length out))
  pub bytes : out' ≡ output_of k r out
