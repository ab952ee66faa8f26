-- The values of a frame's fields as the code holds them, wrong or not.
use Rattle.std.specs.Prelude.{ℕ, List, get_or, Option, Some, None}
use Rattle.digits.specs.Digits.{number_at}
use Rattle.times.specs.Clock.{clock}
use Rattle.frames.specs.declared.request.StaticRequest.{StaticRequest}
use Rattle.frames.specs.declared.dynamic.DynamicRequest.{DynamicRequest}

-- what the code holds if there is no number at a place: a value that no rule takes
abbrev pub no_number : ℕ
no_number = 4294967295

abbrev pub or_none : Option ℕ → ℕ
or_none (Some v) = v
or_none None = no_number

abbrev pub request_at : List ℕ → StaticRequest
request_at s =
    record { address = get_or s 2 0; requester = get_or s 3 0; number = or_none (number_at s 4 3); bib = or_none (number_at s 7 5); information = get_or s 12 0; channel = or_none (number_at s 13 3); run = or_none (number_at s 16 3); group = or_none (number_at s 19 3); output = get_or s 22 0 }

abbrev pub dynamic_at : List ℕ → DynamicRequest
dynamic_at s =
    record { address = get_or s 2 0; requester = get_or s 3 0; order = get_or s 4 0; bib = or_none (number_at s 5 5); channel = or_none (number_at s 10 3); run = or_none (number_at s 13 3); stop_bib = or_none (number_at s 16 5); stop_channel = or_none (number_at s 21 3); stop_run = or_none (number_at s 24 3); sign = or_none (number_at s 27 1); time = or_none (clock.got s 28); days = or_none (number_at s 38 1); period = or_none (number_at s 39 5); output = get_or s 44 0 }
