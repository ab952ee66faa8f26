-- The dynamic request: 46 bytes, lead byte DC3.
use Rattle.std.specs.Prelude.{ℕ, List, Bool, cond, ◌||◌, ◌≡◌, leb, eqb, Result}
use Rattle.digits.specs.Text.{codes, one_of}
use Rattle.digits.specs.Told.{Told}
use Rattle.frames.specs.declared.dynamic.DynamicRequest.{DynamicRequest}
use Rattle.frames.specs.declared.refusals.ReadRefusal.{ReadRefusal}
use Rattle.frames.specs.Refusals.{read_told}
use Rattle.frames.specs.Rules.{between, is_address, is_requester, is_output}
use Rattle.frames.specs.Field.{letter, number_by, number_to, time_of_day}
use Rattle.frames.specs.Layout.{Layout, field, end}
use Rattle.frames.specs.Kind.{Kind, read}

unfoldable pub is_order : ℕ → Bool
is_order = one_of (codes "ABabTt")

unfoldable pub is_dynamic_channel : ℕ → Bool
is_dynamic_channel v = leb v 240 || eqb v 250 || eqb v 255

-- a period of 0 is good only with an order other than A and B
unfoldable pub least_period : ℕ → ℕ
least_period order = cond (one_of (codes "AB") order) 1 0

unfoldable pub dynamic_fields : Layout DynamicRequest
dynamic_fields =
    field 2 (letter is_address) (λ r. r.address) λ address.
    field 3 (letter is_requester) (λ r. r.requester) λ requester.
    field 4 (letter is_order) (λ r. r.order) λ order.
    field 5 (number_to 5 60000) (λ r. r.bib) λ bib.
    -- logical channel
    field 10 (number_by 3 2 is_dynamic_channel) (λ r. r.channel) λ channel.
    field 13 (number_to 3 250) (λ r. r.run) λ run.
    field 16 (number_by 5 6 (between 1 60000)) (λ r. r.stop_bib) λ stop_bib.
    field 21 (number_by 3 2 is_dynamic_channel) (λ r. r.stop_channel) λ stop_channel.
    field 24 (number_to 3 250) (λ r. r.stop_run) λ stop_run.
    -- Taux: its sign (0 plus, 1 minus), its time and its days
    field 27 (number_to 1 1) (λ r. r.sign) λ sign.
    field 28 time_of_day (λ r. r.time) λ ticks.
    field 38 (number_to 1 9) (λ r. r.days) λ days.
    field 39 (number_by 5 9 (between (least_period order) 99999)) (λ r. r.period) λ period.
    field 44 (letter is_output) (λ r. r.output) λ output.
    end (record { address = address; requester = requester; order = order; bib = bib; channel = channel; run = run; stop_bib = stop_bib; stop_channel = stop_channel; stop_run = stop_run; sign = sign; time = ticks; days = days; period = period; output = output })

abbrev pub dynamic : Kind DynamicRequest
dynamic = record { lead = 19; size = 46; fields = dynamic_fields }

-- what the reader's answer means
abbrev pub dynamic_told : Result DynamicRequest ReadRefusal → Told DynamicRequest
dynamic_told = read_told

-- what is promised of reading s: the answer means `read dynamic` of s
abbrev pub DynamicAs : List ℕ → Result DynamicRequest ReadRefusal → Type 0
DynamicAs s a = dynamic_told a ≡ read dynamic s
