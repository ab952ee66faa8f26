-- The static request: 24 bytes, lead byte DC1.
use Rattle.std.specs.Prelude.{ℕ, List, Bool, ◌||◌, ◌≡◌, leb, eqb, Result}
use Rattle.digits.specs.Text.{codes, one_of}
use Rattle.digits.specs.Told.{Told}
use Rattle.frames.specs.declared.request.StaticRequest.{StaticRequest}
use Rattle.frames.specs.declared.refusals.ReadRefusal.{ReadRefusal}
use Rattle.frames.specs.Refusals.{read_told}
use Rattle.frames.specs.Rules.{is_address, is_requester, is_output}
use Rattle.frames.specs.Field.{letter, number_by, number_to}
use Rattle.frames.specs.Layout.{Layout, field, end}
use Rattle.frames.specs.Kind.{Kind, read}

-- the 41 letters of a request
unfoldable pub is_information : ℕ → Bool
is_information = one_of (codes "0123456789AQPaSsTKLtR*GHhIiJjpkugWwXlbcdq")

unfoldable pub is_request_channel : ℕ → Bool
is_request_channel v = leb v 240 || eqb v 248 || eqb v 249 || eqb v 251 || eqb v 255

unfoldable pub request_fields : Layout StaticRequest
request_fields =
    field 2 (letter is_address) (λ r. r.address) λ address.
    field 3 (letter is_requester) (λ r. r.requester) λ requester.
    field 4 (number_to 3 999) (λ r. r.number) λ n.
    field 7 (number_to 5 59999) (λ r. r.bib) λ bib.
    field 12 (letter is_information) (λ r. r.information) λ information.
    -- logical channel
    field 13 (number_by 3 2 is_request_channel) (λ r. r.channel) λ channel.
    field 16 (number_to 3 250) (λ r. r.run) λ run.
    field 19 (number_to 3 199) (λ r. r.group) λ group.
    field 22 (letter is_output) (λ r. r.output) λ output.
    end (record { address = address; requester = requester; number = n; bib = bib; information = information; channel = channel; run = run; group = group; output = output })

abbrev pub request : Kind StaticRequest
request = record { lead = 17; size = 24; fields = request_fields }

-- what the reader's answer means
abbrev pub request_told : Result StaticRequest ReadRefusal → Told StaticRequest
request_told = read_told

-- what is promised of reading s: the answer means `read request` of s
abbrev pub RequestAs : List ℕ → Result StaticRequest ReadRefusal → Type 0
RequestAs s a = request_told a ≡ read request s
