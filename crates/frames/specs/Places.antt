-- Each field is where it says: a refusal's offset is the place of the field's first byte, and the CR is the last byte of the kind's size.
use Rattle.std.specs.Prelude.{ℕ, List, [], ◌∷◌}
use Rattle.frames.specs.Layout.{Placed}
use Rattle.frames.specs.Kind.{Kind, fields_begin}
use Rattle.frames.specs.Request.{request}
use Rattle.frames.specs.Reply.{reply}
use Rattle.frames.specs.Dynamic.{dynamic}

-- where the fields of each kind begin, from the address at byte 2 on; the last is the place of the CR
abbrev pub request_offsets : List ℕ
request_offsets = fields_begin ∷ 3 ∷ 4 ∷ 7 ∷ 12 ∷ 13 ∷ 16 ∷ 19 ∷ 22 ∷ 23 ∷ []

abbrev pub reply_offsets : List ℕ
reply_offsets = fields_begin ∷ 3 ∷ 4 ∷ 5 ∷ 6 ∷ 7 ∷ 12 ∷ 17 ∷ 20 ∷ 23 ∷ 26 ∷ 29 ∷ 30 ∷ 40 ∷ 48 ∷ 50 ∷ []

abbrev pub dynamic_offsets : List ℕ
dynamic_offsets = fields_begin ∷ 3 ∷ 4 ∷ 5 ∷ 10 ∷ 13 ∷ 16 ∷ 21 ∷ 24 ∷ 27 ∷ 28 ∷ 38 ∷ 39 ∷ 44 ∷ 45 ∷ []

abbrev pub Stands : {R : Type 0} → Kind R → List ℕ → Type 1
Stands k offsets = Placed k.fields offsets k.size

abbrev pub FieldsStandWhereTheySay : Type 1
FieldsStandWhereTheySay = Stands request request_offsets × Stands reply reply_offsets × Stands dynamic dynamic_offsets
