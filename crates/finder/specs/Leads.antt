-- The bytes that begin a frame.
use Rattle.std.specs.Prelude.{ℕ, List, [], ◌∷◌, Bool}
use Rattle.digits.specs.Text.{one_of}
use Rattle.frames.specs.Request.{request}
use Rattle.frames.specs.Reply.{reply}
use Rattle.frames.specs.Dynamic.{dynamic}

abbrev pub leads : List ℕ
leads = request.lead ∷ reply.lead ∷ dynamic.lead ∷ []

unfoldable pub is_lead : ℕ → Bool
is_lead = one_of leads
