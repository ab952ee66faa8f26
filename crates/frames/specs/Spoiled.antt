-- What FIELD says of a frame: its first wrong field, and the first byte of that field that no well formed frame with the same fields before it has at that place, or the field's own offset if there is no such byte.
use Rattle.std.specs.Prelude.{ℕ, ◌-◌, ◌≤◌, ◌<◌, List, [], ◌∷◌, true, cond, ◌≡◌, ltb, length, get_or, take}
use Rattle.digits.specs.Text.{one_of}
use Rattle.digits.specs.Refusals.{FIELD}
use Rattle.digits.specs.Told.{refuses}
use Rattle.frames.specs.Kind.{Kind, CR, read, wrong_in, frame_of}
use Rattle.frames.specs.Places.{request_offsets, reply_offsets, dynamic_offsets}
use Rattle.frames.specs.Request.{request}
use Rattle.frames.specs.Reply.{reply, Whole}
use Rattle.frames.specs.Dynamic.{dynamic}

-- where the field that begins at offset o ends: at the next of these offsets
abbrev pub end_of : List ℕ → ℕ → ℕ
end_of [] o = o
end_of (p ∷ offsets) o = cond (ltb o p) p (end_of offsets o)

-- `offsets` are where the fields of the kind k begin, and the place of the CR; `Whole` is to say that a record's arrays have their lengths
module _ {R : Type 0} (k : Kind R) (Whole : R → Type 0) (offsets : List ℕ) where
  -- g is the frame of a well formed record
  pub record WellFormed (g : List ℕ) : Type 0 where
    pub of : R
    pub whole : Whole of
    pub fine : wrong_in k of ≡ 0
    pub bytes : frame_of k of ≡ g

  -- some well formed frame has the same bytes as s before place p
  pub record Begun (s : List ℕ) (p : ℕ) : Type 0 where
    pub frame : List ℕ
    pub formed : WellFormed frame
    pub before : take p frame ≡ take p s

  -- some well formed frame has the same bytes as s before the field at o, and at place p the byte of s
  pub record Occurs (s : List ℕ) (o p : ℕ) : Type 0 where
    pub frame : List ℕ
    pub formed : WellFormed frame
    pub before : take o frame ≡ take o s
    pub there : get_or frame p 0 ≡ get_or s p 0

  -- p is the place of the byte that spoils the field at o
  pub data Spoiled (s : List ℕ) (o p : ℕ) : Type 0 where
    -- the first byte of the field that no such frame has there
    first : o ≤ p → p < end_of offsets o → ((i : ℕ) → o ≤ i → i < p → Occurs s o i) → (Occurs s o p → ⊥) → Spoiled s o p
    -- each byte of the field is there in some such frame: then p is the field's own offset
    own : p ≡ o → ((i : ℕ) → o ≤ i → i < end_of offsets o → Occurs s o i) → Spoiled s o p

  -- what FIELD o p says of the frame s
  pub record Named (s : List ℕ) (o p : ℕ) : Type 0 where
    -- a field begins at o, or the CR is there
    pub begins : one_of offsets o ≡ true
    -- some well formed frame has the same fields before o, and none has the field at o as well
    pub begun : Begun s o
    pub wrong : Begun s (end_of offsets o) → ⊥
    pub spoiled : Spoiled s o p

  pub record NamesSpoiled : Type 0 where
    -- a frame with the lead byte, R and address of a well formed one, of the kind's size and with CR at its end, is refused with FIELD if it is not well formed
    pub given : (s : List ℕ) → Begun s 3 → length s ≡ k.size → get_or s (k.size - 1) 0 ≡ CR → (WellFormed s → ⊥) → (o : ℕ) × ((p : ℕ) × (read k s ≡ refuses (FIELD o p)))
    pub named : (s : List ℕ) (o p : ℕ) → read k s ≡ refuses (FIELD o p) → Named s o p
    -- no other two numbers say this of a frame
    pub once : (s : List ℕ) (o p o' p' : ℕ) → Named s o p → Named s o' p' → (o ≡ o') × (p ≡ p')

pub record SpoiledBytesAreNamed : Type 0 where
  pub of_request : NamesSpoiled request (λ _. Unit {0}) request_offsets
  pub of_reply : NamesSpoiled reply Whole reply_offsets
  pub of_dynamic : NamesSpoiled dynamic (λ _. Unit {0}) dynamic_offsets
