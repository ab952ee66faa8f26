-- What it means to put a text on an output.
use Rattle.std.specs.Prelude.{ℕ, ◌+◌, ◌-◌, ◌^◌, min, List, ◌≡◌, length}
use Rattle.std.proofs.lemmas.List.Edits.{sets}

-- the largest number of 64 bits: no output has that many bytes
abbrev pub most_place : ℕ
most_place = 2 ^ 64 - 1

-- the place n bytes further on, and most_place if that is past it
abbrev pub place_after : ℕ → ℕ → ℕ
place_after at n = min (at + n) most_place

-- the text is stored from a place on, as far as there is room; `end` is the place after the whole text
pub record Put (out : List ℕ) (at : ℕ) (text : List ℕ) (end : ℕ) (out' : List ℕ) : Type 0 where
  pub next : end ≡ place_after at (length text)
  pub bytes : out' ≡ sets out at text
