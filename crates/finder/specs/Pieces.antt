-- The frames of a capture, whole and cut, found by a walk over its bytes.
use Rattle.std.specs.Prelude.{ℕ, suc, ◌+◌, List, [], ◌∷◌, ◌++◌, cond, eqb, length, drop, Option, Some, None}
use Rattle.frames.specs.Kind.{CR}
use Rattle.finder.specs.declared.Found.{Found}
use Rattle.finder.specs.declared.Found.TheVariants.{Whole, Cut}
use Rattle.finder.specs.Leads.{is_lead}

-- a frame that was found, whole or cut: its start, and its bytes
pub data Piece : Type 0 where
  whole : ℕ → List ℕ → Piece
  cut : ℕ → List ℕ → Piece

abbrev pub start_of : Piece → ℕ
start_of (whole start bytes) = start
start_of (cut start bytes) = start

abbrev pub bytes_of : Piece → List ℕ
bytes_of (whole start bytes) = bytes
bytes_of (cut start bytes) = bytes

-- the place after the frame's last byte
abbrev pub end_of : Piece → ℕ
end_of p = start_of p + length (bytes_of p)

-- a byte is outside a frame, or inside one, which has a start and its bytes so far
pub data Place : Type 0 where
  outside : Place
  inside : ℕ → List ℕ → Place

-- the walk over the bytes of a capture from place n on
unfoldable pub walk : Place → ℕ → List ℕ → List Piece
-- outside a frame every byte other than a lead byte is skipped
walk outside n [] = []
walk outside n (x ∷ xs) = cond (is_lead x) (walk (inside n (x ∷ [])) (suc n) xs) (walk outside (suc n) xs)
-- the end of the capture cuts a frame
walk (inside start bytes) n [] = cut start bytes ∷ []
-- another lead byte cuts the frame and begins a new one; otherwise the frame goes on to its CR
walk (inside start bytes) n (x ∷ xs) =
    cond (is_lead x) (cut start bytes ∷ walk (inside n (x ∷ [])) (suc n) xs)
    (cond (eqb x CR) (whole start (bytes ++ (x ∷ [])) ∷ walk outside (suc n) xs)
    (walk (inside start (bytes ++ (x ∷ []))) (suc n) xs))

-- the pieces from a place of the capture on; that place counts as outside a frame
unfoldable pub pieces_from : List ℕ → ℕ → List Piece
pieces_from s at = walk outside at (drop at s)

abbrev pub pieces : List ℕ → List Piece
pieces s = pieces_from s 0

-- the answer of a call: the first of the pieces that are left, or None
abbrev pub first_of : List Piece → Option Found
first_of [] = None
first_of (whole start bytes ∷ ps) = Some (Whole start (start + length bytes) (record { at = start + length bytes }))
first_of (cut start bytes ∷ ps) = Some (Cut start (record { at = start + length bytes }))

unfoldable pub found_from : List ℕ → ℕ → Option Found
found_from s at = first_of (pieces_from s at)
