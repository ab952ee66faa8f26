-- What is demanded of cutting a capture into frames.
use Rattle.std.specs.Prelude.{ℕ, zero, suc, ◌+◌, ◌≤◌, List, [], ◌∷◌, ◌++◌, Bool, true, false, cond, not, ◌&&◌, ◌≡◌, eqb, length, take, drop, Some, None}
use Rattle.std.proofs.Math.Seq.{slice}
use Rattle.digits.specs.Told.{gives}
use Rattle.frames.specs.Kind.{Kind, CR, read}
use Rattle.frames.specs.Request.{request}
use Rattle.frames.specs.Reply.{reply}
use Rattle.frames.specs.Dynamic.{dynamic}
use Rattle.finder.specs.declared.Found.TheVariants.{Whole, Cut}
use Rattle.finder.specs.declared.Cursor.{Cursor}
use Rattle.finder.specs.Leads.{is_lead}
use Rattle.finder.specs.Pieces.{Piece, whole, cut, start_of, bytes_of, end_of, pieces_from, pieces, found_from}

-- ---- as many frames are found as the capture has lead bytes

abbrev pub count : (ℕ → Bool) → List ℕ → ℕ
count p [] = zero
count p (x ∷ xs) = cond (p x) (suc (count p xs)) (count p xs)

abbrev pub FramesAreLeads : Type 0
FramesAreLeads = (s : List ℕ) → length (pieces s) ≡ count is_lead s

-- ---- a piece is what it says

abbrev pub every : (ℕ → Bool) → List ℕ → Bool
every p [] = true
every p (x ∷ xs) = p x && every p xs

-- neither a lead byte nor CR
unfoldable pub is_inner : ℕ → Bool
is_inner b = not (is_lead b) && not (eqb b CR)

-- a frame up to its CR: a lead byte, then bytes that are neither a lead byte nor CR
unfoldable pub is_open : List ℕ → Bool
is_open [] = false
is_open (x ∷ xs) = is_lead x && every is_inner xs

-- CR is no lead byte; so an open frame holds no CR
abbrev pub CRIsNoLead : Type 0
CRIsNoLead = is_lead CR ≡ false

-- what comes after a cut frame: the end of the capture, or a lead byte
abbrev pub cuts : List ℕ → Bool
cuts [] = true
cuts (x ∷ xs) = is_lead x

-- a piece is right: its bytes are in the capture at its start. A whole frame ends with its CR.
-- A cut frame has no CR, and after it comes what cuts it.
abbrev pub Right : List ℕ → Piece → Type 0
Right s (whole start bytes) =
    (take (length bytes) (drop start s) ≡ bytes)
    × ((f : List ℕ) × (is_open f ≡ true) × (bytes ≡ f ++ (CR ∷ [])))
Right s (cut start bytes) =
    (take (length bytes) (drop start s) ≡ bytes)
    × (is_open bytes ≡ true)
    × (cuts (drop (start + length bytes) s) ≡ true)

abbrev pub All : (Piece → Type 0) → List Piece → Type 0
All P [] = Unit {0}
All P (p ∷ ps) = P p × All P ps

abbrev pub PiecesAreRight : Type 0
PiecesAreRight = (s : List ℕ) → All (Right s) (pieces s)

-- ---- the pieces are disjoint parts of the capture, in order

-- the first piece starts at `lo` or later, each other one not before its predecessor's end; the last ends by `hi`
abbrev pub InOrder : ℕ → List Piece → ℕ → Type 0
InOrder lo [] hi = lo ≤ hi
InOrder lo (p ∷ ps) hi = (lo ≤ start_of p) × InOrder (end_of p) ps hi

abbrev pub total : List Piece → ℕ
total [] = zero
total (p ∷ ps) = length (bytes_of p) + total ps

-- the pieces are in order without overlap, and together they are no longer than the capture
pub record Disjoint : Type 0 where
  pub in_order : (s : List ℕ) → InOrder 0 (pieces s) (length s)
  pub no_longer : (s : List ℕ) → total (pieces s) ≤ length s

-- ---- calls, one after the other

-- the pieces that calls on s return, one after the other: each call starts from the cursor that the last one returned,
-- and the last call returns None
pub data Run (s : List ℕ) : ℕ → List Piece → Type 0 where
  over : {at : ℕ} → found_from s at ≡ None → Run s at []
  tells_whole : {at start end : ℕ} {next : Cursor} {ps : List Piece}
      → found_from s at ≡ Some (Whole start end next) → Run s next.at ps → Run s at (whole start (slice start end s) ∷ ps)
  tells_cut : {at start : ℕ} {next : Cursor} {ps : List Piece}
      → found_from s at ≡ Some (Cut start next) → Run s next.at ps → Run s at (cut start (slice start next.at s) ∷ ps)

-- from any place, the calls return just the pieces of the capture from there on
abbrev pub CallsTellPieces : Type 0
CallsTellPieces = (s : List ℕ) (at : ℕ) → Run s at (pieces_from s at)

-- ---- a frame that nothing cuts is found whole, whatever follows it

abbrev pub FoundWhole : Type 0
FoundWhole = (s f rest : List ℕ) (at : ℕ) → is_open f ≡ true → drop at s ≡ f ++ (CR ∷ []) ++ rest
    → pieces_from s at ≡ whole at (f ++ (CR ∷ [])) ∷ pieces_from s (at + length (f ++ (CR ∷ [])))

-- ---- every frame that a reader accepts is found whole too: it has no lead byte and no CR inside

abbrev pub FindsWhole : {R : Type 0} → Kind R → Type 0
FindsWhole {R} k = (s f rest : List ℕ) (at : ℕ) (r : R) → read k f ≡ gives r → drop at s ≡ f ++ rest
    → pieces_from s at ≡ whole at f ∷ pieces_from s (at + length f)

abbrev pub TakenAreFound : Type 0
TakenAreFound = FindsWhole request × (FindsWhole reply × FindsWhole dynamic)
