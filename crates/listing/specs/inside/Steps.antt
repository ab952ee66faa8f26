-- What the two steps of the call leave: taking the capture, and writing the text.
use Rattle.std.specs.Prelude.{ℕ, List, ◌++◌, ◌≡◌, cond, length, drop, leb, Result}
use Rattle.digits.specs.Told.{gives, tried}
use Rattle.digits.specs.Refusals.{ROOM}
use Rattle.listing.specs.declared.Taken.{Taken}
use Rattle.listing.specs.declared.ListRefusal.{ListRefusal}
use Rattle.listing.specs.Listing.{after, counts, list_told}

-- a capture taken on an emptied desk
pub record TakenAs (cells marks s : List ℕ) (t : Taken) (cells' marks' : List ℕ) : Type 0 where
  pub count : t.count ≡ (after cells marks s).count
  pub four : t.counts ≡ counts cells marks s
  pub kept_cells : cells' ≡ (after cells marks s).cells
  pub kept_marks : marks' ≡ (after cells marks s).marks

-- a text written to the first bytes of an output, or not at all
pub record WroteAll (text out : List ℕ) (answer : Result ℕ ListRefusal) (out' : List ℕ) : Type 0 where
  pub told : list_told answer ≡ tried (leb (length text) (length out)) ROOM (gives (length text))
  pub bytes : out' ≡ cond (leb (length text) (length out)) (text ++ drop (length text) out) out
