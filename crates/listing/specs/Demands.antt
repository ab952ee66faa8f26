-- What is demanded of a list: it is the list of the capture, no two addresses look alike in it, and a refused call changes nothing that is lent.
use Rattle.std.specs.Prelude.{ℕ, List, [], ◌∷◌, true, ◌≡◌, Result}
use Rattle.digits.specs.declared.refusal.Refusal.{Refusal}
use Rattle.digits.specs.Told.{gives, refuses}
use Rattle.frames.specs.Rules.{is_address}
use Rattle.desk.specs.Capture.{captures}
use Rattle.listing.specs.declared.ListRefusal.{ListRefusal}
use Rattle.listing.specs.Text.{address, looks}
use Rattle.listing.specs.Listing.{store, after, counts, list_told, Listed}

-- its rows and counts are those of the capture, taken on an emptied desk: so what is proved of a capture holds of a list too
abbrev pub ListIsOfCapture : Type 0
ListIsOfCapture = (cells marks s : List ℕ) → captures (store cells marks) s ≡ record { answer = gives (counts cells marks s); after = after cells marks s }

-- two addresses that are shown alike are the same
abbrev pub AddressesStayApart : Type 0
AddressesStayApart = (a b : ℕ) → is_address a ≡ true → is_address b ≡ true → looks address (a ∷ []) ≡ looks address (b ∷ []) → a ≡ b

pub record Untouched (cells marks out cells' marks' out' : List ℕ) : Type 0 where
  pub same_cells : cells' ≡ cells
  pub same_marks : marks' ≡ marks
  pub same_out : out' ≡ out

abbrev pub RefusedKeeps : Type 0
RefusedKeeps =
    (cells marks s out : List ℕ) (answer : Result ℕ ListRefusal) (cells' marks' out' : List ℕ) (f : Refusal)
    → Listed cells marks s out answer cells' marks' out' → list_told answer ≡ refuses f → Untouched cells marks out cells' marks' out'
