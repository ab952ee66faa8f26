-- A list is the list of the capture, no two addresses look alike in it, and a refused call changes nothing that is lent. Assumes nothing.
use Prim.Native.Nat.{ℕ}
use mathlib.Core.Bool.{Bool, true, false}
use mathlib.Core.Path.{◌≡◌, refl, sym, ◌∙◌}
use native.Mathlib.Omega.{arith}
use lib.Dec.{eqb}
use borrow.Author.Tests.{eqb-true}
use Rattle.digits.specs.Told.{gives, refuses, tried}
use Rattle.digits.specs.declared.refusal.Refusal.{Refusal}
use Rattle.digits.specs.Refusals.{ROOM}
use Rattle.digits.proofs.Tests.{by-test}
use Rattle.frames.specs.Rules.{space, between, is_address}
use Rattle.text.specs.Address.{minus, address_shown}
use Rattle.listing.specs.Listing.{fits}
use Rattle.listing.specs.Demands.{ListIsOfCapture, AddressesStayApart, RefusedKeeps}
use Rattle.listing.proofs.StoreLaws.{store_desk}

pub list_is_of_capture : ListIsOfCapture
list_is_of_capture cells marks s = rw (store_desk cells marks s)

-- the minus sign is no address, so an address that is shown as one is a space
minus_none : is_address minus ≡ true → ⊥
unfolding is_address between
minus_none e = let z : ◌≡◌ {A = ℕ} 0 1 = cc in omega arith

shown_space : (a : ℕ) → is_address a ≡ true → address_shown a ≡ minus → a ≡ space
unfolding address_shown
shown_space a h e = by-test (eqb a space) (λ q. eqb-true a space q) (λ q. let s : a ≡ minus = rw q at e in absurd (minus_none (rw s at h)))

pub addresses_stay_apart : AddressesStayApart
unfolding address_shown
addresses_stay_apart a b h k es =
    let e : address_shown a ≡ address_shown b = cc in
    by-test (eqb a space)
    (λ q. let s : minus ≡ address_shown b = rw q at e in eqb-true a space q ∙ sym (shown_space b k (sym s)))
    (λ q. let s : a ≡ address_shown b = rw q at e in
    by-test (eqb b space)
    (λ r. let m : a ≡ minus = rw r at s in absurd (minus_none (rw m at h)))
    (λ r. rw r at s))

not_fitting : (b : Bool) (n : ℕ) (f : Refusal) → tried b ROOM (gives n) ≡ refuses f → b ≡ false
not_fitting true n f e = absurd (let z : ◌≡◌ {A = ℕ} 0 1 = cc in omega arith)
not_fitting false n f e = refl

pub refused_keeps : RefusedKeeps
refused_keeps cells marks s out answer cells' marks' out' f d h =
    let no = not_fitting (fits cells marks s out) _ f (sym d.told ∙ h) in
    record { same_cells = d.cells ∙ rw no; same_marks = d.marks ∙ rw no; same_out = d.bytes ∙ rw no }
