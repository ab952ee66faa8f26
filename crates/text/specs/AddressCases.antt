-- Worked cases: the eleven addresses as they are shown, and back.
use Rattle.std.specs.Prelude.{◌≡◌, map}
use Rattle.digits.specs.Text.{codes}
use Rattle.text.specs.Address.{address_shown, shown_address}

pub record AddressWorked : Type 0 where
  pub addresses : map address_shown (codes " 0123456789") ≡ codes "-0123456789"
  pub addresses_back : map shown_address (codes "-0123456789") ≡ codes " 0123456789"
