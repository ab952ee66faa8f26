-- The worked cases of addresses hold.
use mathlib.Core.Path.{refl}
use Rattle.text.specs.Address.{address_shown, shown_address}
use Rattle.text.specs.AddressCases.{AddressWorked}

pub address_worked : AddressWorked
unfolding address_shown shown_address
address_worked = record {
  addresses = refl;
  addresses_back = refl;
}
