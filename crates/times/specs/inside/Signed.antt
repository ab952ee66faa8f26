-- A signed number as the code splits it: whether it is below zero, and the number without its sign.
use Rattle.std.specs.Prelude.{ℤ, nat_abs}
use Rattle.times.specs.declared.signed.SignAndSize.{SignAndSize}
use Rattle.times.specs.Net.{is_below}

abbrev pub apart_of : ℤ → SignAndSize
apart_of v = record { minus = is_below v; size = nat_abs v }
