-- Net times: a sign, days and a time of day, as one signed value in ticks.
use Rattle.std.specs.Prelude.{ℕ, ◌+◌, ◌*◌, ◌/◌, ◌%◌, Bool, true, false, cond, not, ◌&&◌, ◌≡◌, eqb, leb, ℤ, pos, negsuc, neg_ℤ, nat_abs, Option, Some, None}
use Rattle.times.specs.declared.net.NetParts.{NetParts}
use Rattle.times.specs.Clock.{a_day, last_tick}

-- n, or -n if the flag is true
abbrev pub signed : Bool → ℕ → ℤ
signed true n = neg_ℤ (pos n)
signed false n = pos n

-- whether a value is below zero
abbrev pub is_below : ℤ → Bool
is_below (pos n) = false
is_below (negsuc n) = true

-- a net time: days of at most seven digits, a time of day, and no minus if both are zero
unfoldable pub is_net : NetParts → Bool
is_net p = leb p.days 9999999 && leb p.time last_tick && not (p.minus && (eqb p.days 0 && eqb p.time 0))

-- the days in ticks plus the time, with the sign: the minus covers days and time together
abbrev pub net_sum : NetParts → ℤ
net_sum p = signed p.minus (p.days * a_day + p.time)

-- the value of a net time; parts that are no net time have none
unfoldable pub net_value : NetParts → Option ℤ
net_value p = cond (is_net p) (Some (net_sum p)) None

-- the parts of a value: its sign, and the whole days and the time of the value without its sign
abbrev pub net_parts : ℤ → NetParts
net_parts v = record { minus = is_below v; days = nat_abs v / a_day; time = nat_abs v % a_day }

-- both ways: taking apart the value of a net time returns its parts, and the parts of any number add up to that number
pub record NetInverse : Type 0 where
  pub back : (p : NetParts) → is_net p ≡ true → net_parts (net_sum p) ≡ p
  pub again : (v : ℤ) → net_sum (net_parts v) ≡ v

-- the values of net times are the whole numbers of at most 8,639,999,999,999,999, above and below zero
abbrev pub is_net_value : ℤ → Bool
is_net_value v = leb (nat_abs v) 8639999999999999

abbrev pub NetRange : Type 0
NetRange = (v : ℤ) → is_net (net_parts v) ≡ is_net_value v

-- worked cases: parts from sign, days and time; what a plus and a minus are worth, and zero
abbrev pub parts : Bool → ℕ → ℕ → NetParts
parts minus days time = record { minus = minus; days = days; time = time }

pub record NetWorked : Type 0 where
  pub plus : net_value (parts false 0 725400) ≡ Some (pos 725400)
  pub minus_second : net_value (parts true 0 10000) ≡ Some (negsuc 9999)
  pub minus_day : net_value (parts true 1 863990000) ≡ Some (negsuc 1727989999)
  pub plus_zero : net_value (parts false 0 0) ≡ Some (pos 0)
  pub minus_zero : net_value (parts true 0 0) ≡ None
  pub of_plus : net_parts (pos 864000001) ≡ parts false 1 1
  pub of_minus_second : net_parts (negsuc 9999) ≡ parts true 0 10000
  pub of_minus_day : net_parts (negsuc 1727989999) ≡ parts true 1 863990000
  pub of_zero : net_parts (pos 0) ≡ parts false 0 0
