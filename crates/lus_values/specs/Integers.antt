-- Integers of streams. That they have 64 bits is this project's choice: the reference manual leaves their range open.
use Rattle.std.specs.Prelude.{zero, ◌^◌, Bool, false, ℤ, pos, negsuc, ◌-ℤ◌, ◌*ℤ◌, int_div, nat_eq, nat_lt, Option, Some, None, if◌then◌else◌}
use Rattle.std.specs.Option.{option_map}

abbrev pub int_equal : ℤ → ℤ → Bool
int_equal (pos a) (pos b) = nat_eq a b
int_equal (negsuc a) (negsuc b) = nat_eq a b
int_equal _ _ = false

-- the number, if it lies from -9223372036854775808 to 9223372036854775807
abbrev pub in_range : ℤ → Option ℤ
in_range (pos n) = if nat_lt n (2 ^ 63) then Some (pos n) else None
in_range (negsuc n) = if nat_lt n (2 ^ 63) then Some (negsuc n) else None

-- the quotient, rounded toward zero; none by 0
abbrev pub quotient : ℤ → ℤ → Option ℤ
quotient a (pos zero) = None
quotient a b = in_range (int_div a b)

-- what the quotient leaves: a = (a div b) * b + (a mod b)
abbrev pub remainder : ℤ → ℤ → Option ℤ
remainder a b = option_map (λ q. a -ℤ q *ℤ b) (quotient a b)
