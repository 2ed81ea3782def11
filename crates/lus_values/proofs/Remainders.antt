-- What the code's `%` gives is what the quotient leaves.
use Rattle.std.proofs.Common.{◌≡◌, zero, suc, ◌^◌, Bool, true, false, ℤ, pos, negsuc, ◌-ℤ◌, ◌*ℤ◌, Some, None, cond, int_div, int_rem, nat_lt, refl, ap, arith}
use Rattle.std.specs.Option.{option_map}
use Rattle.std.proofs.lemmas.Int.{ints, quot-rem}
use Rattle.lus_values.specs.Integers.{in_range, quotient, remainder}

left_by_quotient : (a b : ℤ) → a -ℤ int_div a b *ℤ b ≡ int_rem a b
left_by_quotient a b = omega (arith, ints, quot-rem a b)

option_map-cond : (f g : ℤ → ℤ) (b : Bool) (z : ℤ) → f z ≡ g z → option_map f (cond b (Some z) None) ≡ option_map g (cond b (Some z) None)
option_map-cond f g true z e = ap Some e
option_map-cond f g false z e = refl

option_map-in_range : (f g : ℤ → ℤ) (z : ℤ) → f z ≡ g z → option_map f (in_range z) ≡ option_map g (in_range z)
option_map-in_range f g (pos n) e = option_map-cond f g (nat_lt n (2 ^ 63)) (pos n) e
option_map-in_range f g (negsuc n) e = option_map-cond f g (nat_lt n (2 ^ 63)) (negsuc n) e

pub remainder-int_rem : (a b : ℤ) → remainder a b ≡ option_map (λ q. int_rem a b) (quotient a b)
remainder-int_rem a (pos zero) = refl
remainder-int_rem a (pos (suc n)) = option_map-in_range (λ q. a -ℤ q *ℤ pos (suc n)) (λ q. int_rem a (pos (suc n))) (int_div a (pos (suc n))) (left_by_quotient a (pos (suc n)))
remainder-int_rem a (negsuc n) = option_map-in_range (λ q. a -ℤ q *ℤ negsuc n) (λ q. int_rem a (negsuc n)) (int_div a (negsuc n)) (left_by_quotient a (negsuc n))
