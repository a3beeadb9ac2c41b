-- Arithmetic at its ends, by the definitions alone.
use Rattle.std.proofs.Common.{◌≡◌, refl, pos, negsuc, ◌+ℤ◌, ◌-ℤ◌, neg_ℤ, true, false}
use Rattle.sdl_listing_expression.specs.Arithmetic.{least, greatest, bounded, is_outside, quotient_of, remainder_of, modulo_of}

pub above : bounded (greatest +ℤ pos 1) ≡ greatest
above = refl

pub above_is_outside : is_outside (greatest +ℤ pos 1) ≡ true
above_is_outside = refl

pub below : bounded (least -ℤ pos 1) ≡ least
below = refl

pub ends_are_inside : is_outside greatest ≡ false
ends_are_inside = refl

pub least_is_inside : is_outside least ≡ false
least_is_inside = refl

pub least_negated : bounded (neg_ℤ least) ≡ greatest
least_negated = refl

pub least_divided : quotient_of least (negsuc 0) ≡ greatest
least_divided = refl

pub fraction_dropped : quotient_of (negsuc 6) (pos 2) ≡ negsuc 2
fraction_dropped = refl

pub by_zero : quotient_of (pos 7) (pos 0) ≡ pos 0
by_zero = refl

-- -7 rem 2 is -1 and -7 mod 2 is 1, and the sign of the divisor does not count
pub remainder_of_negative : remainder_of (negsuc 6) (pos 2) ≡ negsuc 0
remainder_of_negative = refl

pub modulo_of_negative : modulo_of (negsuc 6) (pos 2) ≡ pos 1
modulo_of_negative = refl

pub modulo_by_negative : modulo_of (negsuc 6) (negsuc 1) ≡ pos 1
modulo_by_negative = refl

pub modulo_of_least : modulo_of least (negsuc 0) ≡ pos 0
modulo_of_least = refl
