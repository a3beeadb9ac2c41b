-- Arithmetic on Integers, which are the numbers of 64 bits with a sign. It is total: what leaves their range is bent to the nearest.
use Rattle.std.specs.Prelude.{◌-◌, ◌^◌, ℤ, pos, negsuc, int_lt, int_div, int_rem, Bool, ◌||◌, if◌then◌else◌}
use Rattle.std.specs.Int.{int_rem_euclid}
use Rattle.std.specs.Ordering.{int_eq}

abbrev pub least : ℤ
least = negsuc (2 ^ 63 - 1)

abbrev pub greatest : ℤ
greatest = pos (2 ^ 63 - 1)

-- the number is no Integer
abbrev pub is_outside : ℤ → Bool
is_outside n = int_lt n least || int_lt greatest n

-- the nearest Integer
abbrev pub bounded : ℤ → ℤ
bounded n = if int_lt n least then least else (if int_lt greatest n then greatest else n)

abbrev pub is_zero : ℤ → Bool
is_zero n = int_eq n (pos 0)

-- the quotient without its fraction; a division by 0 gives 0
abbrev pub quotient_of : ℤ → ℤ → ℤ
quotient_of a b = if is_zero b then pos 0 else bounded (int_div a b)

-- a less the divisor times the quotient: it has the sign of a
abbrev pub remainder_of : ℤ → ℤ → ℤ
remainder_of a b = if is_zero b then pos 0 else int_rem a b

-- the same of the quotient for which it is from 0 up, and below the divisor without its sign
abbrev pub modulo_of : ℤ → ℤ → ℤ
modulo_of a b = if is_zero b then pos 0 else int_rem_euclid a b
