-- The texts of numbers, as `parse` reads them.
use Rattle.std.proofs.Common.{◌≡◌, ℕ, ◌^◌, ◌<◌, ℤ, pos, negsuc, List, Result, Ok, sym, ap, ◌∙◌, subst, decimal, arith}
use Rattle.std.specs.Fmt.{signed_decimal}
use Rattle.std.specs.Str.{IsUtf8}
use Rattle.std.specs.Str.Parse.{ParsesSigned, ParsesUnsigned}
use Rattle.std.proofs.lemmas.Fmt.{IsAscii-decimal, IsAscii-signed, parse-decimal, parse-signed_decimal}
use Rattle.std.proofs.lemmas.Str.{IsUtf8-from_ascii}
use Rattle.std.proofs.lemmas.Int.{ints, to_z-of_z}
use lib.Signed.{mag}
use mir.Syntax.{w64}
use mir.Val.{to_z, of_z}
use Rattle.sdl_signal.specs.Line.{IsInteger}

pub mag_of_integer : (n : ℤ) → IsInteger n → mag n < 2 ^ 63
mag_of_integer (pos n) h = omega (arith, ints, h.0, h.1)
mag_of_integer (negsuc n) h = omega (arith, ints, h.0, h.1)

pub integer_is_text : (n : ℤ) (bs : List ℕ) → IsInteger n → signed_decimal n ≡ bs → IsUtf8 bs
integer_is_text n bs h e = subst IsUtf8 e (IsUtf8-from_ascii (signed_decimal n) (IsAscii-signed n (mag_of_integer n h)))

pub integer_parses : {E : Type 0} (n : ℤ) (bs : List ℕ) (r : Result ℤ E) → IsInteger n → signed_decimal n ≡ bs → ParsesSigned w64 10 bs r → r ≡ Ok n
integer_parses n bs r h e p =
    parse-signed_decimal w64 n bs r (record { sfits = mag_of_integer n h }) (mag_of_integer n h) (sym e) p

-- a number of the program, as it is printed
pub printed_integer : (m n : ℤ) → m ≡ n → IsInteger n → signed_decimal (to_z w64 (of_z w64 m)) ≡ signed_decimal n
printed_integer m n e h =
    ap (λ z. signed_decimal (to_z w64 (of_z w64 z))) e ∙ ap signed_decimal (to_z-of_z w64 n (record { sfits = mag_of_integer n h }))

pub serial_is_text : (n : ℕ) (bs : List ℕ) → n < 2 ^ 32 → decimal n ≡ bs → IsUtf8 bs
serial_is_text n bs h e = subst IsUtf8 e (IsUtf8-from_ascii (decimal n) (IsAscii-decimal n (omega arith)))

pub serial_parses : {E : Type 0} (n : ℕ) (bs : List ℕ) (r : Result ℕ E) → n < 2 ^ 32 → decimal n ≡ bs → ParsesUnsigned 32 10 bs r → r ≡ Ok n
serial_parses n bs r h e p = parse-decimal 32 n bs r h (omega arith) (sym e) p
