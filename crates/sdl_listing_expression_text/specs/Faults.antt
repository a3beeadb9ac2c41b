-- Where the reading of tokens stops.
use Rattle.std.specs.Prelude.{ℕ, List, length}
use Rattle.sdl_listing_tokens.specs.declared.tokens.Token.{Token}
use Rattle.sdl_listing_expression_text.specs.declared.fault.TextFault.{TextFault}
use Rattle.sdl_listing_expression_text.specs.declared.fault.Stopped.{Stopped}
use Rattle.sdl_listing_expression_text.specs.declared.fault.Stopped.TheVariants as stopped

-- the fault at the first of these tokens, or at the end where there is none
abbrev pub fault_at : List Token → TextFault → Stopped
fault_at ts fault = stopped.Fault (record { fault = fault; left = length ts })

-- how many tokens are left from the fault on, and none where memory was refused
abbrev pub left_at : Stopped → ℕ
left_at stopped.Memory = 0
left_at (stopped.Fault f) = f.left
