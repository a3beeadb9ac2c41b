use Rattle.std.proofs.Common.{◌≡◌, take, false, Some}
use Rattle.sdl_listing_tokens.specs.Tokens.{gap_after}
use Rattle.sdl_listing_tokens.proofs.tokens.gap_length.Given as goal

abbrev pub invariant-loop-i : goal.invariant-loop-i
invariant-loop-i l = gap_after false (take l.i l.text) ≡ Some l.in_comment
