use Rattle.std.proofs.Common.{◌≡◌, ◌+◌, ◌≤◌, length, drop, List, ◌++◌}
use Rattle.std.specs.Prelude.{All}
use Rattle.sdl_listing_tokens.specs.declared.tokens.Token.{Token}
use Rattle.sdl_listing_tokens.specs.Tokens.{AreTokens}
use Rattle.sdl_listing_tokens.proofs.tokens.cut.Given as goal

abbrev pub invariant-loop-gap : goal.invariant-loop-gap
invariant-loop-gap l = record {
  place : l.at + length l.rest ≡ length l.text;
  left : l.rest ≡ drop l.at l.text;
  tokens : (more : List Token) → AreTokens l.at l.rest more → AreTokens 0 l.text (l.tokens.items ++ more);
  all : All (λ t. t.start + length t.text.now ≤ length l.text) l.tokens.items;
}

abbrev pub decreases-loop-gap : goal.decreases-loop-gap
decreases-loop-gap l = length l.rest
