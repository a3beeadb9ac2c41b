use Rattle.std.proofs.Common.{◌≤◌, List, length}
use Rattle.sdl_listing_tokens.specs.declared.tokens.Token.{Token}
use Rattle.sdl_listing_expression_text.specs.Spelling.{Reads}
use Rattle.sdl_listing_body_text.specs.Statements.{AreSemicolons}
use Rattle.sdl_listing_body_text.proofs.bodies.past_semicolons.Given as goal

-- what is read from here on is read from the beginning on
abbrev pub invariant-loop-rest : goal.invariant-loop-rest
invariant-loop-rest l = record {
  shorter : length l.here.tokens.now ≤ length l.fn.at.tokens.now;
  spelled : (last : List Token) → Reads AreSemicolons l.here.tokens.now last → Reads AreSemicolons l.fn.at.tokens.now last;
}

abbrev pub decreases-loop-rest : goal.decreases-loop-rest
decreases-loop-rest l = length l.here.tokens.now
