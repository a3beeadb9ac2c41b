use Rattle.std.proofs.Common.{subst}
use Rattle.sdl_listing_tokens.specs.declared.words.Reserved.{Reserved}
use Rattle.sdl_listing_tokens.specs.declared.tokens.Kind.TheVariants as kind
use Rattle.sdl_listing_expression_text.specs.Spelling.{IsOne, Reads}
use Rattle.sdl_listing_body_text.proofs.declarations.truth.Goals as goal

pub returns-clause-spelled : goal.returns-clause-spelled
returns-clause-spelled c =
    subst (λ (w : Reserved). Reads (IsOne (kind.Word w)) c.args.at.tokens.now c.in_ok-rest.rest.tokens.now) c.truth_word.ensures c.in_ok-rest.ensures.read
