use Rattle.sdl_listing_tokens.specs.declared.tokens.Kind.TheVariants as kind
use Rattle.sdl_listing_expression_text.proofs.Spelled.{reads_one}
use Rattle.sdl_listing_expression_text.proofs.cursor.Cursor.sign.Goals as goal

pub returns-then-is_sign-clause-read : goal.returns-then-is_sign-clause-read
returns-then-is_sign-clause-read c = reads_one (kind.Sign c.args.sign) c.in-Some.token c.in-Some.ensures.some (c.is_sign.ensures.0 c.if-is_sign.true)
