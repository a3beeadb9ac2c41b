use Rattle.sdl_listing_tokens.specs.declared.tokens.Kind.TheVariants as kind
use Rattle.sdl_listing_expression_text.proofs.Spelled.{reads_one}
use Rattle.sdl_listing_expression_text.proofs.cursor.Cursor.word.Goals as goal

pub returns-then-is_word-clause-read : goal.returns-then-is_word-clause-read
returns-then-is_word-clause-read c = reads_one (kind.Word c.args.word) c.in-Some.token c.in-Some.ensures.some (c.is_word.ensures.0 c.if-is_word.true)
