use Rattle.std.proofs.Common.{refl}
use Rattle.sdl_listing_expression_text.proofs.Spelled.{reads_name}
use Rattle.sdl_listing_expression_text.proofs.cursor.Cursor.name.Goals as goal

pub returns-in-Name-clause-read : goal.returns-in-Name-clause-read
returns-in-Name-clause-read c = reads_name c.in-Some.token.text.now c.in-Some.token c.in-Some.ensures.some c.in-Name.is refl
