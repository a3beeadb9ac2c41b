use Rattle.std.proofs.Common.{sym}
use Rattle.sdl_listing_expression_text.proofs.Spelled.{reads_operator}
use Rattle.sdl_listing_expression_text.proofs.expressions.infix_at.Goals as goal

pub returns-then-found-level-clause-read : goal.returns-then-found-level-clause-read
returns-then-found-level-clause-read c = reads_operator c.in-Some-infix_of.found c.in-Some.token c.in-Some.ensures.some (sym c.in-Some-infix_of.ensures)
