use Rattle.std.proofs.Common.{rules}
use Rattle.sdl_listing_body_text.proofs.Reading.{reads_from, reads_to, reads_and, reads_then}
use Rattle.sdl_listing_body_text.proofs.statements.read_create.Goals as goal

pub returns-clause-spelled : goal.returns-clause-spelled
returns-clause-spelled c =
    reads_and (search rules) (reads_to c.created.ensures.tokens (reads_then c.in_ok-word.ensures.read (reads_from c.acted-behind.ensures.tokens c.in_ok-set.ensures.spelled)))
