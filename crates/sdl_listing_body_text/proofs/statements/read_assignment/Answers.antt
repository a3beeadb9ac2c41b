use Rattle.sdl_listing_body_text.proofs.Reading.{reads_then}
use Rattle.sdl_listing_body_text.proofs.statements.read_assignment.Goals as goal

pub returns-clause-spelled : goal.returns-clause-spelled
returns-clause-spelled c = reads_then c.in_ok-target.ensures.spelled (reads_then c.in_ok-behind.ensures.read c.in_ok-value.ensures.spelled)
