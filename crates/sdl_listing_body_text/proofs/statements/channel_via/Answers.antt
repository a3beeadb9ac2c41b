use Rattle.std.proofs.Common.{sym}
use Rattle.sdl_listing_body_text.proofs.Reading.{reads_name_that, reads_then}
use Rattle.sdl_listing_body_text.proofs.statements.channel_via.Goals as goal

pub returns-in-Some-clause-spelled : goal.returns-in-Some-clause-spelled
returns-in-Some-clause-spelled c = reads_then c.in_ok-at.ensures.read (reads_name_that _ _ (sym c.in-Some.ensures) c.in_ok-text.ensures.read)
