use Rattle.std.proofs.Common.{sym}
use Rattle.sdl_listing_body_text.proofs.Reading.{reads_name_that}
use Rattle.sdl_listing_body_text.proofs.rows.read_signal.Goals as goal

pub returns-in-Some : goal.returns-in-Some
returns-in-Some c = reads_name_that _ _ (sym c.in-Some.ensures) c.in_ok-text.ensures.read
