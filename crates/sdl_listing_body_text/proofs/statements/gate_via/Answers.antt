use Rattle.std.proofs.Common.{sym, rules}
use Rattle.sdl_listing_body_text.proofs.Reading.{reads_name_that}
use Rattle.sdl_listing_body_text.proofs.statements.gate_via.Goals as goal

pub returns-clause-spelled : goal.returns-clause-spelled
returns-clause-spelled c = reads_name_that _ _ (sym c.in-Some.ensures, search rules) c.in_ok-text.ensures.read
