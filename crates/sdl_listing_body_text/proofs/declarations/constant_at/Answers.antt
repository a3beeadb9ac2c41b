use Rattle.std.proofs.Common.{sym, inr}
use Rattle.sdl_listing_body_text.proofs.Reading.{reads_as, reads_name_that}
use Rattle.sdl_listing_body_text.proofs.declarations.constant_at.Goals as goal

pub returns-in-Some : goal.returns-in-Some
returns-in-Some c = reads_as (λ ts p. inr p) (reads_name_that _ _ (sym c.in-Some.ensures) c.in_ok-text.ensures.read)
