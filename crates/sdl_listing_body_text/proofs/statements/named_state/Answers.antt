use Rattle.std.proofs.Common.{sym, inl}
use Rattle.sdl_listing_body_text.proofs.Reading.{reads_name_that, reads_as}
use Rattle.sdl_listing_body_text.proofs.statements.named_state.Goals as goal

pub returns-in-Some-clause-spelled : goal.returns-in-Some-clause-spelled
returns-in-Some-clause-spelled c = reads_as (λ ts p. inl p) (reads_name_that _ _ (sym c.in-Some.ensures) c.in_ok-text.ensures.read)
