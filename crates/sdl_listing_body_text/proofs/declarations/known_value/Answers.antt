use Rattle.std.proofs.Common.{inl}
use Rattle.sdl_listing_body_text.proofs.Reading.{reads_as}
use Rattle.sdl_listing_body_text.proofs.declarations.known_value.Goals as goal

pub returns : goal.returns
returns c = reads_as (λ ts p. inl p) c.in_ok-value.ensures.spelled
