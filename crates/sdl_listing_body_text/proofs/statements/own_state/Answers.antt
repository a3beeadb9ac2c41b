use Rattle.std.proofs.Common.{inr}
use Rattle.sdl_listing_body_text.proofs.Reading.{reads_as}
use Rattle.sdl_listing_body_text.proofs.statements.own_state.Goals as goal

pub returns-in_ok-rest-in-Some-clause-spelled : goal.returns-in_ok-rest-in-Some-clause-spelled
returns-in_ok-rest-in-Some-clause-spelled c = reads_as (λ ts p. inr (c.in-Some.is, p)) c.in_ok-rest-in-Some.ensures.read
