use Rattle.std.proofs.Common.{rules}
use Rattle.sdl_listing_body_text.proofs.BodyLemmas.{none_apart, fresh_apart}
use Rattle.sdl_listing_body_text.proofs.bodies.fresh.Goals as goal

pub returns-in_default : goal.returns-in_default
returns-in_default c = none_apart c.args.at.tokens.now c.in_default.ensures.none

pub returns-then-token : goal.returns-then-token
returns-then-token c = fresh_apart c.in-Some.token _ c.args.at.tokens.now c.in-Some.ensures.some (search rules)
