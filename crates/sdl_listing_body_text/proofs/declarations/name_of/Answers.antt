use Rattle.std.proofs.Common.{◌∙◌}
use Rattle.std.proofs.lemmas.Option.{IfSome_then}
use Rattle.sdl_listing_body_text.proofs.declarations.name_of.Goals as goal

pub returns-in-Ok : goal.returns-in-Ok
returns-in-Ok c = IfSome_then c.name.result c.name.ensures.found (λ n p. p.0 ∙ c.in-Ok.ensures.cases.0)
