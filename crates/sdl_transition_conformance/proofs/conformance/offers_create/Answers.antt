use Rattle.std.specs.List.{Contains}
use Rattle.sdl_transition_conformance.proofs.Merely.{mere}
use Rattle.sdl_transition_conformance.proofs.conformance.offers_create.Goals as goal

pub returns : goal.returns
returns c = mere c.has_create.result (Contains c.args.creates.now c.args.set) c.has_create.ensures
