use Rattle.std.specs.List.{Contains}
use Rattle.sdl_transition_conformance.proofs.Merely.{mere}
use Rattle.sdl_transition_conformance.proofs.conformance.offers_next.Goals as goal

pub returns : goal.returns
returns c = mere c.has_next.result (Contains c.args.nexts.now c.args.state) c.has_next.ensures
