use Rattle.sdl_transition_behaviour.specs.Offers.{IsOfferedAs}
use Rattle.sdl_transition_conformance.proofs.Merely.{mere_at}
use Rattle.sdl_transition_conformance.proofs.conformance.offers_output.Goals as goal

pub returns : goal.returns
returns c = mere_at c.is_offered.result (IsOfferedAs c.args.signal.now c.args.via) c.args.outputs.now c.is_offered.ensures
