-- What a transition of a graph answers.
use Rattle.std.specs.Prelude.{◌≡◌}
use Rattle.sdl_transition_behaviour.specs.declared.step.Frame.{Frame}
use Rattle.sdl_transition_behaviour.specs.declared.step.Step.{Step}
use Rattle.sdl_transition_behaviour.specs.declared.offer.Offer.{Offer}
use Rattle.sdl_transition_behaviour.specs.Offers.{Conforms}
use Rattle.sdl_transition_conformance.specs.Stay.{DoesNothing}

-- the step is the graph's own where that conforms to the offer, and else the one that does nothing
pub record IsKept (offer : Offer) (frame : Frame) (own step : Step) : Type 0 where
  pub same : Conforms offer own → step ≡ own
  pub nothing : ¬ Conforms offer own → DoesNothing offer frame step
