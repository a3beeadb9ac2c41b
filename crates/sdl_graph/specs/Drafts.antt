-- Offers and steps that are being put together.
use Rattle.std.specs.Prelude.{Bool, List}
use Rattle.sdl_signal.specs.declared.ids.SignalId.{SignalId}
use Rattle.sdl_signal.specs.declared.values.Sort.{Sort}
use Rattle.sdl_transition_behaviour.specs.declared.offer.SignalSorts.{SignalSorts}
use Rattle.sdl_transition_behaviour.specs.declared.offer.Offer.{Offer}
use Rattle.sdl_transition_behaviour.specs.declared.step.Step.{Step}
use Rattle.sdl_transition_behaviour.specs.Offers.{Conforms}

-- an offer, and whether all that was said of it found room
pub record OfferDraft : Type 0 where
  pub offer : Offer
  pub fits : Bool

-- a step, and whether all that was said of it found room
pub record StepDraft : Type 0 where
  pub step : Step
  pub fits : Bool

abbrev pub sorted : SignalId → List Sort → SignalSorts
sorted id sorts = record { id = id; sorts = record { items = sorts } }

-- the step conforms to no offer whatever
abbrev pub ConformsToNone : Step → Type 0
ConformsToNone step = (offer : Offer) → ¬ Conforms offer step
