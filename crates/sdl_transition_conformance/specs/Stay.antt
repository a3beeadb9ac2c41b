-- The step that does nothing, and the offers that it conforms to.
use Rattle.std.specs.Prelude.{◌≡◌, ◌≤◌, List, [], ◌∷◌, length, IsTrue, ◌⊎◌}
use Rattle.sdl_signal.specs.declared.ids.StateId.{StateId}
use Rattle.sdl_transition_behaviour.specs.declared.offer.Offer.{Offer}
use Rattle.sdl_transition_behaviour.specs.declared.step.Frame.{Frame}
use Rattle.sdl_transition_behaviour.specs.declared.step.Next.{Next}
use Rattle.sdl_transition_behaviour.specs.declared.step.Next.TheVariants.{State, Stop}
use Rattle.sdl_transition_behaviour.specs.declared.step.Step.{Step}

-- the offer has a next state, or its transition may stop
abbrev pub CanEnd : Offer → Type 0
CanEnd offer = (1 ≤ length offer.nexts.items) ⊎ IsTrue offer.may_stop

-- the first of these next states, or a stop where there is none
abbrev pub first_or_stop : List StateId → Next
first_or_stop [] = Stop
first_or_stop (state ∷ _) = State state

abbrev pub next_of_stay : Offer → Next
next_of_stay offer = first_or_stop offer.nexts.items

-- the step has no action, leaves the variables of the frame as they are, and goes to the first next state of the offer
pub record DoesNothing (offer : Offer) (frame : Frame) (step : Step) : Type 0 where
  pub actions : step.actions.items ≡ []
  pub vars : step.vars.items ≡ frame.vars.items
  pub next : step.next ≡ next_of_stay offer
