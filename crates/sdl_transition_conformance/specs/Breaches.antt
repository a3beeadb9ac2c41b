-- What of a step its offer does not allow.
use Rattle.std.specs.Prelude.{◌≡◌, ℕ, ◌<◌, List, ◌∷◌, ◌++◌, All, option_map, slice_get, IfSome, ◌⊎◌}
use Rattle.sdl_signal.specs.declared.values.Sort.{Sort}
use Rattle.sdl_signal.specs.declared.values.Value.{Value}
use Rattle.sdl_signal.specs.declared.values.Signal.{Signal}
use Rattle.sdl_signal.specs.Sorts.{sort_of}
use Rattle.sdl_transition_behaviour.specs.declared.step.Dest.{Dest}
use Rattle.sdl_transition_behaviour.specs.declared.step.Action.{Action}
use Rattle.sdl_transition_behaviour.specs.declared.step.Action.TheVariants.{Output, Create}
use Rattle.sdl_transition_behaviour.specs.declared.step.Next.{Next}
use Rattle.sdl_transition_behaviour.specs.declared.step.Next.TheVariants.{State, Stop}
use Rattle.sdl_transition_behaviour.specs.declared.step.Step.{Step}
use Rattle.sdl_transition_behaviour.specs.declared.offer.Offer.{Offer}
use Rattle.sdl_transition_behaviour.specs.Offers.{IsLegalValue, IsLegalDest, IsActionOf, IsNextOf}
use Rattle.sdl_transition_conformance.specs.declared.broken.Breach.{Breach}
use Rattle.sdl_transition_conformance.specs.declared.broken.Breach.TheVariants as breach

-- the Pids that an output names, as its parameters and its destination, can be ones
abbrev pub NamesLegal : Offer → Signal → Dest → Type 0
NamesLegal offer signal dest = All (IsLegalValue offer.sets) signal.params.items × IsLegalDest offer.sets dest

-- What is said of an action that is not offered: of an output with a Pid that can be none only this, else its signal and its VIA.
abbrev pub IsBreachOfAction : Offer → Action → Breach → Type 0
IsBreachOfAction offer (Output signal dest via) b =
    ¬ IsActionOf offer (Output signal dest via)
    × ((NamesLegal offer signal dest × (b ≡ breach.Output signal.id via)) ⊎ (¬ NamesLegal offer signal dest × (b ≡ breach.NoInstance signal.id)))
IsBreachOfAction offer (Create set) b = ¬ IsActionOf offer (Create set) × (b ≡ breach.Create set)

-- this is said of one of the actions, and all before it are offered
pub record IsFirstOfActions (offer : Offer) (actions : List Action) (b : Breach) : Type 0 where
  pub before : List Action
  pub own : Action
  pub behind : List Action
  pub place : actions ≡ before ++ own ∷ behind
  pub offered : All (IsActionOf offer) before
  pub broken : IsBreachOfAction offer own b

-- at this place there is a variable of the offered sort that can be one; or neither a variable nor a sort
pub record FitsAt (sets : ℕ) (values : List Value) (sorts : List Sort) (place : ℕ) : Type 0 where
  pub sort : option_map sort_of (slice_get values place) ≡ slice_get sorts place
  pub legal : IfSome (slice_get values place) (IsLegalValue sets)

-- it is not so at this place, and at all before it is
pub record IsFirstVariable (sets : ℕ) (values : List Value) (sorts : List Sort) (place : ℕ) : Type 0 where
  pub broken : ¬ FitsAt sets values sorts place
  pub before : (k : ℕ) → k < place → FitsAt sets values sorts k

abbrev pub breach_of_end : Next → Breach
breach_of_end (State state) = breach.NextState state
breach_of_end Stop = breach.Stop

-- what is said of the variables of a step
pub record IsOfVariables (offer : Offer) (step : Step) (b : Breach) : Type 0 where
  pub place : ℕ
  pub first : IsFirstVariable offer.sets step.vars.items offer.vars.items place
  pub said : b ≡ breach.Variable place

-- What is said of a step that does not conform: of its first action that is not offered; of its end, where all actions are; of its
-- variables, where the end is offered too.
abbrev pub IsFirstBroken : Offer → Step → Breach → Type 0
IsFirstBroken offer step b =
    IsFirstOfActions offer step.actions.items b
    ⊎ (All (IsActionOf offer) step.actions.items
    × ((¬ IsNextOf offer step.next × (b ≡ breach_of_end step.next)) ⊎ (IsNextOf offer step.next × IsOfVariables offer step b)))
