-- An offer that goes on, one that stops and one that cannot end; and the step that does nothing.
use Rattle.std.proofs.Common.{arith, Bool, true, false, List, [], ◌∷◌, ◌≡◌, None, length, refl, ap, sym, inl, inr}
use Rattle.sdl_signal.specs.declared.ids.StateId.{StateId}
use Rattle.sdl_transition_behaviour.specs.declared.offer.Offer.{Offer}
use Rattle.sdl_transition_behaviour.specs.declared.step.Frame.{Frame}
use Rattle.sdl_transition_behaviour.specs.declared.step.Next.{Next}
use Rattle.sdl_transition_behaviour.specs.declared.step.Next.TheVariants.{State, Stop}
use Rattle.sdl_transition_behaviour.specs.declared.step.Step.{Step}
use Rattle.sdl_transition_behaviour.specs.declared.step.Action.{Action}
use Rattle.sdl_transition_behaviour.specs.Offers.{IsBlank}
use Rattle.sdl_transition_conformance.specs.Stay.{CanEnd, DoesNothing}

abbrev idle : StateId
idle = record { 0 = 0 }

abbrev busy : StateId
busy = record { 0 = 1 }

abbrev offer : List StateId → Bool → Offer
offer states stops = record {
  state = None;
  signal = None;
  vars = record { items = [] };
  outputs = record { items = [] };
  creates = record { items = [] };
  nexts = record { items = states };
  may_stop = stops;
  sets = 1;
}

abbrev nothing : Next → Step
nothing next = record { actions = record { items = [] }; vars = record { items = [] }; next = next }

pub goes_on : CanEnd (offer (idle ∷ []) false)
goes_on = inl (omega arith)

pub stops : CanEnd (offer [] true)
stops = inr refl

pub cannot_end : CanEnd (offer [] false) → ⊥
cannot_end (inl few) = omega (arith, few)
cannot_end (inr stop) = cc

-- it leads to the first next state
pub stays : (frame : Frame) → frame.vars.items ≡ [] → DoesNothing (offer (busy ∷ idle ∷ []) true) frame (nothing (State busy))
stays frame e = record { actions = refl; vars = sym e; next = refl }

-- where there is one, a stop is not it
pub does_not_stop : (frame : Frame) → DoesNothing (offer (busy ∷ idle ∷ []) true) frame (nothing Stop) → ⊥
does_not_stop frame n = let f : Stop ≡ State busy = n.next in cc

-- without next states it stops
pub stops_alone : (frame : Frame) → frame.vars.items ≡ [] → DoesNothing (offer [] true) frame (nothing Stop)
stops_alone frame e = record { actions = refl; vars = sym e; next = refl }

-- into which nothing was put yet, whatever its end
pub unfilled : (next : Next) → IsBlank (nothing next)
unfilled next = record { actions = refl; vars = refl }

pub filled : (a : Action) → IsBlank (record (nothing Stop) { actions = record { items = a ∷ [] } }) → ⊥
filled a blank = let n : length (a ∷ []) ≡ 0 = ap length blank.actions in omega (arith, n)
