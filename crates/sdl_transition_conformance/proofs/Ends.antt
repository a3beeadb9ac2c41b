-- An offer to which some step conforms can end.
use Rattle.std.proofs.Common.{arith, List, length, ◌≤◌, inl, inr}
use Rattle.std.specs.List.{Contains}
use Rattle.std.proofs.Math.Logic.{∥∥₁_elim}
use Rattle.std.proofs.Props.{props}
use Rattle.sdl_transition_behaviour.specs.declared.offer.Offer.{Offer}
use Rattle.sdl_transition_behaviour.specs.declared.step.Next.{Next}
use Rattle.sdl_transition_behaviour.specs.declared.step.Next.TheVariants.{State, Stop}
use Rattle.sdl_transition_behaviour.specs.declared.step.Step.{Step}
use Rattle.sdl_transition_behaviour.specs.Offers.{IsNextOf, Conforms}
use Rattle.sdl_transition_conformance.specs.Stay.{CanEnd}

some_of_contains : {X : Type 0} (xs : List X) (x : X) → Contains xs x → 1 ≤ length xs
some_of_contains xs x (k, below, is) = omega (arith, below)

end_of_next : (offer : Offer) (next : Next) → IsNextOf offer next → CanEnd offer
end_of_next offer (State state) h = inl (∥∥₁_elim h (hlevel props) (λ c. some_of_contains offer.nexts.items state c))
end_of_next offer Stop h = inr h

pub ends_of_conforms : (offer : Offer) (step : Step) → Conforms offer step → CanEnd offer
ends_of_conforms offer step c = end_of_next offer step.next c.next
