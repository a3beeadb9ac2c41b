-- What the behaviours of a graph are made of. (This project's own.)
use Rattle.std.specs.Prelude.{◌≡◌, ℕ, ◌+◌, List, [], ◌∷◌, ◌++◌, length, map, Option, Some, option_map, slice_get, ◌⊎◌}
use Rattle.std.specs.Borrow.{Bor}
use Rattle.sdl_structure_parts.specs.Structure.{Structure}
use Rattle.sdl_signal.specs.declared.ids.StateId.{StateId}
use Rattle.sdl_signal.specs.declared.ids.SignalId.{SignalId}
use Rattle.sdl_signal.specs.declared.values.Value.{Value}
use Rattle.sdl_transition_saves.specs.declared.save.Save.{Save}
use Rattle.sdl_transition_behaviour.specs.declared.offer.Offer.{Offer}
use Rattle.sdl_transition_behaviour.specs.declared.transition.Transition.{Transition}
use Rattle.sdl_transition_behaviour.specs.declared.behaviour.Kind.{Kind}
use Rattle.sdl_transition_behaviour.specs.declared.behaviour.Named.{Named}
use Rattle.sdl_transition_behaviour.specs.declared.behaviour.Row.{Row}
use Rattle.sdl_transition_behaviour.specs.declared.behaviour.Behaviour.{Behaviour}
use Rattle.sdl_graph_binding.specs.declared.sets.SetDesign.{SetDesign}
use Rattle.sdl_graph_binding.specs.declared.faults.GraphFault.{GraphFault}
use Rattle.sdl_graph_binding.specs.declared.faults.GraphFault.TheVariants.{NoOffer, NoEnd}

-- the fault says that the number has no offer, or one that can neither stop nor go on
abbrev pub IsOfferFault : ℕ → GraphFault → Type 0
IsOfferFault number fault = (fault ≡ NoOffer number) ⊎ (fault ≡ NoEnd number)

-- the list has one transition more at its end, of this number and this offer
abbrev pub IsOneMore : {S I : Type 0} {F : I → Type 0} {g : _} → List (Transition S I F g) → ℕ → Offer → List (Transition S I F g) → Type 0
IsOneMore {S} {I} {F} {g} old number offer new = (t : Transition S I F g) × (new ≡ old ++ t ∷ []) × (t.number ≡ number) × (t.offer ≡ offer)

-- the start, and then the transitions of the rows
abbrev pub transitions_in : {S I : Type 0} {F : I → Type 0} {g : _} → Behaviour S I F g → List (Transition S I F g)
transitions_in b = b.start ∷ map (λ r. r.transition) b.rows.items

-- the transitions of all these behaviours, in order
abbrev pub all_transitions : {S I : Type 0} {F : I → Type 0} {g : _} → List (Behaviour S I F g) → List (Transition S I F g)
all_transitions [] = []
all_transitions (b ∷ more) = transitions_in b ++ all_transitions more

-- the row is for the state and the signal of its transition's offer
abbrev pub IsByOffer : {S I : Type 0} {F : I → Type 0} {g : _} → Row S I F g → Type 0
IsByOffer r = (r.transition.offer.state ≡ Some r.state) × (option_map (λ s. s.id) r.transition.offer.signal ≡ Some r.signal)

-- a number that a graph uses: what it numbers, and the name that is meant by it
pub record UseParts : Type 0 where
  pub kind : Kind
  pub number : ℕ
  pub name : List ℕ

-- such a number of the design
abbrev pub use_meant : Kind × ℕ × Bor (List ℕ) → UseParts
use_meant u = record { kind = u.0; number = u.1; name = u.2.now }

-- such a number of a behaviour
abbrev pub use_made : Named → UseParts
use_made n = record { kind = n.kind; number = n.number; name = n.name.bytes }

-- such a save of a behaviour
abbrev pub save_made : Save → StateId × SignalId
save_made s = (s.state, s.signal)

-- What the designer says of a set: its name, the names of its states, its variables, what its states save, and how many
-- transitions it has. The numbers that the graph uses are those of all its sets.
pub record SetParts : Type 0 where
  pub name : Option (List ℕ)
  pub states : List (List ℕ)
  pub variables : List Value
  pub saves : List (StateId × SignalId)
  pub transitions : ℕ
  pub uses : List UseParts

abbrev pub meant : List (Kind × ℕ × Bor (List ℕ)) → SetDesign → SetParts
meant uses d = record {
  name = Some d.name.now;
  states = map (λ t. t.now) d.states.now;
  variables = d.variables.now;
  saves = d.saves.now;
  transitions = d.transitions;
  uses = map use_meant uses;
}

-- The same of a behaviour. Its name is the one that the structure has at the set's number.
abbrev pub made_as : {S I : Type 0} {F : I → Type 0} {g : _} → Structure → Behaviour S I F g → SetParts
made_as s b = record {
  name = option_map (λ t. t.name.bytes) (slice_get s.sets b.set.0);
  states = map (λ n. n.bytes) b.states.items;
  variables = b.vars.items;
  saves = map save_made b.saves.items;
  transitions = length b.rows.items + 1;
  uses = map use_made b.uses.items;
}
