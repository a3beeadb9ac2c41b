-- What a behaviour is made of: all of it but its closures. (This project's own.)
use Rattle.std.specs.Prelude.{◌≡◌, ℕ, ◌+◌, List, [], ◌∷◌, ◌++◌, length, map, Option, Some, option_map}
use Rattle.sdl_signal.specs.declared.ids.SetId.{SetId}
use Rattle.sdl_signal.specs.declared.ids.StateId.{StateId}
use Rattle.sdl_signal.specs.declared.ids.SignalId.{SignalId}
use Rattle.sdl_signal.specs.declared.values.Value.{Value}
use Rattle.sdl_transition_saves.specs.declared.save.Save.{Save}
use Rattle.sdl_transition_behaviour.specs.declared.offer.Offer.{Offer}
use Rattle.sdl_transition_behaviour.specs.declared.transition.Transition.{Transition}
use Rattle.sdl_transition_behaviour.specs.declared.behaviour.Named.{Named}
use Rattle.sdl_transition_behaviour.specs.declared.behaviour.Row.{Row as StoredRow}
use Rattle.sdl_transition_behaviour.specs.declared.behaviour.Behaviour.{Behaviour}
use Rattle.sdl_listing_body.specs.declared.syntax.Row.{Row}
use Rattle.sdl_listing_body.specs.Offering.{offer_of}
use Rattle.sdl_transition.specs.declared.binding.Bound.{Bound}
use Rattle.sdl_transition.specs.Blocks.{AreDistributed}
use Rattle.sdl_transition.specs.Bound.{structure_of, blocks_of}
use Rattle.sdl_listing_body.specs.declared.listing.ListedSet.{ListedSet}
use Rattle.sdl_listing_binding.specs.declared.laying.Head.{Head}

-- a set but for its transitions, with the number of its rows
pub record HeadParts : Type 0 where
  pub set : SetId
  pub uses : List Named
  pub vars : List Value
  pub states : List (List ℕ)
  pub saves : List Save
  pub rows : ℕ

pub record TransitionParts : Type 0 where
  pub number : ℕ
  pub offer : Offer

-- for which state and signal it is
pub record RowParts : Type 0 where
  pub state : Option StateId
  pub signal : Option SignalId
  pub transition : TransitionParts

pub record BehaviourParts : Type 0 where
  pub head : HeadParts
  pub start : TransitionParts
  pub rows : List RowParts

abbrev pub head_parts : Head → HeadParts
head_parts h = record { set = h.set; uses = h.uses.items; vars = h.vars.items; states = map (λ n. n.bytes) h.states.items; saves = h.saves.items; rows = h.rows }

abbrev pub transition_parts : {S I : Type 0} {F : I → Type 0} {g : _} → Transition S I F g → TransitionParts
transition_parts t = record { number = t.number; offer = t.offer }

abbrev pub row_parts : {S I : Type 0} {F : I → Type 0} {g : _} → StoredRow S I F g → RowParts
row_parts r = record { state = Some r.state; signal = Some r.signal; transition = transition_parts r.transition }

abbrev pub behaviour_head : {S I : Type 0} {F : I → Type 0} {g : _} → Behaviour S I F g → HeadParts
behaviour_head b = record {
  set = b.set;
  uses = b.uses.items;
  vars = b.vars.items;
  states = map (λ n. n.bytes) b.states.items;
  saves = b.saves.items;
  rows = length b.rows.items;
}

abbrev pub behaviour_parts : {S I : Type 0} {F : I → Type 0} {g : _} → Behaviour S I F g → BehaviourParts
behaviour_parts b = record { head = behaviour_head b; start = transition_parts b.start; rows = map row_parts b.rows.items }

-- What a listing says of them. Transitions are numbered through all sets.
abbrev pub listed_head : ListedSet → HeadParts
listed_head s = record {
  set = s.set;
  uses = s.uses.items;
  vars = s.vars.items;
  states = map (λ n. n.bytes) s.states.items;
  saves = s.saves.items;
  rows = length s.rows.items;
}

abbrev pub listed_transition : ℕ → Row → TransitionParts
listed_transition number row = record { number = number; offer = offer_of row }

-- transitions of the rows, from this number on
abbrev pub listed_transitions : ℕ → List Row → List TransitionParts
listed_transitions number [] = []
listed_transitions number (row ∷ rows) = listed_transition number row ∷ listed_transitions (number + 1) rows

abbrev pub listed_row : ℕ → Row → RowParts
listed_row number row = record {
  state = row.state;
  signal = option_map (λ s. s.id) row.signal;
  transition = listed_transition number row;
}

abbrev pub listed_rows : ℕ → List Row → List RowParts
listed_rows number [] = []
listed_rows number (row ∷ rows) = listed_row number row ∷ listed_rows (number + 1) rows

abbrev pub listed_set : ℕ → ListedSet → BehaviourParts
listed_set number s = record {
  head = listed_head s;
  start = listed_transition number s.start;
  rows = listed_rows (number + 1) s.rows.items;
}

abbrev pub listed_sets : ℕ → List ListedSet → List BehaviourParts
listed_sets number [] = []
listed_sets number (s ∷ more) = listed_set number s ∷ listed_sets (number + (1 + length s.rows.items)) more

-- the behaviours of a listing
abbrev pub listed : List ListedSet → List BehaviourParts
listed sets = listed_sets 0 sets

-- the start, and then the transitions of the rows
abbrev pub transitions_in : {S I : Type 0} {F : I → Type 0} {g : _} → Behaviour S I F g → List (Transition S I F g)
transitions_in b = b.start ∷ map (λ r. r.transition) b.rows.items

-- the transitions of all these behaviours, in order
abbrev pub all_transitions : {S I : Type 0} {F : I → Type 0} {g : _} → List (Behaviour S I F g) → List (Transition S I F g)
all_transitions [] = []
all_transitions (b ∷ more) = transitions_in b ++ all_transitions more

-- the row is for the state and the signal of its transition's offer
abbrev pub IsByOffer : {S I : Type 0} {F : I → Type 0} {g : _} → StoredRow S I F g → Type 0
IsByOffer r = (r.transition.offer.state ≡ Some r.state) × (option_map (λ s. s.id) r.transition.offer.signal ≡ Some r.signal)

-- how many transitions sets of these heads have
abbrev pub count_of : List HeadParts → ℕ
count_of [] = 0
count_of (h ∷ more) = 1 + h.rows + count_of more

-- the system was bound of behaviours of these parts
pub record HasParts {S I : Type 0} {F : I → Type 0} {g : _} (parts : List BehaviourParts) (bound : Bound S I F g) : Type 0 where
  pub behaviours : List (Behaviour S I F g)
  pub parts_are : map behaviour_parts behaviours ≡ parts
  pub distributed : AreDistributed (structure_of bound) behaviours (blocks_of bound)
