-- What a behaviour declares: all of it but its closures.
use Rattle.std.specs.Prelude.{ℕ, List, [], ◌∷◌, map, length, ◌⊎◌}
use Rattle.sdl_signal.specs.declared.ids.SetId.{SetId}
use Rattle.sdl_signal.specs.declared.ids.SignalId.{SignalId}
use Rattle.sdl_signal.specs.declared.ids.StateId.{StateId}
use Rattle.sdl_signal.specs.declared.values.Value.{Value}
use Rattle.sdl_transition_saves.specs.declared.save.Save.{Save}
use Rattle.sdl_transition_behaviour.specs.declared.offer.Offer.{Offer}
use Rattle.sdl_transition_behaviour.specs.declared.behaviour.Named.{Named}
use Rattle.sdl_transition_behaviour.specs.declared.behaviour.Row.{Row}
use Rattle.sdl_transition_behaviour.specs.declared.behaviour.Behaviour.{Behaviour}

pub record DeclaredRow : Type 0 where
  pub state : StateId
  pub signal : SignalId
  pub offer : Offer

-- the number of its states stands for their names
pub record DeclaredBehaviour : Type 0 where
  pub set : SetId
  pub uses : List Named
  pub vars : List Value
  pub states : ℕ
  pub start : Offer
  pub rows : List DeclaredRow
  pub saves : List Save

abbrev pub declared_row : {S I : Type 0} {F : I → Type 0} {g : _} → Row S I F g → DeclaredRow
declared_row r = record { state = r.state; signal = r.signal; offer = r.transition.offer }

abbrev pub declared_behaviour : {S I : Type 0} {F : I → Type 0} {g : _} → Behaviour S I F g → DeclaredBehaviour
declared_behaviour b = record {
  set = b.set;
  uses = b.uses.items;
  vars = b.vars.items;
  states = length b.states.items;
  start = b.start.offer;
  rows = map declared_row b.rows.items;
  saves = b.saves.items;
}

-- it is so of one of the list
abbrev pub HasOne : {X : Type 0} → (X → Type 0) → List X → Type 0
HasOne P [] = ⊥
HasOne P (x ∷ xs) = P x ⊎ HasOne P xs

-- two of the list, one after the other, are in the relation
abbrev pub HasTwo : {X : Type 0} → (X → X → Type 0) → List X → Type 0
HasTwo R [] = ⊥
HasTwo R (x ∷ xs) = HasOne (R x) xs ⊎ HasTwo R xs

-- it is so of the start's offer, or of the offer of a row
unfoldable pub SomeOffer : (Offer → Type 0) → DeclaredBehaviour → Type 0
SomeOffer P b = P b.start ⊎ HasOne (λ row. P row.offer) b.rows
