-- What a step of a block chooses by its pick. (Z.101 leaves these choices open; that a pick makes them is this project's own.)
use Rattle.std.specs.Prelude.{◌≡◌, ℕ, ◌%◌, ◌⊎◌, [], ◌∷◌, ◌++◌, List, None}
use Rattle.sdl_signal.specs.declared.values.Pid.{Pid}
use Rattle.sdl_signal.specs.declared.values.Item.{Item}
use Rattle.sdl_signal.specs.declared.ids.SetId.{SetId}
use Rattle.sdl_routes.specs.declared.route.TableRow.{TableRow}
use Rattle.sdl_transition_behaviour.specs.declared.step.Frame.{Frame}
use Rattle.sdl_transition_behaviour.specs.declared.step.Step.{Step}
use Rattle.sdl_instances_log.specs.declared.event.Event.{Event}
use Rattle.sdl_instances_log.specs.declared.event.Arrival.{Arrival}
use Rattle.sdl_instances_log.specs.declared.event.Arrival.TheVariants as arrival
use Rattle.sdl_instances.specs.Machine.{System, Arrives, number_living, next_at}
use Rattle.sdl_instances.specs.Legal.{GoesTo}
use Rattle.sdl_instances.specs.Ready.{number_ready}
use Rattle.sdl_instances.specs.Core.{Core, IsLivingAt, arrival_event}
use Rattle.sdl_instances.specs.Calls.{IsReadyAt, IsTurnOf}

-- An item arrives. Where its output named no instance, and n of its set live, it enters the one at `pick mod n` in order of creation.
pub record ArrivesAt (routes : List TableRow) (pick : ℕ) (old new : Core) : Type 0 where
  pub item : Item
  pub fate : Arrival
  pub log : new.log ≡ old.log ++ arrival_event item fate ∷ []
  pub arrives : Arrives routes old.state item fate new.state
  pub picked : (set : SetId) (p : Pid) → GoesTo routes item set → item.to ≡ None → fate ≡ arrival.Entered p → IsLivingAt set old.state (pick % number_living set old.state) p

-- Of n instances that are ready, the one at `pick mod n` in order of creation makes a turn. Its outputs take their routes at the
-- pick.
pub record TurnsAt (may : ℕ → Frame → Step → Type 0) (sys : System) (pick : ℕ) (old new : Core) : Type 0 where
  pub instance : Pid
  pub event : Event
  pub ready : IsReadyAt old.state (pick % number_ready old.state) instance
  pub turn : IsTurnOf instance event
  pub next : next_at may sys pick old.state event new.state
  pub log : new.log ≡ old.log ++ event ∷ []

-- none arrives, or one so
abbrev pub LetsInAt : List TableRow → ℕ → Core → Core → Type 0
LetsInAt routes pick old new = (new ≡ old) ⊎ ArrivesAt routes pick old new

-- none makes a turn, or one so
abbrev pub TriesTurnAt : (ℕ → Frame → Step → Type 0) → System → ℕ → Core → Core → Type 0
TriesTurnAt may sys pick old new = (new ≡ old) ⊎ TurnsAt may sys pick old new

-- one after the other
pub record StepsAt (may : ℕ → Frame → Step → Type 0) (sys : System) (pick : ℕ) (old new : Core) : Type 0 where
  pub between : Core
  pub arrival : LetsInAt sys.routes pick old between
  pub turn : TriesTurnAt may sys pick between new
