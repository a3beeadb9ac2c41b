-- The parts of a step of a block, one by one.
use Rattle.std.specs.Prelude.{◌≡◌, ℕ, ◌≤◌, ◌⊎◌, Bool, true, false, List, [], ◌∷◌, ◌++◌, None, Some, Result, Ok, Err, length, All}
use Rattle.sdl_signal.specs.declared.values.Pid.{Pid}
use Rattle.sdl_signal.specs.declared.values.Item.{Item}
use Rattle.sdl_routes.specs.declared.route.Station.{Station}
use Rattle.sdl_transition_behaviour.specs.declared.step.Frame.{Frame}
use Rattle.sdl_transition_behaviour.specs.declared.step.Step.{Step}
use Rattle.sdl_instances_log.specs.declared.event.Event.{Event}
use Rattle.sdl_instances_log.specs.declared.event.Arrival.{Arrival}
use Rattle.sdl_instances.specs.Machine.{System}
use Rattle.sdl_instances.specs.Run.{sent, turns, turn_in}
use Rattle.sdl_instances.specs.Core.{Core, IsReady, IsSound, IsLegalIn, arrival_event}
use Rattle.sdl_instances.specs.Calls.{LeavesOthers}
use Rattle.sdl_block_hand.specs.declared.hand.Stepped.{Stepped}
use Rattle.sdl_block_hand.specs.declared.hand.Stepped.TheVariants as stepped
use Rattle.sdl_block_hand.specs.declared.hand.Refused.{Refused}
use Rattle.sdl_block_hand.specs.Puts.{answer_of}
use Rattle.sdl_block_hand.specs.Work.{Working, StepsAs}

-- the item arrives, which is one event
pub record LetsArrive (may : ℕ → Frame → Step → Type 0) (sys : System) (old : Working) (i : Item) (new : Working) : Type 0 where
  pub arrival : Arrival
  pub log : new.core.log ≡ old.core.log ++ arrival_event i arrival ∷ []
  pub sound : IsSound may sys new.core
  pub rest : LeavesOthers old.core new.core
  pub hand : (new.kept ≡ old.kept) × (new.outgoing ≡ old.outgoing)

-- The kept item arrives, or it is refused and stays; or none is kept.
abbrev pub ArrivesOrStays : (ℕ → Frame → Step → Type 0) → System → Working → Result Bool Refused → Working → Type 0
ArrivesOrStays may sys old (Ok true) new = (i : Item) × (old.kept ≡ Some i) × LetsArrive may sys (record old { kept = None }) i new
ArrivesOrStays may sys old (Ok false) new = (old.kept ≡ None) × (new ≡ old)
ArrivesOrStays may sys old (Err _) new = (i : Item) × (old.kept ≡ Some i) × (new ≡ old)

-- the budget is used
abbrev pub IsSpent : Core → Type 0
IsSpent c = turns c.log ≡ c.budget

-- an instance makes a turn, which is one event, and what it sends is in hand
pub record MakesTurn (may : ℕ → Frame → Step → Type 0) (sys : System) (old new : Working) : Type 0 where
  pub event : Event
  pub turn : turn_in event ≡ 1
  pub within : IsSpent old.core → ⊥
  pub log : new.core.log ≡ old.core.log ++ event ∷ []
  pub hand : new.outgoing ≡ sent (event ∷ [])
  pub kept : new.kept ≡ old.kept
  pub sound : IsSound may sys new.core
  pub rest : LeavesOthers old.core new.core
  pub legal : All (IsLegalIn sys) new.outgoing
  pub few : length new.outgoing ≤ 8

-- An instance makes a turn; none does where none is ready, the budget is used, or memory is refused.
abbrev pub TriesTurn : (ℕ → Frame → Step → Type 0) → System → Working → Result Bool Refused → Working → Type 0
TriesTurn may sys old (Ok true) new = MakesTurn may sys old new
TriesTurn may sys old (Ok false) new = (new ≡ old) × (IsSpent old.core ⊎ ((p : Pid) → IsReady p old.core.state → ⊥))
TriesTurn may sys old (Err _) new = new ≡ old

abbrev pub StepsTo : (ℕ → Frame → Step → Type 0) → System → Working → List (Station × List Item) → Result Bool Refused → Working → List (Station × List Item) → Type 0
StepsTo may sys old before result new after = StepsAs may sys old before (answer_of result) new after

-- after a step that was not refused nothing is in hand
abbrev pub IsEmptyAfter : Stepped → Working → Type 0
IsEmptyAfter stepped.Did w = (w.kept ≡ None) × (w.outgoing ≡ [])
IsEmptyAfter stepped.Idle w = (w.kept ≡ None) × (w.outgoing ≡ [])
IsEmptyAfter stepped.Memory w = Unit {0}

-- Nothing happens, or all that was in hand is put: what is then in hand was sent in the new events.
abbrev pub PutsFirst : Working → Working → Type 0
PutsFirst old new =
    (new.core ≡ old.core) ⊎ ((events : List Event) × (new.core.log ≡ old.core.log ++ events) × (length new.outgoing ≤ length (sent events)))
