-- What a block does in a step on one thread. (This project's own.)
use Rattle.std.specs.Prelude.{◌≡◌, ◌≢◌, ℕ, ◌*◌, ◌≤◌, ◌⊎◌, List, [], ◌++◌, Option, None, length, filter, All, slice_get, option_and_then}
use Rattle.std.specs.Option.{option_to_list}
use Rattle.sdl_signal.specs.declared.values.Pid.{Pid}
use Rattle.sdl_signal.specs.declared.values.Item.{Item}
use Rattle.sdl_routes.specs.declared.route.TableRow.{TableRow}
use Rattle.sdl_routes.specs.declared.route.Station.{Station}
use Rattle.sdl_routes.specs.declared.route.Station.TheVariants as station
use Rattle.sdl_transition_behaviour.specs.declared.step.Frame.{Frame}
use Rattle.sdl_transition_behaviour.specs.declared.step.Step.{Step}
use Rattle.sdl_instances_log.specs.declared.event.Event.{Event}
use Rattle.sdl_instances.specs.Machine.{System}
use Rattle.sdl_instances.specs.Run.{arrived, sent, turns}
use Rattle.sdl_instances.specs.Core.{Core, IsReady, IsSound, IsLegalIn}
use Rattle.sdl_instances.specs.Calls.{LeavesOthers}
use Rattle.sdl_forward.specs.Boards.{stations_of, waiting}
pub use Rattle.sdl_forward_ends.specs.Stations.{is_station}
use Rattle.sdl_block_hand.specs.declared.hand.Stepped.{Stepped}
use Rattle.sdl_block_hand.specs.declared.hand.Stepped.TheVariants.{Did, Idle, Memory}

-- A block at work, as contracts see it: its core, the item that it keeps since it could not arrive, and those that it has
-- yet to put.
pub record Working : Type 0 where
  pub core : Core
  pub kept : Option Item
  pub outgoing : List Item

-- a block at work whose hand is empty
abbrev pub with_core : Core → Working
with_core c = record { core = c; kept = None; outgoing = [] }

-- the first station of the item's route; none where the table has no such route
abbrev pub first_station : List TableRow → Item → Option Station
first_station rows i = option_and_then (λ row. slice_get row.route.stations.items 0) (slice_get rows i.route.0)

-- those of the items whose routes begin at the station, in order
abbrev pub beginning_at : List TableRow → Station → List Item → List Item
beginning_at rows s items = filter (λ i. is_station s (first_station rows i)) items

-- there is nothing to do: nothing is in hand, and the budget is used, or the inlet is empty and no instance is ready
pub record IsAtRest (w : Working) (board : List (Station × List Item)) : Type 0 where
  pub kept : w.kept ≡ None
  pub outgoing : w.outgoing ≡ []
  pub work : (turns w.core.log ≡ w.core.budget) ⊎ ((waiting board (station.Inlet w.core.block) ≡ []) × ((p : Pid) → IsReady p w.core.state → ⊥))

-- A step from old to new: what it put, what it took, and the new events.
pub record Works (may : ℕ → Frame → Step → Type 0) (sys : System) (old : Working) (before : List (Station × List Item)) (new : Working) (after : List (Station × List Item)) : Type 0 where
  pub put : List Item
  pub taken : List Item
  pub events : List Event
  -- it takes at most one item, the front of its inlet; each item that it puts goes to the back of its route's first station,
  -- in order; nothing else on the board changes
  pub one : length taken ≤ 1
  pub inlet : waiting before (station.Inlet old.core.block) ++ beginning_at sys.routes (station.Inlet old.core.block) put ≡ taken ++ waiting after (station.Inlet old.core.block)
  pub others : (s : Station) → s ≢ station.Inlet old.core.block → waiting after s ≡ waiting before s ++ beginning_at sys.routes s put
  pub stations : stations_of after ≡ stations_of before
  -- what it kept, and then what it takes, arrives in the new events, or is kept
  pub came : option_to_list old.kept ++ taken ≡ arrived events ++ option_to_list new.kept
  -- what it puts, and then what is in hand, was in hand, or is sent in the new events
  pub went : put ++ new.outgoing ≡ old.outgoing ++ sent events
  -- the log goes on by the new events, and stays a run within the budget
  pub log : new.core.log ≡ old.core.log ++ events
  pub sound : IsSound may sys new.core
  pub rest : LeavesOthers old.core new.core
  -- what is sent may travel, at most eight items a turn
  pub legal : All (IsLegalIn sys) (sent events)
  pub few : length (sent events) ≤ 8 * turns events

-- What a step did, by its answer. A step that did something put an item, or an event happened.
abbrev pub StepsAs : (ℕ → Frame → Step → Type 0) → System → Working → List (Station × List Item) → Stepped → Working → List (Station × List Item) → Type 0
StepsAs may sys old before Did new after =
    (w : Works may sys old before new after) × ((w.put ≡ []) × (w.events ≡ []) → ⊥)
StepsAs may sys old before Idle new after = (new ≡ old) × (after ≡ before) × IsAtRest old before
StepsAs may sys old before Memory new after = Works may sys old before new after
