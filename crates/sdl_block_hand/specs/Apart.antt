-- What a block does in a step where each queue has ends of its own, and what its steps keep. (This project's own.)
use Rattle.std.specs.Prelude.{◌≡◌, ℕ, ◌*◌, ◌≤◌, ◌⊎◌, List, [], ◌++◌, None, Some, length, All, slice_get}
use Rattle.std.specs.Option.{option_to_list}
use Rattle.sdl_signal.specs.declared.ids.BlockId.{BlockId}
use Rattle.sdl_signal.specs.declared.ids.SetId.{SetId}
use Rattle.sdl_signal.specs.declared.values.Pid.{Pid}
use Rattle.sdl_signal.specs.declared.values.Item.{Item}
use Rattle.sdl_routes.specs.declared.route.TableRow.{TableRow}
use Rattle.sdl_routes.specs.declared.route.Source.TheVariants as source
use Rattle.sdl_routes.specs.declared.route.Station.{Station}
use Rattle.sdl_transition_behaviour.specs.declared.step.Frame.{Frame}
use Rattle.sdl_transition_behaviour.specs.declared.step.Step.{Step}
use Rattle.sdl_instances_log.specs.declared.event.Event.{Event}
use Rattle.sdl_instances.specs.declared.process_set.ProcessSet.{ProcessSet}
use Rattle.sdl_instances.specs.Machine.{System}
use Rattle.sdl_instances.specs.Run.{IsRun, arrived, sent, turns}
use Rattle.sdl_instances.specs.Core.{IsReady, IsSound, IsLegalIn}
use Rattle.sdl_instances.specs.Calls.{LeavesOthers}
use Rattle.sdl_forward_ends.specs.Ends.{WorkerEnds, HasFeed, put_at, taken_by}
pub use Rattle.sdl_forward_ends.specs.Ends.{AreFresh}
use Rattle.sdl_block_hand.specs.declared.hand.Stepped.{Stepped}
use Rattle.sdl_block_hand.specs.declared.hand.Stepped.TheVariants.{Did, Idle, Memory}
use Rattle.sdl_block_hand.specs.Work.{Working, beginning_at}

-- A step from old to new: what it put, what it took, and the new events.
pub record WorksApart (may : ℕ → Frame → Step → Type 0) (sys : System) (old : Working) (before : WorkerEnds) (new : Working) (after : WorkerEnds) : Type 0 where
  pub put : List Item
  pub taken : List Item
  pub events : List Event
  -- it takes at most one item; each item that it puts goes to its route's first station, in order
  pub one : length taken ≤ 1
  pub takes : taken_by after ≡ taken_by before ++ taken
  pub puts : (s : Station) → put_at after s ≡ put_at before s ++ beginning_at sys.routes s put
  -- what it kept, and then what it takes, arrives in the new events, or is kept
  pub came : option_to_list old.kept ++ taken ≡ arrived events ++ option_to_list new.kept
  -- what it puts, and then what is in hand, was in hand, or is sent in the new events
  pub went : put ++ new.outgoing ≡ old.outgoing ++ sent events
  -- the log goes on by the new events, and stays a run within the budget
  pub log : new.core.log ≡ old.core.log ++ events
  pub sound : IsSound may sys new.core
  pub rest : LeavesOthers old.core new.core
  -- what is sent may travel, at most eight items a turn
  pub legal : All (IsLegalIn sys) (sent events)
  pub few : length (sent events) ≤ 8 * turns events

-- There was nothing to do: nothing is in hand, nothing was taken, and the budget is used or no instance is ready.
-- (Others may put at the inlet at any time, so that it was empty is not said.)
pub record IsIdleApart (w : Working) (before after : WorkerEnds) : Type 0 where
  pub kept : w.kept ≡ None
  pub outgoing : w.outgoing ≡ []
  pub taken : taken_by after ≡ taken_by before
  pub puts : (s : Station) → put_at after s ≡ put_at before s
  pub work : (turns w.core.log ≡ w.core.budget) ⊎ ((p : Pid) → IsReady p w.core.state → ⊥)

-- What a step did, by its answer. A step that did something put an item, or an event happened.
abbrev pub StepsApart : (ℕ → Frame → Step → Type 0) → System → Working → WorkerEnds → Stepped → Working → WorkerEnds → Type 0
StepsApart may sys old before Did new after =
    (w : WorksApart may sys old before new after) × ((w.put ≡ []) × (w.events ≡ []) → ⊥)
StepsApart may sys old before Idle new after = (new ≡ old) × IsIdleApart old before after
StepsApart may sys old before Memory new after = WorksApart may sys old before new after

-- the route starts at a set of the block
abbrev pub StartsIn : List ProcessSet → BlockId → TableRow → Type 0
StartsIn sets block row = (set : SetId) × (d : ProcessSet) × (row.source ≡ source.Set set) × (slice_get sets set.0 ≡ Some d) × (d.block ≡ block)

-- the block has a feed at the first station of each route that starts at one of its sets
abbrev pub HasOwnWays : System → BlockId → WorkerEnds → Type 0
HasOwnWays sys block ends =
    (r : ℕ) (row : TableRow) (s : Station) → slice_get sys.routes r ≡ Some row → StartsIn sys.sets block row → slice_get row.route.stations.items 0 ≡ Some s → HasFeed ends s

-- What each step of a block keeps. It is sound. All that its log sent was put, but what is in hand, each item at the first
-- station of its route, in order. All that it took arrived, in order, but what it keeps. What it sent may travel.
pub record IsPuttingOut (may : ℕ → Frame → Step → Type 0) (sys : System) (w : Working) (ends : WorkerEnds) : Type 0 where
  pub sound : IsSound may sys w.core
  pub put : List Item
  pub whole : put ++ w.outgoing ≡ sent w.core.log
  pub each : (s : Station) → put_at ends s ≡ beginning_at sys.routes s put
  pub came : arrived w.core.log ++ option_to_list w.kept ≡ taken_by ends
  pub legal : All (IsLegalIn sys) (sent w.core.log)
  pub ways : HasOwnWays sys w.core.block ends

-- What holds of a block and its ends after any number of steps: the items that arrived, in the order of the log, and then the
-- one that it keeps, are those that it took; at each station, what it put there stands before the items in hand that begin
-- there. Together they are the sent items of the log that begin there; and the log is a run with no more turns than the
-- budget.
pub record HasPutOut (may : ℕ → Frame → Step → Type 0) (sys : System) (w : Working) (ends : WorkerEnds) : Type 0 where
  pub came : arrived w.core.log ++ option_to_list w.kept ≡ taken_by ends
  pub went : (s : Station) → put_at ends s ++ beginning_at sys.routes s w.outgoing ≡ beginning_at sys.routes s (sent w.core.log)
  pub run : IsRun may sys w.core.block w.core.log w.core.state
  pub within : turns w.core.log ≤ w.core.budget
  pub legal : All (IsLegalIn sys) w.outgoing
