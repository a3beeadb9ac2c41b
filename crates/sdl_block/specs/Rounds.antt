-- How much a step of a block does. (This project's own.)
use Rattle.std.specs.Prelude.{◌≡◌, ℕ, ◌≤◌, ◌⊎◌, List, [], ◌++◌, None, Some, length, drop}
use Rattle.sdl_signal.specs.declared.values.Pid.{Pid}
use Rattle.sdl_signal.specs.declared.values.Item.{Item}
use Rattle.sdl_routes.specs.declared.route.TableRow.{TableRow}
use Rattle.sdl_routes.specs.declared.route.Station.{Station}
use Rattle.sdl_routes.specs.declared.route.Station.TheVariants as station
use Rattle.sdl_instances_log.specs.declared.event.Event.{Event}
use Rattle.sdl_instances.specs.Run.{arrived, turns}
use Rattle.sdl_instances.specs.Core.{Core, IsReady}
use Rattle.sdl_forward.specs.Boards.{waiting}
use Rattle.sdl_block_hand.specs.declared.hand.Stepped.{Stepped}
use Rattle.sdl_block_hand.specs.declared.hand.Stepped.TheVariants as stepped
use Rattle.sdl_block_hand.specs.Work.{Working, beginning_at}
use Rattle.sdl_block.specs.Phases.{IsSpent}

-- the events by which a step adds to the log
abbrev pub new_events : Core → Core → List Event
new_events old new = drop (length old.log) new.log

abbrev pub arrivals : Core → Core → ℕ
arrivals old new = length (arrived (new_events old new))

abbrev pub turns_made : Core → Core → ℕ
turns_made old new = turns (new_events old new)

-- no item can come: none is kept, and the inlet is empty, also once what is in hand is put
pub record NoneComes (rows : List TableRow) (w : Working) (board : List (Station × List Item)) : Type 0 where
  pub kept : w.kept ≡ None
  pub inlet : waiting board (station.Inlet w.core.block) ++ beginning_at rows (station.Inlet w.core.block) w.outgoing ≡ []

-- A step is one round: at most one item arrives, and at most one turn is made. Neither is left out that can be.
pub record IsOneRound (rows : List TableRow) (old : Working) (before : List (Station × List Item)) (answer : Stepped) (new : Working) (after : List (Station × List Item)) : Type 0 where
  pub one_arrival : arrivals old.core new.core ≤ 1
  pub one_turn : turns_made old.core new.core ≤ 1
  -- a kept item arrives in place of one taken: the inlet loses none
  pub in_place : (i : Item) → old.kept ≡ Some i → (more : List Item) × (waiting after (station.Inlet old.core.block) ≡ waiting before (station.Inlet old.core.block) ++ more)
  -- after a step that did something, none arrived only where the budget was used or none came
  pub arrival : answer ≡ stepped.Did → (arrivals old.core new.core ≡ 1) ⊎ (IsSpent old.core ⊎ NoneComes rows old before)
  -- and no turn was made only where the budget is used or no instance is ready
  pub turn : answer ≡ stepped.Did → (turns_made old.core new.core ≡ 1) ⊎ (IsSpent new.core ⊎ ((p : Pid) → IsReady p new.core.state → ⊥))
