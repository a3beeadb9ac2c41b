-- What stands before the blocks of a run in threads start.
use Rattle.std.specs.Prelude.{◌≡◌, ℕ, ◌+◌, ◌≤◌, List, [], map, length, vec_len, vec_capacity}
use Rattle.sdl_structure_parts.specs.Structure.{Structure}
use Rattle.sdl_routes.specs.declared.route.TableRow.{TableRow}
use Rattle.sdl_transition_behaviour.specs.declared.step.Frame.{Frame}
use Rattle.sdl_transition_behaviour.specs.declared.step.Step.{Step}
use Rattle.sdl_forward_opening.specs.Opens.{AreOpen}
use Rattle.sdl_run_outcome.specs.Plan.{delaying_from}
use Rattle.sdl_run_outcome.specs.EnvironmentWork.{IsEnvFresh}
use Rattle.sdl_run_serial.specs.Starting.{idle_at}
use Rattle.sdl_run_serial.specs.Serial.{HasStarted}
use Rattle.sdl_block.specs.declared.worker.BlockWorker.{BlockWorker}
use Rattle.sdl_run_driver.specs.declared.system.System.{System}
use Rattle.sdl_run_driver.specs.Closings.{HasRoom}
use Rattle.sdl_run_settling.specs.Room.{HasRejoiningRoom}
use Rattle.sdl_run.specs.declared.room.Opened.{Opened}
use Rattle.sdl_run.specs.declared.room.ThreadRoom.{ThreadRoom}

-- all ends are open, and there is room for all workers
pub record IsOpened {S K I : Type 0} {F : I → Type 0} {g : _} (s : Structure) (routes : List TableRow) (o : Opened S K I F g) : Type 0 where
  pub environment : IsEnvFresh (length s.blocks) o.environment
  pub forwarders : o.forwarders.items ≡ map idle_at (delaying_from 0 s.channels)
  pub opening : AreOpen s routes o.ends.items o.shelf
  pub workers_empty : o.workers.items ≡ []
  pub workers : vec_len o.workers + (length s.blocks + length o.forwarders.items) ≤ vec_capacity o.workers
  pub done_empty : o.done.items ≡ []
  pub done : length s.blocks + length o.forwarders.items ≤ vec_capacity o.done
  pub apart : HasRejoiningRoom (length s.blocks) (length o.forwarders.items) o.apart

-- the blocks of the system have started, none has made a step, and all ends are open
pub record IsReadyToRun {S K I : Type 0} {F : I → Type 0} {g : _} (may : ℕ → Frame → Step → Type 0) (x : System (BlockWorker S K I F g)) (o : Opened S K I F g) : Type 0 where
  pub started : HasStarted may x
  pub opened : IsOpened x.checked x.routes o

-- there is all that a run in threads needs beside its blocks
pub record IsThreadRoom {S K I : Type 0} {F : I → Type 0} {g : _} (s : Structure) (routes : List TableRow) (r : ThreadRoom S K I F g) : Type 0 where
  pub opened : IsOpened s routes r.opened
  pub room : HasRoom (length s.blocks) (length s.blocks + (length r.opened.forwarders.items + 1)) r.room
  pub room_empty : (r.room.parts.items ≡ []) × (r.room.logs.items ≡ []) × (r.room.hands.items ≡ [])
  pub started_empty : r.started.items ≡ []
  pub started : vec_len r.started + length s.blocks ≤ vec_capacity r.started
