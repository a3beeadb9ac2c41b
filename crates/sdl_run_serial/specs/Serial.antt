-- What stands before the first step of a run, and what comes back where it did not start.
use Rattle.std.specs.Prelude.{◌≡◌, ℕ, ◌+◌, ◌≤◌, List, [], All, map, length, vec_len, vec_capacity}
use Rattle.std.specs.List.{AllByRecursion}
use Rattle.sdl_structure_parts.specs.Structure.{Structure, IsStructure}
use Rattle.sdl_routes.specs.declared.route.TableRow.{TableRow}
use Rattle.sdl_routes.specs.declared.route.Station.{Station}
use Rattle.sdl_routes.specs.Table.{IsTable}
use Rattle.sdl_transition_behaviour.specs.declared.step.Frame.{Frame}
use Rattle.sdl_transition_behaviour.specs.declared.step.Step.{Step}
use Rattle.sdl_transition.specs.declared.block_parts.BlockParts.{BlockParts}
use Rattle.sdl_transition.specs.declared.binding.Bound.{Bound}
use Rattle.sdl_transition.specs.Bound.{IsBound}
use Rattle.sdl_transition.specs.Rules.{block_rules}
use Rattle.sdl_instances.specs.Core.{Core, IsSound, signals_of, sets_of}
use Rattle.sdl_instances.specs.CoreOf.{CanFire}
use Rattle.sdl_instances.specs.Run.{initial}
use Rattle.sdl_forward.specs.Boards.{waiting, IsBoardOf}
use Rattle.sdl_block.specs.declared.worker.BlockWorker.{BlockWorker}
use Rattle.sdl_block_hand.specs.Work.{with_core}
use Rattle.sdl_block.specs.Workers.{worker_of, behaviours_of, system_around}
use Rattle.sdl_run_driver.specs.declared.system.System.{System}
use Rattle.sdl_run_driver.specs.Systems.{IsOneSystem}
use Rattle.sdl_run_driver.specs.declared.closing.StartFault.{StartFault}
use Rattle.sdl_run_driver.specs.declared.closing.StartFault.TheVariants as fault
use Rattle.sdl_run_serial.specs.declared.start.StartRoom.{StartRoom}
use Rattle.sdl_run_driver.specs.Closings.{IsSameBound, HasRoom}
use Rattle.sdl_run_outcome.specs.Plan.{delaying_from}
use Rattle.sdl_run_outcome.specs.EnvironmentWork.{IsEnvFresh}
use Rattle.sdl_run_serial.specs.Starting.{idle_at}

-- the first core of a block with these parts
abbrev pub first_core : {S I : Type 0} {F : I → Type 0} {g : _} → Structure → ℕ → BlockParts S I F g → Core
first_core s budget p =
    record {
      block = p.block;
      signals = signals_of s;
      sets = sets_of s;
      state = initial (block_rules p) (sets_of s) p.block;
      log = [];
      budget = budget;
    }

-- a worker that has done nothing
pub record IsNew {S K I : Type 0} {F : I → Type 0} {g : _} (may : ℕ → Frame → Step → Type 0) (s : Structure) (budget : ℕ) (w : BlockWorker S K I F g) : Type 0 where
  pub worker : worker_of w ≡ with_core (first_core s budget (behaviours_of w))
  pub sound : (routes : List TableRow) → IsSound may (system_around w routes) (worker_of w).core

-- all blocks of the system have started, and none has made a step
pub record HasStarted {S K I : Type 0} {F : I → Type 0} {g : _} (may : ℕ → Frame → Step → Type 0) (x : System (BlockWorker S K I F g)) : Type 0 where
  pub structure : IsStructure x.checked
  pub table : IsTable x.routes
  pub system : IsOneSystem may x
  pub new : AllByRecursion (IsNew may x.checked x.budget) x.blocks.items
  pub fire : All (λ w. CanFire may (behaviours_of w)) x.blocks.items

-- its workers have the parts of this system
pub record IsStartOf {S K I : Type 0} {F : I → Type 0} {g : _} (bound : System (BlockParts S I F g)) (x : System (BlockWorker S K I F g)) : Type 0 where
  pub checked : x.checked ≡ bound.checked
  pub routes : x.routes ≡ bound.routes
  pub budget : x.budget ≡ bound.budget
  pub behaviours : map behaviours_of x.blocks.items ≡ bound.blocks.items

-- there is all that a run of so many blocks needs beside them
pub record IsStartRoom {S K I : Type 0} {F : I → Type 0} {g : _} (s : Structure) (routes : List TableRow) (blocks : ℕ) (start_room : StartRoom S K I F g) : Type 0 where
  pub board : IsBoardOf routes start_room.board
  pub empty : (t : Station) → waiting start_room.board t ≡ []
  pub forwarders : start_room.forwarders.items ≡ map idle_at (delaying_from 0 s.channels)
  pub environment : IsEnvFresh blocks start_room.environment
  pub room : HasRoom blocks (blocks + (length start_room.forwarders.items + 1)) start_room.room
  pub room_empty : (start_room.room.parts.items ≡ []) × (start_room.room.logs.items ≡ []) × (start_room.room.hands.items ≡ [])
  pub workers : start_room.workers.items ≡ []
  pub workers_room : vec_len start_room.workers + blocks ≤ vec_capacity start_room.workers

-- where a run did not start, the system comes back as it was handed in
abbrev pub IsBackIn : {S I : Type 0} {F : I → Type 0} {g : _} → (ℕ → Frame → Step → Type 0) → Bound S I F g → StartFault S I F g → Type 0
IsBackIn may bound (fault.Memory b) = IsSameBound bound b × IsBound may b
