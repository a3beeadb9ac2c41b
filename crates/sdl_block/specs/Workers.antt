-- What a contract sees of a block at work.
use Rattle.std.specs.Prelude.{ℕ, List, All}
use Rattle.sdl_routes.specs.declared.route.TableRow.{TableRow}
use Rattle.sdl_transition.specs.declared.block_parts.BlockParts.{BlockParts}
use Rattle.sdl_instances.specs.Machine.{System}
use Rattle.sdl_routes.specs.declared.route.Station.{Station}
use Rattle.sdl_signal.specs.declared.values.Item.{Item}
use Rattle.sdl_transition_behaviour.specs.declared.step.Frame.{Frame}
use Rattle.sdl_transition_behaviour.specs.declared.step.Step.{Step}
use Rattle.sdl_instances.specs.Core.{IsSound, IsLegalIn}
use Rattle.sdl_instances.specs.CoreOf.{core_of, parts_of, system_in, CanFire}
use Rattle.sdl_forward.specs.Boards.{IsBoardOf}
use Rattle.sdl_block.specs.declared.worker.BlockWorker.{BlockWorker}
use Rattle.sdl_block_hand.specs.Work.{Working}

abbrev pub worker_of : {S K I : Type 0} {F : I → Type 0} {g : _} → BlockWorker S K I F g → Working
worker_of w = record { core = core_of w.core; kept = w.hand.kept; outgoing = w.hand.outgoing.items }

abbrev pub behaviours_of : {S K I : Type 0} {F : I → Type 0} {g : _} → BlockWorker S K I F g → BlockParts S I F g
behaviours_of w = parts_of w.core

-- the system that it works in
abbrev pub system_around : {S K I : Type 0} {F : I → Type 0} {g : _} → BlockWorker S K I F g → List TableRow → System
system_around w routes = system_in w.core routes

-- what a step asks of the block and of the board
pub record CanStep {S K I : Type 0} {F : I → Type 0} {g : _} (may : ℕ → Frame → Step → Type 0) (w : BlockWorker S K I F g) (rows : List TableRow) (entries : List (Station × List Item)) : Type 0 where
  pub parts : CanFire may (behaviours_of w)
  pub sound : IsSound may (system_around w rows) (worker_of w).core
  pub legal : All (IsLegalIn (system_around w rows)) (worker_of w).outgoing
  pub board : IsBoardOf rows entries
