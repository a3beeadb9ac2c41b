-- The blocks of a system as the calls use them.
use Rattle.std.specs.Prelude.{ℕ, List, All}
use Rattle.sdl_structure_parts.specs.Structure.{Structure}
use Rattle.sdl_routes.specs.declared.route.TableRow.{TableRow}
use Rattle.sdl_transition_behaviour.specs.declared.step.Frame.{Frame}
use Rattle.sdl_transition_behaviour.specs.declared.step.Step.{Step}
use Rattle.sdl_transition.specs.declared.block_parts.BlockParts.{BlockParts}
use Rattle.sdl_transition.specs.Rules.{block_rules}
use Rattle.sdl_instances.specs.Core.{IsSound, IsLegalIn, IsBoundIn, signals_of, sets_of}
use Rattle.sdl_instances.specs.CoreOf.{CanFire}
use Rattle.sdl_block.specs.declared.worker.BlockWorker.{BlockWorker}
use Rattle.sdl_block.specs.Workers.{worker_of, behaviours_of, system_around}

-- the parts of a block fit the structure, and their transitions answer what the agents may do
pub record IsStored {S I : Type 0} {F : I → Type 0} {g : _} (may : ℕ → Frame → Step → Type 0) (structure : Structure) (p : BlockParts S I F g) : Type 0 where
  pub bound : IsBoundIn (signals_of structure) (sets_of structure) (block_rules p) p.block
  pub fires : CanFire may p

-- what a step asks of the block
pub record CanGoOn {S K I : Type 0} {F : I → Type 0} {g : _} (may : ℕ → Frame → Step → Type 0) (w : BlockWorker S K I F g) (rows : List TableRow) : Type 0 where
  pub parts : CanFire may (behaviours_of w)
  pub sound : IsSound may (system_around w rows) (worker_of w).core
  pub legal : All (IsLegalIn (system_around w rows)) (worker_of w).outgoing
