-- A system in a run: the plan that it carries out, and which bound system it is.
use Rattle.std.specs.Prelude.{◌≡◌, ℕ, map}
use Rattle.sdl_transition_behaviour.specs.declared.step.Frame.{Frame}
use Rattle.sdl_transition_behaviour.specs.declared.step.Step.{Step}
use Rattle.sdl_transition.specs.declared.block_parts.BlockParts.{BlockParts}
use Rattle.sdl_transition.specs.declared.binding.Bound.{Bound}
use Rattle.sdl_transition.specs.Bound.{AreOneSystem, structure_of, routes_of, blocks_of}
use Rattle.sdl_transition.specs.Rules.{block_rules}
use Rattle.sdl_block.specs.declared.worker.BlockWorker.{BlockWorker}
use Rattle.sdl_block.specs.Workers.{behaviours_of}
use Rattle.sdl_run_outcome.specs.Plan.{Plan}
use Rattle.sdl_run_driver.specs.declared.system.System.{System}

-- before the start
abbrev pub plan_of_parts : {S I : Type 0} {F : I → Type 0} {g : _} → System (BlockParts S I F g) → Plan
plan_of_parts x = record { structure = x.checked; routes = x.routes; rules = map block_rules x.blocks.items; budget = x.budget }

abbrev pub IsBoundOf : {S I : Type 0} {F : I → Type 0} {g : _} → System (BlockParts S I F g) → Bound S I F g → Type 0
IsBoundOf x b = (structure_of b ≡ x.checked) × (routes_of b ≡ x.routes) × (blocks_of b ≡ x.blocks.items)

-- and from then on, whose workers keep the parts of their blocks
abbrev pub plan_of : {S K I : Type 0} {F : I → Type 0} {g : _} → System (BlockWorker S K I F g) → Plan
plan_of x = record { structure = x.checked; routes = x.routes; rules = map (λ w. block_rules (behaviours_of w)) x.blocks.items; budget = x.budget }

abbrev pub IsSystemOf : {S K I : Type 0} {F : I → Type 0} {g : _} → System (BlockWorker S K I F g) → Bound S I F g → Type 0
IsSystemOf x b = (structure_of b ≡ x.checked) × (routes_of b ≡ x.routes) × (blocks_of b ≡ map behaviours_of x.blocks.items)

abbrev pub IsOneSystem : {S K I : Type 0} {F : I → Type 0} {g : _} → (ℕ → Frame → Step → Type 0) → System (BlockWorker S K I F g) → Type 0
IsOneSystem may x = AreOneSystem may x.checked x.routes (map behaviours_of x.blocks.items)

-- the same system, whatever its workers have done
pub record IsSameSystem {S K I : Type 0} {F : I → Type 0} {g : _} (old new : System (BlockWorker S K I F g)) : Type 0 where
  pub checked : new.checked ≡ old.checked
  pub routes : new.routes ≡ old.routes
  pub budget : new.budget ≡ old.budget
  pub behaviours : map behaviours_of new.blocks.items ≡ map behaviours_of old.blocks.items
