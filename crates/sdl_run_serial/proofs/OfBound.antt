-- What was read and written in a run of a system was so in one of the bound system.
use Rattle.std.proofs.Common.{ℕ, List, Option, ◌≡◌, subst}
use Rattle.sdl_transition.specs.declared.block_parts.BlockParts.{BlockParts}
use Rattle.sdl_transition.specs.declared.binding.Bound.{Bound}
use Rattle.sdl_run_outcome.specs.Plan.{Plan}
use Rattle.sdl_run_driver.specs.declared.closing.Closing.{Closing}
use Rattle.sdl_run_driver.specs.declared.system.System.{System}
use Rattle.sdl_run_driver.specs.Closings.{HasReadIn, HasWrittenIn, plan_of_bound}
use Rattle.sdl_run_driver.specs.Systems.{plan_of_parts, IsBoundOf}
use Rattle.sdl_run_driver.proofs.Systems.{bound_plan}

module _ {S K I : Type 0} {F : I → Type 0} {g : _} (x : System (BlockParts S I F g)) (b : Bound S I F g) (budget : ℕ) (same : IsBoundOf x b) (turns : x.budget ≡ budget) (c : Closing S K I F g) (start now : Option (List ℕ)) where
  pub reading_bound : HasReadIn (plan_of_parts x) start now c → HasReadIn (plan_of_bound b budget) start now c
  reading_bound h = subst (λ (p : Plan). HasReadIn p start now c) (bound_plan x b budget same turns) h

  pub writing_bound : HasWrittenIn (plan_of_parts x) start now c → HasWrittenIn (plan_of_bound b budget) start now c
  writing_bound h = subst (λ (p : Plan). HasWrittenIn p start now c) (bound_plan x b budget same turns) h
