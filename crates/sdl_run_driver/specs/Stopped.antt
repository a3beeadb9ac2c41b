-- What a contract sees of a run that has stopped: its site.
use Rattle.std.specs.Prelude.{ℕ, map}
use Rattle.sdl_transition_behaviour.specs.declared.step.Frame.{Frame}
use Rattle.sdl_transition_behaviour.specs.declared.step.Step.{Step}
use Rattle.sdl_forward.specs.Boards.{lists_of}
use Rattle.sdl_block.specs.Workers.{worker_of}
use Rattle.sdl_run_order.specs.Driver.{Site}
use Rattle.sdl_run_driver.specs.declared.parked.Parked.{Parked}
use Rattle.sdl_run_driver.specs.Drivers.{IsBetweenSteps}
use Rattle.sdl_run_driver.specs.Systems.{plan_of}

-- the board is the list of what is left at each station
abbrev pub site_of_parked : {S K I : Type 0} {F : I → Type 0} {g : _} → Parked S K I F g → Site
site_of_parked p = record { blocks = map worker_of p.system.blocks.items; environment = p.environment; forwarders = p.forwarders.items; board = lists_of p.rests.items }

-- The run has stopped between two steps.
abbrev pub IsParked : {S K I : Type 0} {F : I → Type 0} {g : _} → (ℕ → Frame → Step → Type 0) → Parked S K I F g → Type 0
IsParked may p = IsBetweenSteps may (plan_of p.system) (site_of_parked p) p.system.blocks.items
