-- How a run in threads ends by the way in which its workers came back. (This project's own.)
use Rattle.std.specs.Prelude.{◌≡◌, ℕ, List, Some, MatchOption, ⊤}
use Rattle.sdl_instances_log.specs.declared.event.Event.{Event}
use Rattle.sdl_run_order.specs.Driver.{outcome_of}
use Rattle.sdl_run_driver.specs.declared.closing.Closing.{Closing}
use Rattle.sdl_run_driver.specs.Closings.{NamesRefused, outcome_in}
use Rattle.sdl_run_driver.specs.Stopped.{site_of_parked}
use Rattle.sdl_run_settling.specs.Coming.{NamesFirst}
use Rattle.sdl_run_settling.specs.declared.settling.Stopped.{Stopped}

-- None was named exactly where all made steps until they were told to stop. Else the end names the first that did not, and what
-- the closing shows is what the workers left: nothing was done after they had stopped.
pub record EndsAsTheyCame {S K I : Type 0} {F : I → Type 0} {g : _} (events : K → List Event) (blocks : ℕ) (c : Closing S K I F g) (s : Stopped S K I F g) : Type 0 where
  pub first : NamesFirst s.came.value.items s.way blocks s.refused
  pub refusal : MatchOption s.refused ⊤ (λ w. NamesRefused c.end (Some w))
  pub left : MatchOption s.refused ⊤ (λ w. outcome_in events c ≡ outcome_of (site_of_parked s.parked))
