-- A run that has ended names the workers that stopped.
use Rattle.std.proofs.Common.{◌≡◌, ℕ, List, Option, Some, MatchOption, sym, subst}
use Rattle.std.specs.Prelude.{⊤}
use Rattle.sdl_instances_log.specs.declared.event.Event.{Event}
use Rattle.sdl_run_order.specs.Driver.{outcome_of}
use Rattle.sdl_run_driver.specs.Closings.{NamesRefused, outcome_in}
use Rattle.sdl_run_driver.specs.Stopped.{site_of_parked}
use Rattle.sdl_run_settling.specs.declared.settling.Stopped.{Stopped}
use Rattle.sdl_run_settling.specs.Coming.{NamesFirst}
use Rattle.sdl_run_driver.specs.declared.closing.Closing.{Closing}
use Rattle.sdl_run.specs.Stops.{EndsAsTheyCame}

module _ {S K I : Type 0} {F : I → Type 0} {g : _} (events : K → List Event) (c : Closing S K I F g) (kept s : Stopped S K I F g) (same : kept ≡ s) where
  pub as_they_came : (blocks number : ℕ) → number ≡ blocks → NamesFirst s.came.value.items s.way number s.refused → MatchOption s.refused ⊤ (λ w. NamesRefused c.end (Some w))
      → MatchOption s.refused ⊤ (λ w. outcome_in events c ≡ outcome_of (site_of_parked s.parked)) → EndsAsTheyCame events blocks c kept
  as_they_came blocks number count first refusal left =
      subst (λ (v : Stopped S K I F g). EndsAsTheyCame events blocks c v) (sym same)
      (record { first = subst (λ (n : ℕ). NamesFirst s.came.value.items s.way n s.refused) count first; refusal = refusal; left = left })
