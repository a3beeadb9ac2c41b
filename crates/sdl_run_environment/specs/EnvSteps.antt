-- How much a step of the environment does where no refusal ends it. (This project's own.)
use Rattle.std.specs.Prelude.{◌≡◌, ◌≢◌, ◌+◌, ◌⊎◌, List, [], None, length}
use Rattle.sdl_signal.specs.declared.values.Item.{Item}
use Rattle.sdl_routes.specs.declared.route.Station.{Station}
use Rattle.sdl_routes.specs.declared.route.Station.TheVariants.{Outlet}
use Rattle.sdl_forward.specs.Boards.{waiting}
use Rattle.sdl_run_outcome.specs.EnvironmentWork.{EnvWorking}

-- it read on: unless the reading had ended, one line more has its output, or the reading has ended
abbrev pub ReadsNext : EnvWorking → EnvWorking → Type 0
ReadsNext old new = old.ended ≡ None → (length new.put ≡ length old.put + 1) ⊎ (new.ended ≢ None)

-- it took what was there: one item more is received, or nothing waits at the outlet
abbrev pub TakesNext : EnvWorking → EnvWorking → List (Station × List Item) → Type 0
TakesNext old new after = (length new.received ≡ length old.received + 1) ⊎ (waiting after Outlet ≡ [])

-- all that a step has done that no refusal ended
pub record StepsOn (old new : EnvWorking) (after : List (Station × List Item)) : Type 0 where
  pub hand : new.outgoing ≡ []
  pub read : ReadsNext old new
  pub taken : TakesNext old new after
