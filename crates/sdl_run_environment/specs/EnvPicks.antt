-- Which route the output of a line takes: the fitting one at the step's pick. (This project's own.)
use Rattle.std.specs.Prelude.{◌≡◌, ℕ, ◌⊎◌, List, [], ◌∷◌, ◌++◌, Option, None, Some, length}
use Rattle.sdl_signal.specs.declared.values.EnvLine.{EnvLine}
use Rattle.sdl_signal.specs.declared.ids.RouteId.{RouteId}
use Rattle.sdl_routes.specs.declared.route.TableRow.{TableRow}
use Rattle.sdl_routes.specs.Routes.{IsChoice}
use Rattle.sdl_run_outcome.specs.declared.environment_output.EnvOut.{EnvOut}
use Rattle.sdl_run_outcome.specs.declared.environment_output.EnvOut.TheVariants as env_out
use Rattle.sdl_run_outcome.specs.EnvironmentWork.{EnvWorking, IsOutputOf, wish_for}

-- the route that an output took
abbrev pub route_of : EnvOut → Option RouteId
route_of (env_out.Sent i) = Some i.route
route_of (env_out.NoRoute o line) = None

-- with n routes that fit the line, in order, the output takes the one at `pick mod n`, and none where n is 0
abbrev pub IsRoutedAt : List TableRow → ℕ → EnvLine → EnvOut → Type 0
IsRoutedAt routes pick line out = IsChoice routes (wish_for line) pick (route_of out)

-- a line was read, and its output took its route at the pick
pub record OutputsAt (routes : List TableRow) (pick : ℕ) (old new : EnvWorking) : Type 0 where
  pub line : EnvLine
  pub out : EnvOut
  pub put : new.put ≡ old.put ++ out ∷ []
  pub output : IsOutputOf routes old.number (length old.put) line out
  pub routed : IsRoutedAt routes pick line out

-- no line was read, or one that went so
abbrev pub ReadsAt : List TableRow → ℕ → EnvWorking → EnvWorking → Type 0
ReadsAt routes pick old new = (new.put ≡ old.put) ⊎ OutputsAt routes pick old new
