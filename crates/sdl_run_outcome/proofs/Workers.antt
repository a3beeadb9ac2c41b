-- The workers of a plan, and where each takes from.
use Rattle.std.proofs.Common.{◌≡◌, ◌≢◌, refl, ap, sym, ◌∙◌}
use Rattle.sdl_routes.specs.declared.route.Station.{Station}
use Rattle.sdl_routes.specs.declared.route.Station.TheVariants.{Line, Inlet, Outlet}
use Rattle.sdl_routes.specs.Routes.{EachOnce}
use Rattle.sdl_forward_opening.specs.declared.worker.Worker.{Worker}
pub use Rattle.sdl_forward_opening.proofs.Counted.{count_blocks}
use Rattle.sdl_forward_opening.proofs.Standing as standing
use Rattle.sdl_run_outcome.specs.Stations.{place, taker}
use Rattle.sdl_run_outcome.specs.Plan.{Plan, workers_of}
use Rattle.sdl_run_outcome.proofs.AlongStations.{place_taker}

pub workers_once : (plan : Plan) → EachOnce (workers_of plan)
workers_once plan = standing.workers_once plan.structure

pub taker_place : (s : Station) → place (taker s) ≡ s
taker_place (Line h) = refl
taker_place (Inlet b) = refl
taker_place Outlet = refl

pub place_apart : (v w : Worker) → v ≢ w → place v ≢ place w
place_apart v w n e = n (sym (place_taker v) ∙ (ap taker e ∙ place_taker w))
