-- Where the ways of routes lead. (Z.101, channels; inlets and the outlet are this project's own.)
use Rattle.std.specs.Prelude.{ℕ, List, [], ◌∷◌, ◌++◌, map, ◌≡◌, ◌≢◌}
use Rattle.sdl_routes.specs.declared.route.Hop.{Hop}
use Rattle.sdl_routes.specs.declared.route.Station.{Station}
use Rattle.sdl_routes.specs.declared.route.Station.TheVariants.{Line}
pub use Rattle.sdl_forward_opening.specs.Workers.{same_worker, taker, place, IsAgent, Ways, first, next, Among}

-- each station once
abbrev pub Once : List Station → Type 0
Once [] = Unit {0}
Once (s ∷ ss) = (Among s ss → ⊥) × Once ss

-- there is a route of this number
abbrev pub Leads : Ways → ℕ → Type 0
Leads t r = t.stations r ≢ []

-- delaying lines, each once, and last the station that the worker at its end takes from
pub record IsWay (t : Ways) (r : ℕ) : Type 0 where
  pub lines : List Hop
  pub are : t.stations r ≡ map Line lines ++ place (t.finish r) ∷ []
  pub once : Once (t.stations r)
  pub from : IsAgent (t.start r)
  pub to : IsAgent (t.finish r)

abbrev pub AreWays : Ways → Type 0
AreWays t = (r : ℕ) → Leads t r → IsWay t r
