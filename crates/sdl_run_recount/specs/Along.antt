-- Which items are looked for along a route, part by part. (This project's own.)
use Rattle.std.specs.Prelude.{ℕ, Bool, false, if◌then◌else◌, List, [], ◌∷◌, ◌++◌, Option, Some, None, slice_get}
use Rattle.sdl_signal.specs.declared.values.Item.{Item}
use Rattle.sdl_routes.specs.declared.route.TableRow.{TableRow}
use Rattle.sdl_routes.specs.declared.route.Station.{Station}
use Rattle.sdl_forward_opening.specs.declared.worker.Worker.{Worker}
use Rattle.sdl_forward_opening.specs.Workers.{Ways, same_worker}
use Rattle.sdl_forward.specs.Boards.{same_station}

-- the route starts at the worker, or ends there
abbrev pub starts_at : Ways → Worker → ℕ → Bool
starts_at t w r = same_worker w (t.start r)

abbrev pub ends_at : Ways → Worker → ℕ → Bool
ends_at t w r = same_worker w (t.finish r)

-- the stations of a route
abbrev pub stations_on : List TableRow → ℕ → List Station
stations_on rows r = elim (slice_get rows r) [ None ↦ [] | Some row ↦ row.route.stations.items ]

-- there is a station, and it is this one
abbrev pub is_at : Station → Option Station → Bool
is_at s None = false
is_at s (Some t) = same_station s t

-- the station is the one at this place of the route, where the first has place 0
abbrev pub stands_at : List TableRow → ℕ → Station → ℕ → Bool
stands_at rows k s r = is_at s (slice_get (stations_on rows r) k)

-- the items, where the test holds
abbrev pub given : Bool → List Item → List Item
given test items = if test then items else []

-- the items beside the workers that pass the test, in the order of the workers
abbrev pub gathered : (Worker → Bool) → List Worker → List (List Item) → List Item
gathered test [] xss = []
gathered test (w ∷ ws) [] = []
gathered test (w ∷ ws) (xs ∷ xss) = given (test w) xs ++ gathered test ws xss

-- the items that wait at the stations that pass the test
abbrev pub laid : (Station → Bool) → List (Station × List Item) → List Item
laid test [] = []
laid test (r ∷ rests) = given (test r.0) r.1 ++ laid test rests
