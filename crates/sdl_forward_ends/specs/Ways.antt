-- The feeds that the environment needs on its ways. (This project's own.)
use Rattle.std.specs.Prelude.{◌≡◌, ℕ, List, Some, slice_get}
use Rattle.sdl_signal.specs.declared.ids.GateId.{GateId}
use Rattle.sdl_routes.specs.declared.route.Source.TheVariants as source
use Rattle.sdl_routes.specs.declared.route.Station.{Station}
use Rattle.sdl_routes.specs.declared.route.TableRow.{TableRow}
use Rattle.sdl_forward_ends.specs.Ends.{WorkerEnds, HasFeed}

-- there is a feed at the first station of each route that starts at a gate of the system
abbrev pub HasGateWays : List TableRow → WorkerEnds → Type 0
HasGateWays rows ends =
    (r : ℕ) (row : TableRow) (s : Station) (gate : GateId) → slice_get rows r ≡ Some row → row.source ≡ source.Gate gate → slice_get row.route.stations.items 0 ≡ Some s → HasFeed ends s
