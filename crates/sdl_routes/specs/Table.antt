-- A table of routes: what its rows show without their structure.
use Rattle.std.specs.Prelude.{◌≡◌, ◌<◌, ◌≤◌, Bool, List, [], ◌∷◌, ◌++◌, map, filter, length, ⊤}
use Rattle.std.specs.List.{AllByRecursion}
use Rattle.sdl_signal.specs.declared.ids.BlockId.{BlockId}
use Rattle.sdl_signal.specs.declared.ids.GateId.{GateId}
use Rattle.sdl_routes.specs.declared.route.Hop.{Hop}
use Rattle.sdl_routes.specs.declared.route.Route.{Route}
use Rattle.sdl_routes.specs.declared.route.TableRow.{TableRow}
use Rattle.sdl_routes.specs.declared.route.EndPoint.{EndPoint}
use Rattle.sdl_routes.specs.declared.route.EndPoint.TheVariants as ends
use Rattle.sdl_routes.specs.declared.route.Station.{Station}
use Rattle.sdl_routes.specs.declared.route.Station.TheVariants as stations
use Rattle.sdl_routes.specs.declared.route.Source.{Source}
use Rattle.sdl_routes.specs.declared.route.Source.TheVariants as source
use Rattle.sdl_routes.specs.Routes.{EachOnce, AreInOrder}

-- the environment starts at the very gate of its source, and a route to the environment ends at the very gate of its end
abbrev pub IsSourceGate : Source → GateId → Type 0
IsSourceGate (source.Gate e) gate = e ≡ gate
IsSourceGate (source.Set t) gate = ⊤

abbrev pub IsEndGate : EndPoint → GateId → Type 0
IsEndGate (ends.Environment e) gate = e ≡ gate
IsEndGate (ends.Set t) gate = ⊤

-- a route to a set ends in an inlet, and one to the environment in the outlet
abbrev pub IsArrival : EndPoint → Station → Type 0
IsArrival (ends.Set t) station = (b : BlockId) × (station ≡ stations.Inlet b)
IsArrival (ends.Environment e) station = station ≡ stations.Outlet

-- the stations are some of the hops, in order, and then an inlet or the outlet
abbrev pub AreStationsOf : Route → Type 0
AreStationsOf r =
    (delays : Hop → Bool) × (last : Station) × IsArrival r.end last × (r.stations.items ≡ map stations.Line (filter delays r.hops.items) ++ last ∷ [])

-- what each route of a table shows without the structure
pub record IsTableRoute (row : TableRow) : Type 0 where
  pub signal : row.route.signal.0 < 64
  pub some_hops : 0 < length row.route.hops.items
  pub few_hops : length row.route.hops.items ≤ 9
  pub hops_once : EachOnce row.route.hops.items
  pub few_stations : length row.route.stations.items ≤ 10
  pub stations_once : EachOnce row.route.stations.items
  pub stations : AreStationsOf row.route
  pub source : IsSourceGate row.source row.route.start
  pub end : IsEndGate row.route.end row.route.end_gate

pub record IsTable (rows : List TableRow) : Type 0 where
  pub few : length rows ≤ 4096
  pub shown : AllByRecursion IsTableRoute rows
  pub order : AreInOrder rows
