-- Stations: which are the same, which a table of routes has, and in what order. (This project's own.)
use Rattle.std.specs.Prelude.{◌<◌, ◌==◌, ◌&&◌, Bool, true, false, if◌then◌else◌, List, [], ◌∷◌, map, Option, Some, None, Any, Contains, slice_get, ⊤}
use Rattle.std.specs.List.{AllByRecursion}
use Rattle.std.specs.Bool.{beq}
use Rattle.sdl_routes.specs.declared.route.Hop.{Hop}
use Rattle.sdl_routes.specs.declared.route.Station.{Station}
use Rattle.sdl_routes.specs.declared.route.Station.TheVariants.{Line, Inlet, Outlet}
use Rattle.sdl_routes.specs.declared.route.TableRow.{TableRow}
use Rattle.sdl_routes.specs.Routes.{hop_number}

abbrev pub same_hop : Hop → Hop → Bool
same_hop h k = (h.channel.0 == k.channel.0) && beq h.back k.back

abbrev pub same_station : Station → Station → Bool
same_station (Line h) (Line k) = same_hop h k
same_station (Inlet b) (Inlet c) = b.0 == c.0
same_station Outlet Outlet = true
same_station _ _ = false

-- there is a station, and it is this one
abbrev pub is_station : Station → Option Station → Bool
is_station s None = false
is_station s (Some t) = same_station t s

-- the stations of a list of stations with something
abbrev pub stations_of : {X : Type 0} → List (Station × X) → List Station
stations_of entries = map (λ e. e.0) entries

-- the station right after this one in a route's list; none after the last, and none where it is not in the list
abbrev pub station_behind : Station → List Station → Option Station
station_behind s [] = None
station_behind s (t ∷ stations) = if same_station t s then slice_get stations 0 else station_behind s stations

-- some route of the table passes the station
abbrev pub IsStationOf : List TableRow → Station → Type 0
IsStationOf rows s = Any (λ row. Contains row.route.stations.items s) rows

-- lines by channel, forth before back, then inlets by block, then the outlet
abbrev pub IsStationBefore : Station → Station → Type 0
IsStationBefore (Line h) (Line k) = hop_number h < hop_number k
IsStationBefore (Line h) (Inlet b) = ⊤
IsStationBefore (Line h) Outlet = ⊤
IsStationBefore (Inlet b) (Line h) = ⊥
IsStationBefore (Inlet b) (Inlet c) = b.0 < c.0
IsStationBefore (Inlet b) Outlet = ⊤
IsStationBefore Outlet s = ⊥

-- each station stands before all later ones
abbrev pub AreStationsInOrder : List Station → Type 0
AreStationsInOrder [] = ⊤
AreStationsInOrder (s ∷ stations) = AllByRecursion (IsStationBefore s) stations × AreStationsInOrder stations

-- exactly the stations of the table's routes, each once, in order
pub record AreAllStations (rows : List TableRow) (stations : List Station) : Type 0 where
  pub every : (s : Station) → IsStationOf rows s → Contains stations s
  pub only : (s : Station) → Contains stations s → IsStationOf rows s
  pub order : AreStationsInOrder stations
