-- Boards: a queue of items for each station of some route.
use Rattle.std.specs.Prelude.{◌≡◌, ◌≢◌, if◌then◌else◌, List, [], ◌∷◌, map}
use Rattle.sdl_signal.specs.declared.values.Item.{Item}
use Rattle.sdl_routes.specs.declared.route.TableRow.{TableRow}
use Rattle.sdl_routes.specs.declared.route.Station.{Station}
use Rattle.sdl_queue.specs.declared.rest.Rest.{Rest}
use Rattle.sdl_queue.specs.Rest.{left_in}
pub use Rattle.sdl_forward_ends.specs.Stations.{same_hop, same_station, stations_of, IsStationOf, IsStationBefore, AreStationsInOrder, AreAllStations}

-- A board is seen as a list of stations, each with the items that wait there, from the front.

-- the items that wait at a station; none where the board has no such station
abbrev pub waiting : List (Station × List Item) → Station → List Item
waiting [] s = []
waiting (e ∷ entries) s = if same_station e.0 s then e.1 else waiting entries s

-- nothing changes on a board but at this station
pub record ChangesOnly (old new : List (Station × List Item)) (s : Station) : Type 0 where
  pub stations : stations_of new ≡ stations_of old
  pub others : (t : Station) → t ≢ s → waiting new t ≡ waiting old t

-- what is left at each station
abbrev pub lists_of : List (Station × Rest) → List (Station × List Item)
lists_of rests = map (λ r. (r.0, left_in r.1)) rests

-- the board has a queue for each station of the table's routes, and no other
abbrev pub IsBoardOf : List TableRow → List (Station × List Item) → Type 0
IsBoardOf rows board = AreAllStations rows (stations_of board)
