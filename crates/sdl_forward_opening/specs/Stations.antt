-- The stations of a table of routes.
pub use Rattle.sdl_forward_ends.specs.Stations.{IsStationOf, IsStationBefore, AreStationsInOrder, AreAllStations}
