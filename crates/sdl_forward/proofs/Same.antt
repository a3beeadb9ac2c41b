-- Stations that test as the same are the same.
pub use Rattle.sdl_forward_ends.proofs.Same.{same_hop_is, same_hop_itself, same_station_is, same_station_itself, other_station, cases_station}
