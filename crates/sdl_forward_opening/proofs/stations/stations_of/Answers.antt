use Rattle.std.proofs.lemmas.List.Filters.{dedup_is}
use Rattle.sdl_forward_opening.proofs.Collected.{station_eq, all_stations_are}
use Rattle.sdl_forward_opening.proofs.stations.stations_of.Goals as goal

pub returns : goal.returns
returns c =
    all_stations_are c.args.routes.now c.in_ok-stations.stations.items c.sort_unstable.new.self.items c.dedup.new.self.items
    c.in_ok-stations.ensures c.sort_unstable.ensures.permutation c.sort_unstable.ensures.sorted (dedup_is station_eq _ _ c.dedup.ensures.filtered)
