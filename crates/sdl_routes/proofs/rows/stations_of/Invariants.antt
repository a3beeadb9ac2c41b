use Rattle.std.proofs.Common.{◌≡◌, ◌≤◌, length, take}
use Rattle.sdl_routes.specs.Routes.{delaying}
use Rattle.sdl_routes.proofs.rows.stations_of.Given as goal

abbrev pub invariant-loop-hop : goal.invariant-loop-hop
invariant-loop-hop l = record {
  long : length l.stations.items ≤ l.hop-index;
  found : l.stations.items ≡ delaying l.structure (take l.hop-index l.hops);
}
