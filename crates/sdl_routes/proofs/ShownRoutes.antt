-- What the routes of a structure show without it.
use Rattle.std.proofs.Common.{◌≡◌, ◌<◌, ◌≤◌, List, [], ◌∷◌, length, Option, Some, None, IsSomeAnd, arith}
use Rattle.sdl_signal.specs.declared.ids.SignalId.{SignalId}
use Rattle.sdl_signal.specs.declared.ids.GateId.{GateId}
use Rattle.sdl_signal.specs.declared.ids.SetId.{SetId}
use Rattle.sdl_structure_parts.specs.declared.parts.Set.{Set}
use Rattle.sdl_structure_parts.specs.Structure.{Structure, IsStructure, set_at}
use Rattle.sdl_structure_parts.specs.Rules.{IsWellFormed}
use Rattle.sdl_routes.specs.declared.route.Hop.{Hop}
use Rattle.sdl_routes.specs.declared.route.TableRow.{TableRow}
use Rattle.sdl_routes.specs.declared.route.EndPoint.{EndPoint}
use Rattle.sdl_routes.specs.declared.route.EndPoint.TheVariants as ends
use Rattle.sdl_routes.specs.declared.route.Station.{Station}
use Rattle.sdl_routes.specs.declared.route.Station.TheVariants as stations
use Rattle.sdl_routes.specs.declared.route.Source.{Source}
use Rattle.sdl_routes.specs.declared.route.Source.TheVariants as source
use Rattle.sdl_routes.specs.Routes.{IsWalk, IsRoute, IsSource, IsEndPoint, IsLastStation, is_delaying, AreRoutesOf}
use Rattle.sdl_routes.specs.Table.{IsSourceGate, IsEndGate, IsArrival, IsTableRoute, IsTable}
use Rattle.sdl_routes.proofs.Ranks.{routes_short}
use Rattle.sdl_routes.proofs.Walks.{signal_exists}
use Rattle.sdl_routes.proofs.Found.{each_of}

walk_has_hops : (s : Structure) (x : SignalId) (hops : List Hop) → IsWalk s x hops → 0 < length hops
walk_has_hops s x [] walk = absurd walk
walk_has_hops s x (h ∷ hops) walk = omega arith

arrival_in : (set : Option Set) (t : SetId) (last : Station) → IsSomeAnd set (λ set. last ≡ stations.Inlet set.block) → IsArrival (ends.Set t) last
arrival_in None t last h = absurd h
arrival_in (Some set) t last h = (set.block, h)

arrival : (s : Structure) (end : EndPoint) (last : Station) → IsLastStation s end last → IsArrival end last
arrival s (ends.Set t) last h = arrival_in (set_at s t) t last h
arrival s (ends.Environment e) last h = h

source_gate : (s : Structure) (gate : GateId) (src : Source) → IsSource s gate src → IsSourceGate src gate
source_gate s gate (source.Set t) h = tt
source_gate s gate (source.Gate e) h = h.0

end_gate : (s : Structure) (gate : GateId) (end : EndPoint) → IsEndPoint s gate end → IsEndGate end gate
end_gate s gate (ends.Set t) h = tt
end_gate s gate (ends.Environment e) h = h.0

pub shown_route : (s : Structure) → IsStructure s → IsWellFormed s → (row : TableRow) → IsRoute s row → IsTableRoute row
shown_route s is wf row route =
    let (few_hops, few_stations, hops_once, stations_once) = routes_short s is wf row route in
    let (last, ends, are) = route.stations in
    let exists : row.route.signal.0 < length s.signals = signal_exists s is row.route.signal row.route.hops.items route.walk in
    let few : length s.signals ≤ 64 = is.few_signals in
    record {
      signal = omega arith;
      some_hops = walk_has_hops s row.route.signal row.route.hops.items route.walk;
      few_hops = few_hops;
      hops_once = hops_once;
      few_stations = few_stations;
      stations_once = stations_once;
      stations = (is_delaying s, last, arrival s row.route.end last ends, are);
      source = source_gate s row.route.start row.source route.source;
      end = end_gate s row.route.end_gate row.route.end route.end;
    }

pub table_of : (s : Structure) → IsStructure s → IsWellFormed s → (rows : List TableRow) → AreRoutesOf s rows → length rows ≤ 4096 → IsTable rows
table_of s is wf rows are few = record {
  few = few;
  shown = each_of (IsRoute s) IsTableRoute rows (shown_route s is wf) are.sound;
  order = are.order;
}
