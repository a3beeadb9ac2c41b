-- Which worker puts at which station.
use Rattle.std.specs.Prelude.{Bool, true, false, ◌||◌, if◌then◌else◌, ℕ, zero, suc, List, [], ◌∷◌, Option, Some, None}
use Rattle.std.specs.Option.{option_to_list}
use Rattle.std.specs.List.{flat_map}
use Rattle.sdl_structure_parts.specs.Structure.{Structure}
use Rattle.sdl_routes.specs.declared.route.TableRow.{TableRow}
use Rattle.sdl_routes.specs.declared.route.Station.{Station}
use Rattle.sdl_forward_ends.specs.Stations.{same_station}
use Rattle.sdl_forward_opening.specs.declared.worker.Worker.{Worker}
use Rattle.sdl_forward_opening.specs.Workers.{taker, starter, same_worker}

-- along stations, at the first of which w puts, who puts at the station s: w, or who takes from the station before it
abbrev pub giver : Worker → List Station → Station → Option Worker
giver w [] s = None
giver w (t ∷ stations) s = if same_station t s then Some w else giver (taker t) stations s

-- who puts items of this route at the station
abbrev pub putter : Structure → Station → TableRow → Option Worker
putter str s row = giver (starter str row.source) row.route.stations.items s

-- who puts items at the station, route by route
abbrev pub givers_at : Structure → List TableRow → Station → List Worker
givers_at str rows s = flat_map (λ row. option_to_list (putter str s row)) rows

-- the worker is one of these
abbrev pub is_among : List Worker → Worker → Bool
is_among [] w = false
is_among (v ∷ vs) w = same_worker v w || is_among vs w

-- w puts items of some route at the station
abbrev pub puts_at : Structure → List TableRow → Station → Worker → Bool
puts_at str rows s w = is_among (givers_at str rows s) w

-- how many are true
abbrev pub count_true : List Bool → ℕ
count_true [] = zero
count_true (true ∷ bs) = suc (count_true bs)
count_true (false ∷ bs) = count_true bs
