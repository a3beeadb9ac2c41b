-- What the commands `check` and `routes` print. (This project's own.)
use Rattle.std.specs.Prelude.{ℕ, ◌+◌, List, [], ◌∷◌, ◌++◌, if◌then◌else◌, length, option_map, unwrap_or, slice_get, flat_map, codes, decimal}
use Rattle.sdl_signal.specs.declared.ids.SignalId.{SignalId}
use Rattle.sdl_signal.specs.declared.ids.SetId.{SetId}
use Rattle.sdl_signal.specs.declared.ids.BlockId.{BlockId}
use Rattle.sdl_signal.specs.declared.ids.ChannelId.{ChannelId}
use Rattle.sdl_signal.specs.declared.ids.GateId.{GateId}
use Rattle.sdl_structure_parts.specs.declared.parts.Owner.{Owner}
use Rattle.sdl_structure_parts.specs.declared.parts.Owner.TheVariants as owner
use Rattle.sdl_structure_parts.specs.Structure.{Structure, gate_at, channel_at, set_at}
use Rattle.sdl_routes.specs.declared.route.Hop.{Hop}
use Rattle.sdl_routes.specs.declared.route.Route.{Route}
use Rattle.sdl_routes.specs.declared.route.TableRow.{TableRow}

-- the names of the parts, by their numbers
abbrev pub signal_text : Structure → SignalId → List ℕ
signal_text s signal = unwrap_or (option_map (λ d. d.name.bytes) (slice_get s.signals signal.0)) []

abbrev pub set_text : Structure → SetId → List ℕ
set_text s set = unwrap_or (option_map (λ d. d.name.bytes) (set_at s set)) []

abbrev pub block_text : Structure → BlockId → List ℕ
block_text s block = unwrap_or (option_map (λ d. d.name.bytes) (slice_get s.blocks block.0)) []

abbrev pub channel_text : Structure → ChannelId → List ℕ
channel_text s channel = unwrap_or (option_map (λ d. d.name.bytes) (channel_at s channel)) []

abbrev pub gate_text : Structure → GateId → List ℕ
gate_text s gate = unwrap_or (option_map (λ d. d.name.bytes) (gate_at s gate)) []

-- the agent of a gate; the system is `env`
abbrev pub owner_text : Structure → Owner → List ℕ
owner_text s owner.System = codes "env"
owner_text s (owner.Set set) = set_text s set
owner_text s (owner.Block block) = block_text s block

abbrev pub agent_text : Structure → GateId → List ℕ
agent_text s gate = unwrap_or (option_map (λ d. owner_text s d.owner) (gate_at s gate)) []

-- the line of `check`: the name of the system, and how many parts of each kind it has
abbrev pub check_text : Structure → List ℕ
check_text s =
    codes "ok " ++ s.system ++ codes " blocks " ++ decimal (length s.blocks) ++ codes " sets " ++ decimal (length s.sets)
    ++ codes " channels " ++ decimal (length s.channels) ++ codes " signals " ++ decimal (length s.signals) ++ codes "\n"

-- a gate as a field of a line, with its agent
abbrev pub gate_field : Structure → GateId → List ℕ
gate_field s gate = codes " " ++ agent_text s gate ++ codes "." ++ gate_text s gate

-- a hop as a field of a line: its channel, and `+` where it goes from the channel's first end to its second, and `-` back
abbrev pub hop_field : Structure → Hop → List ℕ
hop_field s hop = codes " " ++ channel_text s hop.channel ++ (if hop.back then codes "-" else codes "+")

-- the number of a route, and its signal
abbrev pub signal_field : Structure → ℕ → SignalId → List ℕ
signal_field s number signal = decimal number ++ codes " " ++ signal_text s signal

-- the line of a route: its number, its signal, the gate where it starts, its hops, and the gate where it ends
abbrev pub route_line : Structure → ℕ → Route → List ℕ
route_line s number route =
    signal_field s number route.signal ++ gate_field s route.start ++ flat_map (hop_field s) route.hops.items ++ gate_field s route.end_gate ++ codes "\n"

-- the lines of routes that are numbered from this number on
abbrev pub lines_from : Structure → ℕ → List TableRow → List ℕ
lines_from s number [] = []
lines_from s number (row ∷ rows) = route_line s number row.route ++ lines_from s (number + 1) rows

-- the lines of `routes`: those of all routes, numbered from 0
abbrev pub routes_text : Structure → List TableRow → List ℕ
routes_text s routes = lines_from s 0 routes

-- the line of the route of this number, where there is one
abbrev pub line_at : Structure → List TableRow → ℕ → List ℕ
line_at s routes number = unwrap_or (option_map (λ row. route_line s number row.route) (slice_get routes number)) []
