-- The system Echo: its structure, its routes and the rules of its one agent.
use Rattle.std.specs.Prelude.{ℕ, true, false, List, [], ◌∷◌, Some, None, codes}
use Rattle.sdl_signal.specs.declared.ids.StateId.{StateId}
use Rattle.sdl_signal.specs.declared.values.Sort.TheVariants as sort
use Rattle.sdl_structure_parts.specs.declared.parts.Channel.{Channel}
use Rattle.sdl_structure_parts.specs.declared.parts.End.{End}
use Rattle.sdl_structure_parts.specs.declared.parts.Gate.{Gate}
use Rattle.sdl_structure_parts.specs.declared.parts.Owner.{Owner}
use Rattle.sdl_structure_parts.specs.declared.parts.Owner.TheVariants as owner
use Rattle.sdl_structure_parts.specs.declared.parts.Scope.{Scope}
use Rattle.sdl_structure_parts.specs.declared.parts.Scope.TheVariants as scope
use Rattle.sdl_structure_parts.specs.declared.parts.Side.TheVariants.{Outer, Inner}
use Rattle.sdl_structure_parts.specs.Structure.{Structure}
use Rattle.sdl_routes.specs.declared.route.TableRow.{TableRow}
use Rattle.sdl_routes.specs.declared.route.Source.TheVariants as source
use Rattle.sdl_routes.specs.declared.route.EndPoint.TheVariants as ends
use Rattle.sdl_routes.specs.declared.route.Station.TheVariants as station
use Rattle.sdl_transition_behaviour.specs.declared.offer.Offer.{Offer}
use Rattle.sdl_transition.specs.Rules.{Rules}
use Rattle.sdl_agents.specs.Offered.{sorted, offered}
use Rattle.sdl_run_outcome.specs.Plan.{Plan}
use Rattle.sdl_run_outcome.specs.Ring.{named, end_at, block, hop}

-- Echo: its signals are ping and pong, its gates those of the system, of B and of E, and its channels c0 and c1
abbrev pub gate_of : List ℕ → Owner → Gate
gate_of name own =
    record { name = named name; owner = own; inward = record { items = record { 0 = 0 } ∷ [] }; outward = record { items = record { 0 = 1 } ∷ [] } }

abbrev pub channel_of : List ℕ → Scope → End → End → Channel
channel_of name within first second =
    record {
      name = named name;
      scope = within;
      first = first;
      second = second;
      forth = record { items = record { 0 = 0 } ∷ [] };
      back = record { items = record { 0 = 1 } ∷ [] };
      nodelay = false;
    }

abbrev pub echo : Structure
echo =
    record {
      system = codes "Echo";
      budget = 100000;
      signals =
          record { name = named (codes "ping"); sorts = record { items = sort.Integer ∷ [] } }
          ∷ record { name = named (codes "pong"); sorts = record { items = sort.Integer ∷ [] } } ∷ [];
      blocks = record { name = named (codes "B"); scope = scope.System; depth = 1 } ∷ [];
      sets = record { name = named (codes "E"); block = block 0; initial = 1; maximum = 1024 } ∷ [];
      gates = gate_of (codes "line") owner.System ∷ gate_of (codes "g") (owner.Block (block 0)) ∷ gate_of (codes "p") (owner.Set (record { 0 = 0 })) ∷ [];
      channels =
          channel_of (codes "c0") scope.System (end_at 0 Inner) (end_at 1 Outer)
          ∷ channel_of (codes "c1") (scope.Block (block 0)) (end_at 1 Inner) (end_at 2 Outer) ∷ [];
    }

-- from the environment to E, and back
abbrev pub to_e : TableRow
to_e =
    record {
      route = record {
        signal = record { 0 = 0 };
        start = record { 0 = 0 };
        end = ends.Set (record { 0 = 0 });
        end_gate = record { 0 = 2 };
        hops = record { items = hop 0 false ∷ hop 1 false ∷ [] };
        stations = record { items = station.Line (hop 0 false) ∷ station.Line (hop 1 false) ∷ station.Inlet (block 0) ∷ [] };
      };
      source = source.Gate (record { 0 = 0 });
    }

abbrev pub to_line : TableRow
to_line =
    record {
      route = record {
        signal = record { 0 = 1 };
        start = record { 0 = 2 };
        end = ends.Environment (record { 0 = 0 });
        end_gate = record { 0 = 0 };
        hops = record { items = hop 1 true ∷ hop 0 true ∷ [] };
        stations = record { items = station.Line (hop 1 true) ∷ station.Line (hop 0 true) ∷ station.Outlet ∷ [] };
      };
      source = source.Set (record { 0 = 0 });
    }

abbrev pub routes : List TableRow
routes = to_e ∷ to_line ∷ []

-- the rules of E: its start, and its row for ping
abbrev pub idle : StateId
idle = record { 0 = 0 }

abbrev pub start_offer : Offer
start_offer =
    record {
      state = None;
      signal = None;
      vars = record { items = [] };
      outputs = record { items = [] };
      creates = record { items = [] };
      nexts = record { items = idle ∷ [] };
      may_stop = false;
      sets = 1;
    }

abbrev pub ping_offer : Offer
ping_offer =
    record {
      state = Some idle;
      signal = Some (sorted 0 (sort.Integer ∷ []));
      vars = record { items = [] };
      outputs = record { items = offered 1 (sort.Integer ∷ []) ∷ [] };
      creates = record { items = [] };
      nexts = record { items = idle ∷ [] };
      may_stop = false;
      sets = 1;
    }

abbrev pub rules : List Rules
rules =
    record {
      set = record { 0 = 0 };
      vars = [];
      start = record { number = 0; offer = start_offer };
      rows = record { state = idle; signal = record { 0 = 0 }; rule = record { number = 1; offer = ping_offer } } ∷ [];
      saves = [];
    } ∷ []

abbrev pub plan : Plan
plan = record { structure = echo; routes = routes; rules = rules ∷ []; budget = 10 }
