-- The system Ring, in which two blocks send a signal round, and what a run of it leaves where each block may make two turns.
use Rattle.std.specs.Prelude.{ℕ, Bool, true, false, List, [], ◌∷◌, None, codes}
use Rattle.arrayvec.specs.ArrayString.{ArrayString}
use Rattle.sdl_signal.specs.declared.ids.BlockId.{BlockId}
use Rattle.sdl_signal.specs.declared.values.Sort.TheVariants as sort
use Rattle.sdl_signal.specs.declared.values.Pid.TheVariants as pid
use Rattle.sdl_signal.specs.declared.values.Item.{Item}
use Rattle.sdl_structure_parts.specs.declared.parts.Channel.{Channel}
use Rattle.sdl_structure_parts.specs.declared.parts.End.{End}
use Rattle.sdl_structure_parts.specs.declared.parts.Gate.{Gate}
use Rattle.sdl_structure_parts.specs.declared.parts.Owner.{Owner}
use Rattle.sdl_structure_parts.specs.declared.parts.Owner.TheVariants as owner
use Rattle.sdl_structure_parts.specs.declared.parts.Scope.{Scope}
use Rattle.sdl_structure_parts.specs.declared.parts.Scope.TheVariants as scope
use Rattle.sdl_structure_parts.specs.declared.parts.Side.{Side}
use Rattle.sdl_structure_parts.specs.declared.parts.Side.TheVariants.{Outer, Inner}
use Rattle.sdl_structure_parts.specs.Structure.{Structure}
use Rattle.sdl_routes.specs.declared.route.Hop.{Hop}
use Rattle.sdl_routes.specs.declared.route.TableRow.{TableRow}
use Rattle.sdl_routes.specs.declared.route.Source.TheVariants as source
use Rattle.sdl_routes.specs.declared.route.EndPoint.TheVariants as ends
use Rattle.sdl_routes.specs.declared.route.Station.{Station}
use Rattle.sdl_routes.specs.declared.route.Station.TheVariants as station
use Rattle.sdl_transition_behaviour.specs.declared.step.Frame.{Frame}
use Rattle.sdl_instances_log.specs.declared.event.Event.{Event}
use Rattle.sdl_instances_log.specs.declared.event.Event.TheVariants as event
use Rattle.sdl_instances_log.specs.declared.event.Done.TheVariants as done
use Rattle.sdl_instances_log.specs.declared.event.Trigger.{Trigger}
use Rattle.sdl_instances_log.specs.declared.event.Trigger.TheVariants as trigger
use Rattle.sdl_instances.specs.Machine.{State}
use Rattle.sdl_run_outcome.specs.Plan.{Plan}
use Rattle.sdl_run_outcome.specs.Outcome.{Outcome, WorkerHand}

abbrev pub named : List ℕ → ArrayString
named text = record { bytes = text; spare = [] }

-- each gate and each path carries the one signal
abbrev pub gate_of : Owner → Gate
gate_of o = record { name = named (codes "g"); owner = o; inward = record { items = record { 0 = 0 } ∷ [] }; outward = record { items = record { 0 = 0 } ∷ [] } }

abbrev pub end_at : ℕ → Side → End
end_at gate side = record { gate = record { 0 = gate }; side = side }

abbrev pub channel_of : List ℕ → Scope → End → End → Channel
channel_of name within first second =
    record {
      name = named name;
      scope = within;
      first = first;
      second = second;
      forth = record { items = record { 0 = 0 } ∷ [] };
      back = record { items = record { 0 = 0 } ∷ [] };
      nodelay = false;
    }

abbrev pub block : ℕ → BlockId
block n = record { 0 = n }

-- the gates are those of P, X, Q and Y; the channels are r, p and q
abbrev pub ring : Structure
ring =
    record {
      system = codes "Ring";
      budget = 2;
      signals = record { name = named (codes "tok"); sorts = record { items = sort.Integer ∷ [] } } ∷ [];
      blocks = record { name = named (codes "P"); scope = scope.System; depth = 1 } ∷ record { name = named (codes "Q"); scope = scope.System; depth = 1 } ∷ [];
      sets =
          record { name = named (codes "X"); block = block 0; initial = 1; maximum = 1 }
          ∷ record { name = named (codes "Y"); block = block 1; initial = 1; maximum = 1 } ∷ [];
      gates = gate_of (owner.Block (block 0)) ∷ gate_of (owner.Set (record { 0 = 0 })) ∷ gate_of (owner.Block (block 1)) ∷ gate_of (owner.Set (record { 0 = 1 })) ∷ [];
      channels =
          channel_of (codes "r") scope.System (end_at 0 Outer) (end_at 2 Outer)
          ∷ channel_of (codes "p") (scope.Block (block 0)) (end_at 0 Inner) (end_at 1 Outer)
          ∷ channel_of (codes "q") (scope.Block (block 1)) (end_at 2 Inner) (end_at 3 Outer) ∷ [];
    }

abbrev pub hop : ℕ → Bool → Hop
hop n back = record { channel = record { 0 = n }; back = back }

-- from X through p, r and q to Y, and back
abbrev pub to_y : TableRow
to_y =
    record {
      route = record {
        signal = record { 0 = 0 };
        start = record { 0 = 1 };
        end = ends.Set (record { 0 = 1 });
        end_gate = record { 0 = 3 };
        hops = record { items = hop 1 true ∷ hop 0 false ∷ hop 2 false ∷ [] };
        stations = record { items = station.Line (hop 1 true) ∷ station.Line (hop 0 false) ∷ station.Line (hop 2 false) ∷ station.Inlet (block 1) ∷ [] };
      };
      source = source.Set (record { 0 = 0 });
    }

abbrev pub to_x : TableRow
to_x =
    record {
      route = record {
        signal = record { 0 = 0 };
        start = record { 0 = 3 };
        end = ends.Set (record { 0 = 0 });
        end_gate = record { 0 = 1 };
        hops = record { items = hop 2 true ∷ hop 0 true ∷ hop 1 false ∷ [] };
        stations = record { items = station.Line (hop 2 true) ∷ station.Line (hop 0 true) ∷ station.Line (hop 1 false) ∷ station.Inlet (block 0) ∷ [] };
      };
      source = source.Set (record { 0 = 1 });
    }

abbrev pub plan : ℕ → Plan
plan budget = record { structure = ring; routes = to_y ∷ to_x ∷ []; rules = [] ∷ [] ∷ []; budget = budget }

-- tok n, sent as the output of this number by the block
abbrev pub tok : ℕ → ℕ → ℕ → Item
tok n worker number =
    record {
      origin = record { worker = worker; number = number };
      stamp = n;
      signal = record { id = record { 0 = 0 }; params = record { items = [] } };
      sender = pid.Inst (record { 0 = worker }) 1;
      to = None;
      route = record { 0 = worker };
    }

abbrev pub frame : Frame
frame = record { self_pid = pid.Null; parent = pid.Null; offspring = pid.Null; sender = pid.Null; state = None; vars = record { items = [] }; signal = None }

-- a turn that sends these; what else it shows does not count here
abbrev pub sends : Trigger → List Item → Event
sends t [] = event.Turn pid.Null t frame None (record { items = [] }) None
sends t (i ∷ is) = event.Turn pid.Null t frame None (record { items = done.Sent i ∷ [] }) None

abbrev pub enters : Item → Event
enters i = event.Entered i pid.Null

-- X sends tok 0 at its start and tok 2 for tok 1; Y sends tok 1 for tok 0; tok 2 waits at the inlet of Q
abbrev pub log_of_p : List Event
log_of_p = sends trigger.Start (tok 0 0 0 ∷ []) ∷ enters (tok 1 1 0) ∷ sends (trigger.Fire (tok 1 1 0)) (tok 2 0 1 ∷ []) ∷ []

abbrev pub log_of_q : List Event
log_of_q = sends trigger.Start [] ∷ enters (tok 0 0 0) ∷ sends (trigger.Fire (tok 0 0 0)) (tok 1 1 0 ∷ []) ∷ []

abbrev pub no_hand : WorkerHand
no_hand = record { kept = None; outgoing = [] }

abbrev pub rests : List Item → List (Station × List Item)
rests waiting =
    (station.Line (hop 0 false), []) ∷ (station.Line (hop 0 true), []) ∷ (station.Line (hop 1 false), []) ∷ (station.Line (hop 1 true), [])
    ∷ (station.Line (hop 2 false), []) ∷ (station.Line (hop 2 true), []) ∷ (station.Inlet (block 0), []) ∷ (station.Inlet (block 1), waiting) ∷ []

abbrev pub leaves : List Item → Outcome
leaves waiting =
    record {
      logs = log_of_p ∷ log_of_q ∷ [];
      env_put = [];
      env_received = [];
      hands = no_hand ∷ no_hand ∷ no_hand ∷ no_hand ∷ no_hand ∷ no_hand ∷ no_hand ∷ no_hand ∷ no_hand ∷ [];
      rests = rests waiting;
    }

-- the same run, stopped where Q has still to take tok 0
abbrev pub stops_early : Outcome
stops_early = record (leaves (tok 0 0 0 ∷ [])) { logs = log_of_p ∷ (sends trigger.Start [] ∷ []) ∷ [] }

-- a state without instances
abbrev pub no_one : State
no_one = record { living = []; last = [] }
