-- A whole run of Echo: the environment outputs ping(7), E answers pong(7), and the environment receives it.
use Rattle.std.specs.Prelude.{ℕ, true, false, List, [], ◌∷◌, Option, Some, None, pos, codes}
use Rattle.sdl_signal.specs.declared.ids.StateId.{StateId}
use Rattle.sdl_signal.specs.declared.values.Value.TheVariants as value
use Rattle.sdl_signal.specs.declared.values.Pid.{Pid}
use Rattle.sdl_signal.specs.declared.values.Pid.TheVariants as pid
use Rattle.sdl_signal.specs.declared.values.Signal.{Signal}
use Rattle.sdl_signal.specs.declared.values.Item.{Item}
use Rattle.sdl_signal.specs.declared.values.EnvLine.{EnvLine}
use Rattle.sdl_signal_lines.specs.Bytes.{ended_line}
use Rattle.sdl_routes.specs.declared.route.Station.{Station}
use Rattle.sdl_routes.specs.declared.route.Station.TheVariants as station
use Rattle.sdl_routes.specs.declared.route.Via.TheVariants as via
use Rattle.sdl_transition_behaviour.specs.declared.step.Frame.{Frame}
use Rattle.sdl_transition_behaviour.specs.declared.step.Step.{Step}
use Rattle.sdl_transition_behaviour.specs.declared.step.Next.TheVariants as next_is
use Rattle.sdl_transition_behaviour.specs.declared.step.Action.TheVariants as action
use Rattle.sdl_transition_behaviour.specs.declared.step.Dest.TheVariants as dest
use Rattle.sdl_instances_log.specs.declared.event.Event.{Event}
use Rattle.sdl_instances_log.specs.declared.event.Event.TheVariants as event
use Rattle.sdl_instances_log.specs.declared.event.Done.TheVariants as done
use Rattle.sdl_instances_log.specs.declared.event.Trigger.TheVariants as trigger
use Rattle.sdl_instances_processes.specs.Record.{Record}
use Rattle.sdl_instances.specs.Machine.{State}
use Rattle.sdl_run_outcome.specs.declared.environment_output.EnvOut.{EnvOut}
use Rattle.sdl_run_outcome.specs.declared.environment_output.EnvOut.TheVariants as env_out
use Rattle.sdl_run_outcome.specs.Outcome.{Outcome}
use Rattle.sdl_run_outcome.specs.Ring.{block, hop, no_hand}
use Rattle.sdl_run_ledger.specs.declared.ledger.Ledger.{Ledger}
use Rattle.sdl_run_laws.specs.Echo.{idle}

-- the signals, of which the environment's worker, number 1, outputs ping and E outputs pong
abbrev pub signal : ℕ → ℕ → Signal
signal id n = record { id = record { 0 = id }; params = record { items = value.Integer (pos n) ∷ [] } }

abbrev pub e : Pid
e = pid.Inst (record { 0 = 0 }) 1

abbrev pub ping : ℕ → Item
ping n =
    record { origin = record { worker = 1; number = 0 }; stamp = 0; signal = signal 0 n; sender = pid.Env; to = None; route = record { 0 = 0 } }

abbrev pub pong : ℕ → ℕ → Item
pong stamp n =
    record { origin = record { worker = 0; number = 0 }; stamp = stamp; signal = signal 1 n; sender = e; to = None; route = record { 0 = 1 } }

-- E before its start, idle, with ping in its port, and after it consumed it
abbrev pub instance : Option StateId → List Item → Pid → Record
instance state port sender = record { state = state; vars = []; port = port; saves = []; parent = pid.Null; offspring = pid.Null; sender = sender }

abbrev pub with : Record → State
with r = record { living = (e, r) ∷ []; last = 1 ∷ [] }

abbrev pub final : State
final = with (instance (Some idle) [] pid.Env)

-- its steps: to idle, and there the answer
abbrev pub go_idle : Step
go_idle = record { actions = record { items = [] }; vars = record { items = [] }; next = next_is.State idle }

abbrev pub answer : ℕ → Step
answer n = record { actions = record { items = action.Output (signal 1 n) dest.Anywhere via.Any ∷ [] }; vars = record { items = [] }; next = next_is.State idle }

abbrev pub frame : Option StateId → Option Signal → Pid → Frame
frame state consumed sender =
    record { self_pid = e; parent = pid.Null; offspring = pid.Null; sender = sender; state = state; vars = record { items = [] }; signal = consumed }

-- its log: it starts, ping(7) enters its port, and it answers
abbrev pub starts : Event
starts = event.Turn e trigger.Start (frame None None pid.Null) (Some go_idle) (record { items = [] }) None

abbrev pub answers : Item → Event
answers reply =
    event.Turn e (trigger.Fire (ping 7)) (frame (Some idle) (Some (signal 0 7)) pid.Env) (Some (answer 7)) (record { items = done.Sent reply ∷ [] }) None

abbrev pub log_of : Item → List Event
log_of reply = starts ∷ event.Entered (ping 7) e ∷ answers reply ∷ []

-- what the run leaves: nothing in any hand, and nothing at any station
abbrev pub rests : List Item → List (Station × List Item)
rests left =
    (station.Line (hop 0 false), []) ∷ (station.Line (hop 0 true), []) ∷ (station.Line (hop 1 false), []) ∷ (station.Line (hop 1 true), [])
    ∷ (station.Inlet (block 0), []) ∷ (station.Outlet, left) ∷ []

abbrev pub leaves : Outcome
leaves =
    record {
      logs = log_of (pong 1 7) ∷ [];
      env_put = env_out.Sent (ping 7) ∷ [];
      env_received = pong 1 7 ∷ [];
      hands = no_hand ∷ no_hand ∷ no_hand ∷ no_hand ∷ no_hand ∷ no_hand ∷ [];
      rests = rests [];
    }

-- ping and pong are output, both enter, one is consumed and one received
abbrev pub ledger : Ledger
ledger =
    record {
      output = 2;
      no_route = 0;
      entered = 2;
      no_instance = 0;
      gone = 0;
      left = 0;
      fired = 1;
      implicit = 0;
      stopped = 0;
      waiting = 0;
      environment = 1;
    }

-- the lines that the environment reads and writes
abbrev pub ping_line : EnvLine
ping_line = record { gate = record { 0 = 0 }; signal = signal 0 7; to = None }

abbrev pub input_text : List ℕ
input_text = ended_line (codes "line ping 7")

abbrev pub output_text : List ℕ
output_text = ended_line (codes "line pong 7")

-- what it would leave with one thing changed
abbrev pub with_log : List Event → Outcome
with_log log = record leaves { logs = log ∷ [] }

abbrev pub with_put : List EnvOut → Outcome
with_put outs = record leaves { env_put = outs }

abbrev pub with_received : List Item → Outcome
with_received items = record leaves { env_received = items }

abbrev pub with_rests : List (Station × List Item) → Outcome
with_rests all = record leaves { rests = all }

abbrev pub enters : Item → Event
enters i = event.Entered i e
