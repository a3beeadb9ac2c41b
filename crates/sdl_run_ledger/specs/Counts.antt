-- The ledger of a run: how often each thing became of a signal. (This project's own.)
use Rattle.std.specs.Prelude.{◌≡◌, ℕ, ◌+◌, ◌*◌, ◌<◌, ◌≤◌, ◌^◌, List, [], length, sum_by}
use Rattle.std.specs.Option.{option_to_list}
use Rattle.std.specs.List.{AllByRecursion}
use Rattle.sdl_signal.specs.declared.values.Item.{Item}
use Rattle.sdl_signal.specs.Environment.{most_lines}
use Rattle.sdl_routes.specs.declared.route.Hop.{Hop}
use Rattle.sdl_routes.specs.declared.route.Station.{Station}
use Rattle.sdl_transition_behaviour.specs.declared.step.Frame.{Frame}
use Rattle.sdl_transition_behaviour.specs.declared.step.Step.{Step}
use Rattle.sdl_instances_log.specs.declared.event.Done.{Done}
use Rattle.sdl_instances_log.specs.declared.event.Event.{Event}
use Rattle.sdl_instances_log.specs.declared.counts.Counts.{Counts}
pub use Rattle.sdl_instances_log.specs.Counts.{output_by, no_route_by, entered_in, no_instance_in, gone_in, fired_in, implicit_in, stopped_in, fired_by, implicit_by}
use Rattle.sdl_instances.specs.Machine.{State}
use Rattle.sdl_instances.specs.Core.{IsBoundIn, signals_of, sets_of}
use Rattle.sdl_instances.specs.Run.{done_in, origins, turns, waiting}
use Rattle.sdl_run_outcome.specs.declared.environment_output.EnvOut.{EnvOut}
use Rattle.sdl_run_outcome.specs.declared.environment_output.EnvOut.TheVariants as env_out
use Rattle.sdl_run_ledger.specs.declared.ledger.Ledger.{Ledger}
use Rattle.sdl_forward_opening.specs.declared.worker.Worker.TheVariants.{Environment, Forwarder}
use Rattle.sdl_run_outcome.specs.EnvironmentWork.{ComesIn, env_sent}
use Rattle.sdl_run_outcome.specs.Books.{InOrder}
use Rattle.sdl_run_outcome.specs.Plan.{Plan, IsPlan, blocks_in, rules_at, ways_of}
use Rattle.sdl_run_outcome.specs.Outcome.{WorkerHand, Outcome, IsComplete, IsLawful, books_of}

-- a line of the environment that no route fits
abbrev pub no_route_at : EnvOut → ℕ
no_route_at (env_out.Sent i) = 0
no_route_at (env_out.NoRoute origin line) = 1

-- the items in a hand: the one that is kept, and those that are yet to be put
abbrev pub items_held : WorkerHand → ℕ
items_held h = length (option_to_list h.kept) + length h.outgoing

-- the items that rest at a station
abbrev pub items_at : Station × List Item → ℕ
items_at r = length r.1

-- over all events of all logs, and over all that was done in them
abbrev pub over_events : (Event → ℕ) → Outcome → ℕ
over_events f o = sum_by (λ log. sum_by f log) o.logs

abbrev pub over_done : (Done → ℕ) → Outcome → ℕ
over_done f o = over_events (λ e. sum_by f (done_in e)) o

-- all outputs of the blocks, and one for each line of the environment
abbrev pub all_output : Outcome → ℕ
all_output o = over_done output_by o + length o.env_put

-- those of them that no route fits
abbrev pub all_no_route : Outcome → ℕ
all_no_route o = over_done no_route_by o + sum_by no_route_at o.env_put

-- the signals that entered a port, and those that the environment received
abbrev pub all_entered : Outcome → ℕ
all_entered o = over_events entered_in o + length o.env_received

-- the signals that are still on their way: at the stations, and in the hands of the workers
abbrev pub all_left : Outcome → ℕ
all_left o = sum_by items_at o.rests + sum_by items_held o.hands

-- the signals that wait in the ports of all blocks, whose states these are
abbrev pub waiting_in : List State → ℕ
waiting_in finals = sum_by (λ s. waiting s.living) finals

-- The ledger counts what the run leaves, where so many signals wait in the ports.
pub record IsLedgerOf (o : Outcome) (waiting : ℕ) (l : Ledger) : Type 0 where
  pub output : l.output ≡ all_output o
  pub no_route : l.no_route ≡ all_no_route o
  pub entered : l.entered ≡ all_entered o
  pub no_instance : l.no_instance ≡ over_events no_instance_in o
  pub gone : l.gone ≡ over_events gone_in o
  pub left : l.left ≡ all_left o
  pub fired : l.fired ≡ over_events fired_in o
  pub implicit : l.implicit ≡ over_events implicit_in o
  pub stopped : l.stopped ≡ over_events stopped_in o
  pub waiting_is : l.waiting ≡ waiting
  pub environment : l.environment ≡ length o.env_received

-- each output went somewhere, and each signal that entered was consumed, or stopped with its instance, or still waits, or was
-- received by the environment
abbrev pub Balances : Ledger → Type 0
Balances l =
    (l.output ≡ l.no_route + l.entered + l.no_instance + l.gone + l.left)
    × (l.entered ≡ l.fired + l.implicit + l.stopped + l.waiting + l.environment)

-- each count is less than 2 ^ 64
pub record CountsFit (o : Outcome) : Type 0 where
  pub output : all_output o < 2 ^ 64
  pub no_route : all_no_route o < 2 ^ 64
  pub entered : all_entered o < 2 ^ 64
  pub no_instance : over_events no_instance_in o < 2 ^ 64
  pub gone : over_events gone_in o < 2 ^ 64
  pub left : all_left o < 2 ^ 64
  pub fired : over_events fired_in o < 2 ^ 64
  pub implicit : over_events implicit_in o < 2 ^ 64
  pub stopped : over_events stopped_in o < 2 ^ 64

-- the item is on a route of the plan
abbrev pub IsOnRoute : Plan → Item → Type 0
IsOnRoute plan i = i.route.0 < length plan.routes

-- What is known of a run where it stops, however its workers took turns: the order along each route, and that no signal is
-- sent beside the routes.
pub record IsTraced (may : ℕ → Frame → Step → Type 0) (plan : Plan) (o : Outcome) (finals : List State) : Type 0 where
  pub is_plan : IsPlan plan
  pub complete : IsComplete plan o
  pub order : InOrder (ways_of plan) (books_of plan o)
  pub lawful : IsLawful may plan o finals
  -- the rules of each block are of the system
  pub bound : (n : ℕ) → n < blocks_in plan → IsBoundIn (signals_of plan.structure) (sets_of plan.structure) (rules_at plan n) (record { 0 = n })
  -- what the environment sent starts there, and what it has yet to put is on a route
  pub coming : AllByRecursion (ComesIn plan.routes) (env_sent o.env_put)
  pub to_put : AllByRecursion (IsOnRoute plan) ((books_of plan o).outgoing Environment)
  -- a forwarder has nothing to put but the item that it took
  pub forwarders : (h : Hop) → (books_of plan o).outgoing (Forwarder h) ≡ []

-- The run kept to its limits: a block makes at most a million turns, a turn has at most eight outputs, and the lines that were
-- read are not too many.
pub record IsLimited (o : Outcome) : Type 0 where
  pub few_turns : AllByRecursion (λ (log : List Event). turns log ≤ 1000000) o.logs
  pub few_outputs : AllByRecursion (λ (log : List Event). length (origins log) ≤ 8 * turns log) o.logs
  pub few_lines : length o.env_put ≤ most_lines

-- the most outputs that a run may have: eight a turn of 64 blocks, and one a line
abbrev pub most_outputs : ℕ
most_outputs = 512016384

-- What each part of a run adds to a ledger, as a ledger of its own.
abbrev pub no_counts : Ledger
no_counts =
    record {
      output = 0;
      no_route = 0;
      entered = 0;
      no_instance = 0;
      gone = 0;
      left = 0;
      fired = 0;
      implicit = 0;
      stopped = 0;
      waiting = 0;
      environment = 0;
    }

abbrev pub of_event : Event → Ledger
of_event e =
    record no_counts {
      output = sum_by output_by (done_in e);
      no_route = sum_by no_route_by (done_in e);
      entered = entered_in e;
      no_instance = no_instance_in e;
      gone = gone_in e;
      fired = fired_in e;
      implicit = implicit_in e;
      stopped = stopped_in e;
    }

-- what is counted of a log
abbrev pub of_counts : Counts → Ledger
of_counts c =
    record no_counts {
      output = c.output;
      no_route = c.no_route;
      entered = c.entered;
      no_instance = c.no_instance;
      gone = c.gone;
      fired = c.fired;
      implicit = c.implicit;
      stopped = c.stopped;
    }

abbrev pub of_output : EnvOut → Ledger
of_output out = record no_counts { output = 1; no_route = no_route_at out }

abbrev pub of_hand : WorkerHand → Ledger
of_hand h = record no_counts { left = items_held h }

abbrev pub of_rest : Station × List Item → Ledger
of_rest r = record no_counts { left = items_at r }

-- what the elements of a list add
abbrev pub summed : {X : Type 0} → (X → Ledger) → List X → Ledger
summed f xs =
    record {
      output = sum_by (λ x. (f x).output) xs;
      no_route = sum_by (λ x. (f x).no_route) xs;
      entered = sum_by (λ x. (f x).entered) xs;
      no_instance = sum_by (λ x. (f x).no_instance) xs;
      gone = sum_by (λ x. (f x).gone) xs;
      left = sum_by (λ x. (f x).left) xs;
      fired = sum_by (λ x. (f x).fired) xs;
      implicit = sum_by (λ x. (f x).implicit) xs;
      stopped = sum_by (λ x. (f x).stopped) xs;
      waiting = sum_by (λ x. (f x).waiting) xs;
      environment = sum_by (λ x. (f x).environment) xs;
    }

-- count by count, the new ledger is the old one and this
pub record Adds (old more new : Ledger) : Type 0 where
  pub output : new.output ≡ old.output + more.output
  pub no_route : new.no_route ≡ old.no_route + more.no_route
  pub entered : new.entered ≡ old.entered + more.entered
  pub no_instance : new.no_instance ≡ old.no_instance + more.no_instance
  pub gone : new.gone ≡ old.gone + more.gone
  pub left : new.left ≡ old.left + more.left
  pub fired : new.fired ≡ old.fired + more.fired
  pub implicit : new.implicit ≡ old.implicit + more.implicit
  pub stopped : new.stopped ≡ old.stopped + more.stopped
  pub waiting : new.waiting ≡ old.waiting + more.waiting
  pub environment : new.environment ≡ old.environment + more.environment

-- and no count gets too large
pub record CanAdd (old more : Ledger) : Type 0 where
  pub output : old.output + more.output < 2 ^ 64
  pub no_route : old.no_route + more.no_route < 2 ^ 64
  pub entered : old.entered + more.entered < 2 ^ 64
  pub no_instance : old.no_instance + more.no_instance < 2 ^ 64
  pub gone : old.gone + more.gone < 2 ^ 64
  pub left : old.left + more.left < 2 ^ 64
  pub fired : old.fired + more.fired < 2 ^ 64
  pub implicit : old.implicit + more.implicit < 2 ^ 64
  pub stopped : old.stopped + more.stopped < 2 ^ 64
