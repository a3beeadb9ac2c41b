-- What is counted of a block's log. (This project's own.)
use Rattle.std.specs.Prelude.{◌≡◌, ℕ, ◌+◌, ◌*◌, ◌-◌, ◌<◌, ◌≤◌, ◌^◌, List, sum_by, unwrap_or}
use Rattle.sdl_instances_log.specs.declared.event.Cause.TheVariants as cause
use Rattle.sdl_instances_log.specs.declared.event.Trigger.{Trigger}
use Rattle.sdl_instances_log.specs.declared.event.Trigger.TheVariants as trigger
use Rattle.sdl_instances_log.specs.declared.event.Done.{Done}
use Rattle.sdl_instances_log.specs.declared.event.Done.TheVariants as done
use Rattle.sdl_instances_log.specs.declared.event.Event.{Event}
use Rattle.sdl_instances_log.specs.declared.event.Event.TheVariants as event
use Rattle.sdl_instances_log.specs.declared.counts.Counts.{Counts}
use Rattle.sdl_instances_log.specs.Log.{done_in}

-- an output, with or without a route
abbrev pub output_by : Done → ℕ
output_by (done.Sent i) = 1
output_by (done.NoRoute origin id) = 1
output_by (done.Made p) = 0

-- an output that no route fits
abbrev pub no_route_by : Done → ℕ
no_route_by (done.Sent i) = 0
no_route_by (done.NoRoute origin id) = 1
no_route_by (done.Made p) = 0

-- a signal that entered a port, or was discarded on its arrival, by the cause
abbrev pub entered_in : Event → ℕ
entered_in (event.Entered i p) = 1
entered_in (event.Discarded i c) = 0
entered_in (event.Turn p t frame step did stopped) = 0

abbrev pub no_instance_in : Event → ℕ
no_instance_in (event.Discarded i cause.NoInstance) = 1
no_instance_in (event.Discarded i cause.Gone) = 0
no_instance_in (event.Entered i p) = 0
no_instance_in (event.Turn p t frame step did stopped) = 0

abbrev pub gone_in : Event → ℕ
gone_in (event.Discarded i cause.NoInstance) = 0
gone_in (event.Discarded i cause.Gone) = 1
gone_in (event.Entered i p) = 0
gone_in (event.Turn p t frame step did stopped) = 0

-- a signal that a turn consumed, by a row or by the implicit transition; a start consumes none
abbrev pub fired_by : Trigger → ℕ
fired_by trigger.Start = 0
fired_by (trigger.Fire i) = 1
fired_by (trigger.Implicit i) = 0

abbrev pub implicit_by : Trigger → ℕ
implicit_by trigger.Start = 0
implicit_by (trigger.Fire i) = 0
implicit_by (trigger.Implicit i) = 1

abbrev pub fired_in : Event → ℕ
fired_in (event.Turn p t frame step did stopped) = fired_by t
fired_in (event.Entered i p) = 0
fired_in (event.Discarded i c) = 0

abbrev pub implicit_in : Event → ℕ
implicit_in (event.Turn p t frame step did stopped) = implicit_by t
implicit_in (event.Entered i p) = 0
implicit_in (event.Discarded i c) = 0

-- the signals that were in the port of an instance that stopped
abbrev pub stopped_in : Event → ℕ
stopped_in (event.Turn p t frame step did stopped) = unwrap_or stopped 0
stopped_in (event.Entered i p) = 0
stopped_in (event.Discarded i c) = 0

-- the outputs of an event, and those of them that no route fits
abbrev pub outputs_in : Event → ℕ
outputs_in e = sum_by output_by (done_in e)

abbrev pub no_routes_in : Event → ℕ
no_routes_in e = sum_by no_route_by (done_in e)

-- The counts are those of the log.
pub record AreCountsOf (log : List Event) (c : Counts) : Type 0 where
  pub output : c.output ≡ sum_by outputs_in log
  pub no_route : c.no_route ≡ sum_by no_routes_in log
  pub entered : c.entered ≡ sum_by entered_in log
  pub no_instance : c.no_instance ≡ sum_by no_instance_in log
  pub gone : c.gone ≡ sum_by gone_in log
  pub fired : c.fired ≡ sum_by fired_in log
  pub implicit : c.implicit ≡ sum_by implicit_in log
  pub stopped : c.stopped ≡ sum_by stopped_in log

-- The counts are the old ones and what this event adds.
pub record AddsEvent (old : Counts) (e : Event) (new : Counts) : Type 0 where
  pub output : new.output ≡ old.output + outputs_in e
  pub no_route : new.no_route ≡ old.no_route + no_routes_in e
  pub entered : new.entered ≡ old.entered + entered_in e
  pub no_instance : new.no_instance ≡ old.no_instance + no_instance_in e
  pub gone : new.gone ≡ old.gone + gone_in e
  pub fired : new.fired ≡ old.fired + fired_in e
  pub implicit : new.implicit ≡ old.implicit + implicit_in e
  pub stopped : new.stopped ≡ old.stopped + stopped_in e

-- no count is larger than those of so many events can be
pub record AreWithin (events : ℕ) (c : Counts) : Type 0 where
  pub output : c.output ≤ (2 ^ 64 - 1) * events
  pub no_route : c.no_route ≤ (2 ^ 64 - 1) * events
  pub entered : c.entered ≤ (2 ^ 64 - 1) * events
  pub no_instance : c.no_instance ≤ (2 ^ 64 - 1) * events
  pub gone : c.gone ≤ (2 ^ 64 - 1) * events
  pub fired : c.fired ≤ (2 ^ 64 - 1) * events
  pub implicit : c.implicit ≤ (2 ^ 64 - 1) * events
  pub stopped : c.stopped ≤ (2 ^ 64 - 1) * events

-- they are those of so few events that one more can be counted
abbrev pub CanCount : Counts → Type 0
CanCount c = (n : ℕ) × (n < 2 ^ 64) × AreWithin n c
