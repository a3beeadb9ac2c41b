-- Block K of the system Spawn, for what a pick chooses in it.
use Rattle.std.specs.Prelude.{ℕ, List, [], ◌∷◌, None, Some, pos}
use Rattle.sdl_signal.specs.declared.values.Item.{Item}
use Rattle.sdl_signal.specs.declared.values.Pid.TheVariants as pid
use Rattle.sdl_signal.specs.declared.values.Value.TheVariants as value
use Rattle.sdl_signal.specs.declared.values.EnvLine.{EnvLine}
use Rattle.sdl_routes.specs.declared.route.TableRow.{TableRow}
use Rattle.sdl_instances_log.specs.declared.event.Event.{Event}
use Rattle.sdl_instances.specs.Machine.{State}
use Rattle.sdl_instances.specs.Core.{Core}
use Rattle.sdl_instances.specs.Spawn.{spawn, block, idle, instance, fresh, waits, state, to_kid}
use Rattle.sdl_run_outcome.specs.declared.environment_output.EnvOut.{EnvOut}
use Rattle.sdl_run_outcome.specs.declared.environment_output.EnvOut.TheVariants as env_out

-- a signal from the environment, for any Kid
abbrev pub ask : Item
ask =
    record {
      origin = record { worker = 1; number = 0 };
      stamp = 0;
      signal = record { id = record { 0 = 1 }; params = record { items = value.Integer (pos 7) ∷ [] } };
      sender = pid.Env;
      to = None;
      route = record { 0 = 1 };
    }

-- the block in a state, with a log
abbrev pub in_state : State → List Event → Core
in_state s log = record { block = block; signals = spawn.signals; sets = spawn.sets; state = s; log = log; budget = 100 }

-- all have started, and the second Kid has the signal in its port
abbrev pub second_has_it : State
second_has_it = state waits waits (instance (Some idle) (ask ∷ []) pid.Null pid.Null pid.Null)

-- only the second Kid has started, the third instance in order of creation
abbrev pub third_started : State
third_started = state fresh fresh waits

-- two ways for it from its gate, its line there, and its output along the one or the other
abbrev pub two_ways : List TableRow
two_ways = to_kid 1 ∷ to_kid 1 ∷ []

abbrev pub line : EnvLine
line = record { gate = record { 0 = 0 }; signal = ask.signal; to = None }

abbrev pub along : ℕ → EnvOut
along n = env_out.Sent (record ask { route = record { 0 = n } })
