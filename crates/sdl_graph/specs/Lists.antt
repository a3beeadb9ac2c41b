-- What a set's lists in the structure file make of offers and frames. (This project's own.)
use Rattle.std.specs.Prelude.{ℕ, zero, suc, pos, false, List, [], ◌∷◌, ◌++◌, take, Some}
use Rattle.std.specs.Borrow.{Bor}
use Rattle.sdl_signal.specs.declared.ids.SetId.{SetId}
use Rattle.sdl_signal.specs.declared.ids.SignalId.{SignalId}
use Rattle.sdl_signal.specs.declared.ids.StateId.{StateId}
use Rattle.sdl_signal.specs.declared.values.Sort.{Sort}
use Rattle.sdl_signal.specs.declared.values.Sort.TheVariants as sort
use Rattle.sdl_signal.specs.declared.values.Pid.TheVariants as pid
use Rattle.sdl_signal.specs.declared.values.Value.{Value}
use Rattle.sdl_signal.specs.declared.values.Value.TheVariants as value
use Rattle.sdl_routes.specs.declared.route.Via.{Via}
use Rattle.sdl_transition_behaviour.specs.declared.offer.OfferedOutput.{OfferedOutput}
use Rattle.sdl_transition_behaviour.specs.declared.step.Frame.{Frame}

-- an output of an outward list, as an offer has it: a signal has at most four parameters
unfoldable pub offered_as : SignalId × Bor (List Sort) × Via → OfferedOutput
offered_as o = record { signal = record { id = o.0; sorts = record { items = take 4 o.1.now } }; via = o.2 }

-- so many states, by their numbers from 0
abbrev pub states_below : ℕ → List StateId
states_below zero = []
states_below (suc n) = states_below n ++ record { 0 = n } ∷ []

-- the value of a sort that stands for any of it before a run
abbrev pub first_of_sort : Sort → Value
first_of_sort sort.Integer = value.Integer (pos 0)
first_of_sort sort.Boolean = value.Boolean false
first_of_sort sort.Pid = value.Pid pid.Null

-- What the first instance of the set knows when it consumes a signal from the environment: nobody created it, and it created nobody.
-- There are at most eight variables and four parameters.
abbrev pub frame_at_first : SetId → StateId → List Value → SignalId → List Value → Frame
frame_at_first set state variables id parameters = record {
  self_pid = pid.Inst set 1;
  parent = pid.Null;
  offspring = pid.Null;
  sender = pid.Env;
  state = Some state;
  vars = record { items = take 8 variables };
  signal = Some (record { id = id; params = record { items = take 4 parameters } });
}
