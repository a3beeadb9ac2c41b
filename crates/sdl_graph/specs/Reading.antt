-- What a frame shows of values.
use Rattle.std.specs.Prelude.{ℤ, List, [], Bool, Option, Some, None}
use Rattle.sdl_signal.specs.declared.values.Pid.{Pid}
use Rattle.sdl_signal.specs.declared.values.Value.{Value}
use Rattle.sdl_signal.specs.declared.values.Value.TheVariants as value
use Rattle.sdl_signal.specs.declared.values.Signal.{Signal}
use Rattle.sdl_transition_behaviour.specs.declared.step.Frame.{Frame}

abbrev pub parameters_of : Option Signal → List Value
parameters_of None = []
parameters_of (Some signal) = signal.params.items

-- the parameters of the signal consumed, and none for a start
abbrev pub parameters : Frame → List Value
parameters frame = parameters_of frame.signal

abbrev pub integer_of : Value → Option ℤ
integer_of (value.Integer n) = Some n
integer_of (value.Boolean _) = None
integer_of (value.Pid _) = None

abbrev pub boolean_of : Value → Option Bool
boolean_of (value.Integer _) = None
boolean_of (value.Boolean b) = Some b
boolean_of (value.Pid _) = None

abbrev pub pid_of : Value → Option Pid
pid_of (value.Integer _) = None
pid_of (value.Boolean _) = None
pid_of (value.Pid p) = Some p
