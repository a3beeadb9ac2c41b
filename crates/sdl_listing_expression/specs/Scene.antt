-- What an expression can see: the frame of the transition, and the variables as they are now. And a value seen as one of a sort.
use Rattle.std.specs.Prelude.{◌^◌, ℤ, pos, negsuc, Bool, false, ◌&&◌, nat_lt, if◌then◌else◌, List, [], Option, Some, None}
use Rattle.sdl_signal.specs.declared.ids.SetId.{SetId}
use Rattle.sdl_signal.specs.declared.values.Sort.{Sort}
use Rattle.sdl_signal.specs.declared.values.Sort.TheVariants as sort
use Rattle.sdl_signal.specs.declared.values.Pid.{Pid}
use Rattle.sdl_signal.specs.declared.values.Pid.TheVariants.{Null, Env, Inst}
use Rattle.sdl_signal.specs.declared.values.Value.{Value}
use Rattle.sdl_signal.specs.declared.values.Value.TheVariants as value
use Rattle.sdl_signal.specs.declared.values.Signal.{Signal}
use Rattle.sdl_transition_behaviour.specs.declared.step.Frame.{Frame}
use Rattle.sdl_listing_expression.specs.declared.syntax.Word.{Word}
use Rattle.sdl_listing_expression.specs.declared.syntax.Word.TheVariants.{SelfPid, Parent, Offspring, Sender}

pub record Scene : Type 0 where
  pub frame : Frame
  pub vars : List Value

abbrev pub parameters_of : Option Signal → List Value
parameters_of None = []
parameters_of (Some signal) = signal.params.items

-- the parameters of the signal consumed, and none of a start
abbrev pub parameters : Frame → List Value
parameters frame = parameters_of frame.signal

-- the Pid that the word names (Z.101, the Pid expressions)
abbrev pub own_of : Frame → Word → Pid
own_of frame SelfPid = frame.self_pid
own_of frame Parent = frame.parent
own_of frame Offspring = frame.offspring
own_of frame Sender = frame.sender

-- the value as an Integer, and 0 of any other
abbrev pub integer_in : Value → ℤ
integer_in (value.Integer n) = n
integer_in (value.Boolean _) = pos 0
integer_in (value.Pid _) = pos 0

-- the value as a Boolean, and false of any other
abbrev pub boolean_in : Value → Bool
boolean_in (value.Integer _) = false
boolean_in (value.Boolean b) = b
boolean_in (value.Pid _) = false

-- the value as a Pid, and null of any other
abbrev pub pid_in : Value → Pid
pid_in (value.Integer _) = Null
pid_in (value.Boolean _) = Null
pid_in (value.Pid p) = p

abbrev pub seen_as : Sort → Value → Value
seen_as sort.Integer v = value.Integer (integer_in v)
seen_as sort.Boolean v = value.Boolean (boolean_in v)
seen_as sort.Pid v = value.Pid (pid_in v)

-- the value seen as one of the sort, and its 0, false or null where there is none
abbrev pub of_sort : Sort → Option Value → Value
of_sort sort None = seen_as sort (value.Pid Null)
of_sort sort (Some v) = seen_as sort v

-- the serial number of an instance, and 0 of no instance
abbrev pub serial_of : Pid → ℤ
serial_of Null = pos 0
serial_of Env = pos 0
serial_of (Inst set serial) = pos serial

-- the instance of the set with the serial number, and null where no instance can have it
abbrev pub instance_at : SetId → ℤ → Pid
instance_at set (pos n) = if nat_lt 0 n && nat_lt n (2 ^ 32) then Inst set n else Null
instance_at set (negsuc _) = Null
