-- The tables of small systems: what each of their transitions does. No set has variables, and every set but that of Hold has the
-- one state idle.
use Rattle.std.specs.Prelude.{◌≡◌, ℕ, zero, suc, List, [], ◌∷◌, ℤ, pos, ◌+ℤ◌, int_lt, Option, Some, None, if◌then◌else◌}
use Rattle.sdl_signal.specs.declared.values.Value.{Value}
use Rattle.sdl_signal.specs.declared.values.Value.TheVariants as value
use Rattle.sdl_signal.specs.declared.values.Pid.{Pid}
use Rattle.sdl_signal.specs.declared.values.Signal.{Signal}
use Rattle.sdl_routes.specs.declared.route.Via.TheVariants as via
use Rattle.sdl_transition_behaviour.specs.declared.step.Frame.{Frame}
use Rattle.sdl_transition_behaviour.specs.declared.step.Dest.{Dest}
use Rattle.sdl_transition_behaviour.specs.declared.step.Dest.TheVariants as dest
use Rattle.sdl_transition_behaviour.specs.declared.step.Action.{Action}
use Rattle.sdl_transition_behaviour.specs.declared.step.Action.TheVariants.{Output, Create}
use Rattle.sdl_transition_behaviour.specs.declared.step.Next.TheVariants.{State, Stop}
use Rattle.sdl_transition_behaviour.specs.declared.step.Step.{Step}

-- the step does these actions, and leads to idle
pub record LeadsToIdle (done : List Action) (step : Step) : Type 0 where
  pub actions : step.actions.items ≡ done
  pub vars : step.vars.items ≡ []
  pub next : step.next ≡ State (record { 0 = 0 })

-- the step does nothing, and the instance stops
pub record Stops (step : Step) : Type 0 where
  pub actions : step.actions.items ≡ []
  pub vars : step.vars.items ≡ []
  pub next : step.next ≡ Stop

-- an output of the signal with these values
abbrev pub output : ℕ → List Value → Dest → Action
output signal values to = Output (record { id = record { 0 = signal }; params = record { items = values } }) to via.Any

-- an output of the signal with one Integer, to anywhere
abbrev pub output_integer : ℕ → ℤ → List Action
output_integer signal n = output signal (value.Integer n ∷ []) dest.Anywhere ∷ []

-- the values of the signal consumed, none for a start
abbrev pub values_of : Option Signal → List Value
values_of None = []
values_of (Some consumed) = consumed.params.items

-- an output of the other signal with the Integer of the signal consumed
abbrev pub forwarded_values : ℕ → List Value → List Action
forwarded_values signal (value.Integer n ∷ []) = output_integer signal n
forwarded_values signal _ = []

abbrev pub forwarded : ℕ → Option Signal → List Action
forwarded signal consumed = forwarded_values signal (values_of consumed)

-- Echo: the start, and on `ping(n)` an output of `pong(n)`
abbrev pub EchoMay : ℕ → Frame → Step → Type 0
EchoMay zero frame step = LeadsToIdle [] step
EchoMay (suc zero) frame step = LeadsToIdle (forwarded 1 frame.signal) step
EchoMay _ frame step = ⊥

-- Relay: the start, on `put(n)` an output of `num(n)`, and on `num(n)` an output of `out(n)`
abbrev pub RelayMay : ℕ → Frame → Step → Type 0
RelayMay zero frame step = LeadsToIdle [] step
RelayMay (suc zero) frame step = LeadsToIdle (forwarded 1 frame.signal) step
RelayMay (suc (suc zero)) frame step = LeadsToIdle (forwarded 2 frame.signal) step
RelayMay _ frame step = ⊥

-- Spawn's Boss: on `make` a create of a Kid and an output of `hello` to it; on `kill(p)` an output of `die` to p; on
-- `query(n)` an output of `reply(n)` to the sender
abbrev pub made : List Action
made = Create (record { 0 = 1 }) ∷ output 3 [] dest.Offspring ∷ []

abbrev pub killed : List Value → List Action
killed (value.Pid p ∷ []) = output 4 [] (dest.Pid p) ∷ []
killed _ = []

abbrev pub replied : List Value → List Action
replied (value.Integer n ∷ []) = output 6 (value.Integer n ∷ []) dest.Sender ∷ []
replied _ = []

-- and its Kid: on `ask(n)` an output of `query(n)`, on `hello` an output of `born(SELF)`, on `reply(n)` an output of
-- `answer(SELF, n)`, and on `die` a stop
abbrev pub born : Pid → List Action
born self = output 7 (value.Pid self ∷ []) dest.Anywhere ∷ []

abbrev pub answered : Pid → List Value → List Action
answered self (value.Integer n ∷ []) = output 8 (value.Pid self ∷ value.Integer n ∷ []) dest.Anywhere ∷ []
answered self _ = []

-- the number of a transition of Spawn
abbrev pub SpawnMay : ℕ → Frame → Step → Type 0
SpawnMay zero frame step = LeadsToIdle [] step
SpawnMay (suc zero) frame step = LeadsToIdle made step
SpawnMay (suc (suc zero)) frame step = LeadsToIdle (killed (values_of frame.signal)) step
SpawnMay (suc (suc (suc zero))) frame step = LeadsToIdle (replied (values_of frame.signal)) step
SpawnMay (suc (suc (suc (suc zero)))) frame step = LeadsToIdle (forwarded 5 frame.signal) step
SpawnMay (suc (suc (suc (suc (suc zero))))) frame step = LeadsToIdle (born frame.self_pid) step
SpawnMay (suc (suc (suc (suc (suc (suc zero)))))) frame step = LeadsToIdle (answered frame.self_pid (values_of frame.signal)) step
SpawnMay (suc (suc (suc (suc (suc (suc (suc zero))))))) frame step = Stops step
SpawnMay _ frame step = ⊥

-- Ring: X's start with an output of `tok(0)`, and Y's start; on `tok(n)` an output of `tok(n + 1)`, or of `tok(0)` where n
-- is the greatest Integer
abbrev pub next_token : ℤ → ℤ
next_token n = if int_lt n (pos 9223372036854775807) then n +ℤ pos 1 else pos 0

abbrev pub passed_on : List Value → List Action
passed_on (value.Integer n ∷ []) = output_integer 0 (next_token n)
passed_on _ = []

abbrev pub RingMay : ℕ → Frame → Step → Type 0
RingMay zero frame step = LeadsToIdle (output_integer 0 (pos 0)) step
RingMay (suc zero) frame step = LeadsToIdle [] step
RingMay (suc (suc zero)) frame step = LeadsToIdle (passed_on (values_of frame.signal)) step
RingMay _ frame step = ⊥

-- the step does these actions, and leads to the state
pub record LeadsTo (state : ℕ) (done : List Action) (step : Step) : Type 0 where
  pub actions : step.actions.items ≡ done
  pub vars : step.vars.items ≡ []
  pub next : step.next ≡ State (record { 0 = state })

-- Hold: the start leads to wait, on `go` to run, on `data(n)` an output of `out(n)` in run, and on `halt` to wait
abbrev pub HoldMay : ℕ → Frame → Step → Type 0
HoldMay zero frame step = LeadsTo 0 [] step
HoldMay (suc zero) frame step = LeadsTo 1 [] step
HoldMay (suc (suc zero)) frame step = LeadsTo 1 (forwarded 3 frame.signal) step
HoldMay (suc (suc (suc zero))) frame step = LeadsTo 0 [] step
HoldMay _ frame step = ⊥
