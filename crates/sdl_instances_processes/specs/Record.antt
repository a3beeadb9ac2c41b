-- What a living instance is.
use Rattle.std.specs.Prelude.{◌≡◌, List, [], Option, None, Some, Bool, false, ◌||◌, is_none, is_some}
use Rattle.sdl_signal.specs.declared.ids.StateId.{StateId}
use Rattle.sdl_signal.specs.declared.ids.SignalId.{SignalId}
use Rattle.sdl_signal.specs.declared.values.Value.{Value}
use Rattle.sdl_signal.specs.declared.values.Item.{Item}
use Rattle.sdl_signal.specs.declared.values.Pid.{Pid}
use Rattle.sdl_signal.specs.declared.values.Pid.TheVariants as pid
use Rattle.sdl_transition_saves.specs.declared.save.Save.{Save}
use Rattle.sdl_transition_saves.specs.Saves.{holds, saved_by}
use Rattle.sdl_instances_processes.specs.Ports.{Held, next_in}

-- the state is None before the start transition; the port queues signals, the earliest first; what each state saves is the same
-- from the creation on
pub record Record : Type 0 where
  pub state : Option StateId
  pub vars : List Value
  pub port : List Item
  pub saves : List Save
  pub parent : Pid
  pub offspring : Pid
  pub sender : Pid

-- a new instance, not started
abbrev pub created_record : List Value → List Save → Pid → Record
created_record vars saves parent =
    record { state = None; vars = vars; port = []; saves = saves; parent = parent; offspring = pid.Null; sender = pid.Null }

-- the record after a signal of its port is consumed, the rest staying there
abbrev pub consumed : Record → Item → List Item → Record
consumed r i rest = record r { port = rest; sender = i.sender }

-- what is saved in the state; before the start nothing is
abbrev pub saved_in : List Save → Option StateId → SignalId → Bool
saved_in saves None = λ signal. false
saved_in saves (Some q) = saved_by saves q

abbrev pub saved_now : Record → SignalId → Bool
saved_now r = saved_in r.saves r.state

-- The port knows what is saved in the state; where it may not save, no state saves anything.
abbrev pub IsSavedNow : List Save → Option StateId → Held → Type 0
IsSavedNow saves state port =
    ((signal : SignalId) → holds port.current signal ≡ saved_in saves state signal)
    × (port.may_save ≡ false → (q : StateId) (signal : SignalId) → saved_by saves q signal ≡ false)

-- the first signal of a port that the state does not save; before the start none is looked for
abbrev pub front_in : List Save → Option StateId → List Item → Option Item
front_in saves None port = None
front_in saves (Some q) port = next_in (saved_by saves q) port

-- the signal that the next transition is for: the first of the port that the state does not save
abbrev pub front_of : Record → Option Item
front_of r = front_in r.saves r.state r.port

-- an instance is ready where it has not started, or its port has a signal that its state does not save
abbrev pub is_ready : Record → Bool
is_ready r = is_none r.state || is_some (front_of r)
