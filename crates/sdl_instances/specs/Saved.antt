-- Signals that are saved. (Z.101, save.)
use Rattle.std.specs.Prelude.{◌≡◌, Some, false}
use Rattle.sdl_signal.specs.declared.ids.StateId.{StateId}
use Rattle.sdl_signal.specs.declared.values.Pid.{Pid}
use Rattle.sdl_signal.specs.declared.values.Item.{Item}
use Rattle.sdl_transition_saves.specs.Saves.{saved_by}
use Rattle.sdl_instances_processes.specs.Record.{Record}
use Rattle.sdl_instances.specs.Machine.{State, LivesAs}

-- p lives in a state that does not save the item's signal
abbrev pub IsUnsavedBy : Pid → Item → State → Type 0
IsUnsavedBy p i s = (r : Record) × (q : StateId) × LivesAs s p r × (r.state ≡ Some q) × (saved_by r.saves q i.signal.id ≡ false)
