-- What the states of a behaviour save. (Z.101, save.)
use Rattle.std.specs.Prelude.{◌≡◌, ℕ, ◌<◌, Bool, false, ◌||◌, ◌&&◌, nat_eq, get_or, List, [], ◌∷◌}
use Rattle.std.specs.Int.{bit_at}
use Rattle.sdl_signal.specs.declared.ids.SignalId.{SignalId}
use Rattle.sdl_signal.specs.declared.ids.StateId.{StateId}
use Rattle.sdl_transition_saves.specs.declared.save.Save.{Save}
use Rattle.sdl_transition_saves.specs.declared.signal_set.SignalSet.{SignalSet}

-- the save is of this state and signal
abbrev pub is_save_of : Save → StateId → SignalId → Bool
is_save_of save q signal = nat_eq save.state.0 q.0 && nat_eq save.signal.0 signal.0

-- the state saves the signal, by one of these
abbrev pub saved_by : List Save → StateId → SignalId → Bool
saved_by [] q signal = false
saved_by (save ∷ saves) q signal = is_save_of save q signal || saved_by saves q signal

-- the signal is one of the set
abbrev pub holds : SignalSet → SignalId → Bool
holds set signal = nat_eq (bit_at set.bits signal.0) 1

abbrev pub no_signal : SignalSet
no_signal = record { bits = 0 }

-- for each state, by its number, the signals that it saves; a state past the sets saves none
abbrev pub AreSetsOf : List Save → List SignalSet → Type 0
AreSetsOf saves sets = (q : StateId) (signal : SignalId) → holds (get_or sets q.0 no_signal) signal ≡ saved_by saves q signal

-- the numbers of a save are those of a state and a signal that can be
abbrev pub IsInRange : Save → Type 0
IsInRange save = (save.state.0 < 16) × (save.signal.0 < 64)
