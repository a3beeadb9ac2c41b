use Rattle.std.proofs.Common.{◌≡◌, ℕ, length, get_or}
use Rattle.sdl_signal.specs.declared.ids.SignalId.{SignalId}
use Rattle.sdl_transition_saves.specs.Saves.{holds, no_signal}
use Rattle.sdl_transition_saves.proofs.state_saves.fill.Given as goal

abbrev pub invariant-loop : goal.invariant-loop
invariant-loop l =
    ((n : ℕ) (s : SignalId) → holds (get_or l.sets.items n no_signal) s ≡ holds (get_or l.fn.sets.items n no_signal) s)
    × (length l.sets.items ≡ l.counter)
