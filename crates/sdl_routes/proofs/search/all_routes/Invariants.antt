use Rattle.std.proofs.Common.{[], ◌∷◌}
use Rattle.sdl_routes.specs.Collected.{HasCollected}
use Rattle.sdl_routes.proofs.search.all_routes.Given as goal

abbrev pub invariant-loop-signal_number : goal.invariant-loop-signal_number
invariant-loop-signal_number l = HasCollected l.structure (l.signal_number ∷ []) l.collected

abbrev pub invariant-loop-number : goal.invariant-loop-number
invariant-loop-number l = HasCollected l.structure (l.signal_number ∷ l.number ∷ []) l.collected
