use Rattle.std.proofs.Common.{length}
use Rattle.sdl_transition_saves.proofs.state_saves.StateSaves.+of.Given as goal

abbrev pub decreases-of : goal.decreases-of
decreases-of l = length l.saves.now
