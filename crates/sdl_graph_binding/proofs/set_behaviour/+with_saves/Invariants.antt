use Rattle.std.proofs.Common.{length}
use Rattle.sdl_graph_binding.proofs.set_behaviour.+with_saves.Given as goal

abbrev pub decreases-with_saves : goal.decreases-with_saves
decreases-with_saves g l = length l.saves.now
