use Rattle.std.proofs.Common.{length}
use Rattle.sdl_graph_binding.proofs.binding.+with_behaviours.Given as goal

abbrev pub decreases-with_behaviours : goal.decreases-with_behaviours
decreases-with_behaviours g l = length l.sets.now
