use Rattle.std.proofs.Common.{length}
use Rattle.sdl_graph_binding.proofs.set_behaviour.+with_uses.Given as goal

abbrev pub decreases-with_uses : goal.decreases-with_uses
decreases-with_uses g l = length l.uses.now
