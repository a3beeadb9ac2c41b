use Rattle.std.proofs.Common.{length}
use Rattle.sdl_graph_binding.proofs.set_behaviour.+with_states.Given as goal

abbrev pub decreases-with_states : goal.decreases-with_states
decreases-with_states l = length l.texts.now
