use Rattle.std.proofs.Common.{◌≡◌}
use Rattle.arrayvec.specs.ArrayVec.{array_vec_len}
use Rattle.sdl_graph.specs.Lists.{states_below}
use Rattle.sdl_graph.proofs.lists.states_to.Given as goal

abbrev pub invariant-loop-number : goal.invariant-loop-number
invariant-loop-number l = (array_vec_len l.made ≡ l.number) × (l.made.items ≡ states_below l.number)
