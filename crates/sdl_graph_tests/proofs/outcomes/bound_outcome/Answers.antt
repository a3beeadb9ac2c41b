use Rattle.std.proofs.Common.{arith}
use Rattle.sdl_transition.proofs.Places.{indexed_at}
use Rattle.sdl_graph_tests.proofs.outcomes.bound_outcome.Goals as goal

pub find-found-requires : goal.find-found-requires
find-found-requires g c =
    let system = c.into_blocks-checked-2.ensures.system c.of_blocks-again.ensures.bound in
    indexed_at c.into_blocks-checked-2.result.0 system.behaviours c.into_blocks-checked-2.result.2.items 0 c.index.result.now system.distributed (omega arith) c.index.ensures
