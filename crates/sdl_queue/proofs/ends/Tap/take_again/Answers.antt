use Rattle.sdl_queue.proofs.Lines.{takes}
use Rattle.sdl_queue.proofs.ends.Tap.take_again.Goals as goal

pub pop_as-requires-clause-rule : goal.pop_as-requires-clause-rule
pop_as-requires-clause-rule g c = (takes _ _ c.self.invariant.1.0, λ items views r at. tt)
