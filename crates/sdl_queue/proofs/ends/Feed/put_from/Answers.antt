use Rattle.sdl_queue.proofs.Lines.{pushes}
use Rattle.sdl_queue.proofs.ends.Feed.put_from.Goals as goal

pub push_as-requires-clause-rule : goal.push_as-requires-clause-rule
push_as-requires-clause-rule g c n = pushes n _ _ _ c.self.invariant.1
