use Rattle.sdl_queue.proofs.Lines.{forks}
use Rattle.sdl_queue.proofs.ends.Tap.feed.Goals as goal

pub another-pass-requires-clause-rule : goal.another-pass-requires-clause-rule
another-pass-requires-clause-rule c = forks _ _ c.self.invariant.1.0
