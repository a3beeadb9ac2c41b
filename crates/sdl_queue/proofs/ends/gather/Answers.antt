use Rattle.sdl_queue.proofs.Lines.{merges}
use Rattle.sdl_queue.proofs.ends.gather.Goals as goal

pub absorb-requires-clause-rule : goal.absorb-requires-clause-rule
absorb-requires-clause-rule c = merges _ _ _ _ _ c.requires.pass.1 c.feed.invariant.1
