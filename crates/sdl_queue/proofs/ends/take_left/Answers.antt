use Rattle.sdl_queue.proofs.Lines.{settles, settled_takes}
use Rattle.sdl_queue.proofs.Opens.{took_left}
use Rattle.sdl_queue.proofs.ends.take_left.Goals as goal

pub pop_as-requires-clause-rule : goal.pop_as-requires-clause-rule
pop_as-requires-clause-rule g c = (settled_takes _ _ c.requires.pass.1, settles _ _ c.requires.pass.1)

pub returns : goal.returns
returns g c = let t = took_left _ c.pop_as.result _ _ c.requires.pass.1 c.pop_as.ensures.rule in record { pass = (c.pop_as.ensures.queue.0, t.0); left = t.1 }
