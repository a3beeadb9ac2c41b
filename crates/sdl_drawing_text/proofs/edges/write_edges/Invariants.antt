use Rattle.std.proofs.Common.{take}
use Rattle.sdl_drawing_text.specs.Written.{Adds}
use Rattle.sdl_drawing_text.specs.Dot.{AreEdges}
use Rattle.sdl_drawing_text.proofs.edges.write_edges.Given as goal

abbrev pub invariant-loop-channel : goal.invariant-loop-channel
invariant-loop-channel g l = Adds (AreEdges l.structure (take l.channel-index l.channels)) (g.W.Write.contents l.fn.output) (g.W.Write.contents l.output)
