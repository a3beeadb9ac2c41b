use Rattle.std.proofs.Common.{take}
use Rattle.std.specs.Io.KnownBytes.{Appends}
use Rattle.sdl_chart_svg.specs.Shapes.{shapes_text}
use Rattle.sdl_chart_svg.proofs.shapes.write_shapes.Given as goal

abbrev pub invariant-loop-shape : goal.invariant-loop-shape
invariant-loop-shape g l = Appends (g.W.Write.contents l.fn.output) (g.W.Write.contents l.output) (shapes_text (take l.shape-index l.shapes))
