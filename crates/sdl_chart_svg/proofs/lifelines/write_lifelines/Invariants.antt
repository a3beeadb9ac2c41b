use Rattle.std.proofs.Common.{take}
use Rattle.std.specs.Io.KnownBytes.{Appends}
use Rattle.sdl_chart_svg.specs.Lifelines.{lifelines_text}
use Rattle.sdl_chart_svg.proofs.lifelines.write_lifelines.Given as goal

abbrev pub invariant-loop-line : goal.invariant-loop-line
invariant-loop-line g l = Appends (g.W.Write.contents l.fn.output) (g.W.Write.contents l.output) (lifelines_text (take l.line-index l.lines))
