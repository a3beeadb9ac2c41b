use Rattle.std.proofs.Common.{take}
use Rattle.std.specs.Io.KnownBytes.{Appends}
use Rattle.sdl_chart_svg.specs.Lifelines.{names_text}
use Rattle.sdl_chart_svg.proofs.lifelines.write_names.Given as goal

abbrev pub invariant-loop-y : goal.invariant-loop-y
invariant-loop-y g l = Appends (g.W.Write.contents l.fn.output) (g.W.Write.contents l.output) (names_text l.lines (take l.y-index l.heights))
