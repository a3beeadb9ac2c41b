use Rattle.std.proofs.Common.{take}
use Rattle.std.specs.Io.KnownBytes.{Appends}
use Rattle.sdl_chart_svg.specs.Texts.{texts_text}
use Rattle.sdl_chart_svg.proofs.texts.write_texts.Given as goal

abbrev pub invariant-loop-text : goal.invariant-loop-text
invariant-loop-text g l = Appends (g.W.Write.contents l.fn.output) (g.W.Write.contents l.output) (texts_text (take l.text-index l.texts))
