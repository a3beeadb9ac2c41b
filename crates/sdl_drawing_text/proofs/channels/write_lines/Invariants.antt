use Rattle.std.proofs.Common.{take}
use Rattle.std.specs.Io.KnownBytes.{Appends}
use Rattle.sdl_drawing_text.specs.Channels.{lines_text}
use Rattle.sdl_drawing_text.proofs.channels.write_lines.Given as goal

abbrev pub invariant-loop-line : goal.invariant-loop-line
invariant-loop-line g l = Appends (g.W.Write.contents l.fn.output) (g.W.Write.contents l.output) (lines_text l.structure (take l.line-index l.line-items))
