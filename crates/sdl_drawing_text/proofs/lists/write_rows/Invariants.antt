use Rattle.std.proofs.Common.{take}
use Rattle.std.specs.Io.KnownBytes.{Appends}
use Rattle.sdl_drawing_text.specs.Lists.{rows_text}
use Rattle.sdl_drawing_text.proofs.lists.write_rows.Given as goal

abbrev pub invariant-loop-row : goal.invariant-loop-row
invariant-loop-row g l = Appends (g.W.Write.contents l.fn.output) (g.W.Write.contents l.output) (rows_text l.structure (take l.row-index l.row-items))
