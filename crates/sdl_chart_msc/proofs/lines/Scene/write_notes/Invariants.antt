use Rattle.std.proofs.Common.{flat_map, take}
use Rattle.std.specs.Io.KnownBytes.{Appends}
use Rattle.sdl_chart_msc.specs.Lines.{script_of, note_text}
use Rattle.sdl_chart_msc.proofs.lines.Scene.write_notes.Given as goal

abbrev pub invariant-loop-out : goal.invariant-loop-out
invariant-loop-out g l = Appends (g.W.Write.contents l.fn.output) (g.W.Write.contents l.output) (flat_map (note_text (script_of l.self)) (take l.out-index l.put))
