use Rattle.std.proofs.Common.{flat_map, take}
use Rattle.std.specs.Io.KnownBytes.{Appends}
use Rattle.sdl_chart_msc.specs.Lines.{script_of, done_text}
use Rattle.sdl_chart_msc.proofs.lines.Scene.write_all_done.Given as goal

abbrev pub invariant-loop-done : goal.invariant-loop-done
invariant-loop-done g l = Appends (g.W.Write.contents l.fn.output) (g.W.Write.contents l.output) (flat_map (done_text (script_of l.self)) (take l.done-index l.all))
