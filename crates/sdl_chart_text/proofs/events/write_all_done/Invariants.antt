use Rattle.std.proofs.Common.{flat_map, take}
use Rattle.std.specs.Io.KnownBytes.{Appends}
use Rattle.sdl_chart_text.specs.Legends.{legend_of}
use Rattle.sdl_chart_text.specs.Rows.{done_text}
use Rattle.sdl_chart_text.proofs.events.write_all_done.Given as goal

abbrev pub invariant-loop-done : goal.invariant-loop-done
invariant-loop-done g l = Appends (g.W.Write.contents l.fn.output) (g.W.Write.contents l.output) (flat_map (done_text (legend_of g.K.LogStore.events l.chart)) (take l.done-index l.all))
