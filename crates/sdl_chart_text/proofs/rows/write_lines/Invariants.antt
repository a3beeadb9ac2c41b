use Rattle.std.proofs.Common.{take, map}
use Rattle.std.specs.Io.KnownBytes.{Appends}
use Rattle.sdl_chart_text.specs.Legends.{legend_of}
use Rattle.sdl_chart_text.specs.Rows.{line_text, gathered_from}
use Rattle.sdl_chart_text.proofs.rows.write_lines.Given as goal

abbrev pub invariant-loop-index : goal.invariant-loop-index
invariant-loop-index g l =
    Appends (g.W.Write.contents l.fn.output) (g.W.Write.contents l.output)
    (gathered_from (line_text (legend_of g.K.LogStore.events l.chart) (map g.K.LogStore.events l.chart.lists.now.logs.now) l.chart.lists.now.received.now l.chart.lists.now.put.now) l.first (take l.index l.rows))
