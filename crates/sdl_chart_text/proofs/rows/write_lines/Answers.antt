use Rattle.std.proofs.Common.{ℕ, List, map, sym, subst}
use Rattle.std.specs.Io.KnownBytes.{Appends}
use Rattle.std.proofs.KnownBytes.{Appends-trans}
use Rattle.sdl_chart_page.specs.declared.page.Row.{Row}
use Rattle.sdl_chart_text.specs.Legends.{legend_of}
use Rattle.sdl_chart_text.specs.Rows.{line_text}
use Rattle.sdl_chart_text.proofs.Written.{gathered_more}
use Rattle.sdl_chart_text.proofs.rows.write_lines.Goals as goal

pub loop-index-preserved : goal.loop-index-preserved
loop-index-preserved g c =
    let v = c.args.chart.now in
    let line : ℕ → Row → List ℕ = line_text (legend_of g.K.LogStore.events v) (map g.K.LogStore.events v.lists.now.logs.now) v.lists.now.received.now v.lists.now.put.now in
    subst (Appends (g.W.Write.contents c.args.output.now) (g.W.Write.contents c.write_line.new.output))
    (sym (gathered_more line c.args.first c.loop-index.index c.args.rows.now _ c.loop-index-test.true))
    (Appends-trans _ _ _ _ _ c.loop-index.invariant c.in_ok-write_line.ensures)
