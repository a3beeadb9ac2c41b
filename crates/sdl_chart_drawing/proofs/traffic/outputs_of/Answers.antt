use Rattle.std.proofs.Common.{ℕ, List, map, refl}
use Rattle.sdl_chart_page.specs.declared.page.Row.{Row}
use Rattle.sdl_chart_drawing.specs.declared.traffic.Output.{Output}
use Rattle.sdl_chart_drawing.specs.Traffic.{outputs_at}
use Rattle.sdl_chart_drawing.proofs.RowByRow.{rows_next}
use Rattle.sdl_chart_drawing.proofs.traffic.outputs_of.Goals as goal

pub loop-index-preserved : goal.loop-index-preserved
loop-index-preserved g c =
    let v = c.args.lists.now in
    let f : ℕ → Row → List Output = outputs_at (map g.K.LogStore.events v.logs.now) v.put.now in
    rows_next f c.args.first c.loop-index.index _ c.args.rows.now _ _ _ c.loop-index-test.true refl c.loop-index.invariant c.in_ok-add_outputs.ensures
