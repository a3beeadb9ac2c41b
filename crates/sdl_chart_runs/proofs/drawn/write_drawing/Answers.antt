use Rattle.std.proofs.Common.{List, map, refl, subst}
use Rattle.sdl_signal.specs.declared.ids.SetId.{SetId}
use Rattle.sdl_chart_drawing.specs.Charts.{IsChartOf}
use Rattle.sdl_chart_runs.specs.Charts.{drawn_of, part_with}
use Rattle.sdl_chart_runs.proofs.drawn.write_drawing.Goals as goal

pub returns-in-Ok-clause-text : goal.returns-in-Ok-clause-text
returns-in-Ok-clause-text g c = λ whole.
    let v = c.args.chart.now in
    let lists = v.lists.now in
    let made = c.write_drawn.ensures whole in
    let drawn : IsChartOf (part_with (map g.K.LogStore.events lists.logs.now) lists.received.now lists.put.now (drawn_of v c.args.first c.args.past) c.args.charting.now.only.items) c.in-Ok.drawing =
    subst (λ (only : List SetId). IsChartOf (part_with (map g.K.LogStore.events lists.logs.now) lists.received.now lists.put.now (drawn_of v c.args.first c.args.past) only) c.in-Ok.drawing) c.as_slice.ensures.value c.in-Ok.ensures.whole in
    (_, (made.0, c.in-Ok.drawing, made.1, drawn, refl), made.2)
