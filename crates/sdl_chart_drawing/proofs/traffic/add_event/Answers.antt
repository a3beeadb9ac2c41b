use Rattle.sdl_chart_drawing.specs.Traffic.{outputs_in}
use Rattle.sdl_chart_drawing.proofs.RowByRow.{none_more, all_at_past}
use Rattle.sdl_chart_drawing.proofs.traffic.add_event.Goals as goal

pub returns-in-None : goal.returns-in-None
returns-in-None g c =
    none_more _ _ (all_at_past (outputs_in c.args.number) (g.K.LogStore.events c.args.log.now) c.args.place (c.in-None.ensures.none c.requires))
