use Rattle.sdl_chart_drawing.specs.Traffic.{outputs_put}
use Rattle.sdl_chart_drawing.proofs.RowByRow.{none_more, all_at_past}
use Rattle.sdl_chart_drawing.proofs.traffic.add_put_at.Goals as goal

pub returns-in-None : goal.returns-in-None
returns-in-None c = none_more _ _ (all_at_past (outputs_put c.args.number) c.args.puts.now c.args.place c.in-None.ensures.none)
