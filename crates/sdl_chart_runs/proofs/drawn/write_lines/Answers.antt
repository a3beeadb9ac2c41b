use Rattle.std.proofs.Common.{refl}
use Rattle.sdl_chart_runs.proofs.Written.{on_whole}
use Rattle.sdl_chart_runs.proofs.drawn.write_lines.Goals as goal

pub returns : goal.returns
returns g c = record { text = λ charting whole. (_, refl, on_whole c.write_chart-written.result _ c.write_chart-written.ensures (c.end_of.ensures whole)) }
