use Rattle.std.proofs.Common.{List, length, refl, ap}
use Rattle.sdl_chart_page.specs.declared.page.Row.{Row}
use Rattle.sdl_chart_runs.proofs.Written.{on_whole}
use Rattle.sdl_chart_runs.proofs.drawn.write_drawn.Goals as goal

pub returns : goal.returns
returns g c = λ whole. (
  record { system = c.system.result; events = length c.rows.result.now; first = c.args.first; past = c.args.past },
  (c.system.ensures, ap (λ (rows : List Row). length rows) c.rows.ensures, refl, refl),
  on_whole c.write_chart_svg-written.result _ c.write_chart_svg-written.ensures (c.end_of.ensures whole),
)
