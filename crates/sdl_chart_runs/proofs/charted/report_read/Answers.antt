use Rattle.std.proofs.Common.{rules}
use Rattle.sdl_transition.specs.Bound.{structure_of, routes_of}
use Rattle.sdl_run_driver.specs.Closings.{outcome_in}
use Rattle.sdl_chart_runs.proofs.Told.{told_chart, told_refused}
use Rattle.sdl_chart_runs.proofs.charted.report_read.Goals as goal

pub returns-in-Ok-clause-told : goal.returns-in-Ok-clause-told
returns-in-Ok-clause-told g c =
    let v = c.args.closing in
    told_chart (structure_of v.bound) (routes_of v.bound) c.args.to_chart.now.states c.args.to_chart.now.charting (outcome_in g.K.LogStore.events v)
    v.input v.end c.in-Ok.end _ _ _ c.report_with.result c.report_with.ensures.told c.in-Ok.ensures.chart c.report_with.ensures.kept

pub returns-in-Err-clause-told : goal.returns-in-Err-clause-told
returns-in-Err-clause-told g c =
    let v = c.args.closing in
    told_refused (structure_of v.bound) (routes_of v.bound) c.args.to_chart.now.states c.args.to_chart.now.charting (outcome_in g.K.LogStore.events v)
    v.input v.end c.in-Err.fault _ _ c.in-Err.ensures.why (search (rules, c.report_with-in-Err.ensures.kept, c.in-Err.ensures.fault))
