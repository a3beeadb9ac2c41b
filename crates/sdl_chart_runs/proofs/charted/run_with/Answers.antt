use Rattle.std.proofs.Common.{List, rules, inr, map, subst}
use Rattle.sdl_structure_parts.specs.Structure.{Structure}
use Rattle.sdl_routes.specs.declared.route.TableRow.{TableRow}
use Rattle.sdl_transition.specs.Rules.{block_rules}
use Rattle.sdl_transition.specs.Bound.{structure_of, routes_of, blocks_of}
use Rattle.sdl_run_driver.specs.Closings.{outcome_in}
use Rattle.sdl_run_audit.proofs.Callers.{complete_again, routes_again}
use Rattle.sdl_chart_runs.specs.Charts.{HasToldChart}
use Rattle.sdl_chart_runs.proofs.Orderly.{orderly}
use Rattle.sdl_chart_runs.proofs.Told.{was_charted, not_one}
use Rattle.sdl_chart_runs.proofs.charted.run_with.Goals as goal

pub report_charted-requires-clause-routes : goal.report_charted-requires-clause-routes
report_charted-requires-clause-routes g c = routes_again c.args.bound c.in-Ok.closing.bound c.in-Ok.ensures.bound c.requires.bound.routes_are

pub report_charted-requires-clause-complete : goal.report_charted-requires-clause-complete
report_charted-requires-clause-complete g c =
    complete_again c.args.bound c.in-Ok.closing.bound c.budget-budget.result (outcome_in g.K.LogStore.events c.in-Ok.closing) c.in-Ok.ensures.bound c.in-Ok.ensures.ended.complete

pub report_charted-requires-clause-stored : goal.report_charted-requires-clause-stored
report_charted-requires-clause-stored g c = λ k d less. c.requires.stores _

pub report_charted-requires-clause-orderly : goal.report_charted-requires-clause-orderly
report_charted-requires-clause-orderly g c = orderly g.S.Agents.may _ (outcome_in g.K.LogStore.events c.in-Ok.closing) c.in-Ok.closing.end c.in-Ok.closing.ledger c.in-Ok.ensures.ended

pub returns-in-Ok-clause-made : goal.returns-in-Ok-clause-made
returns-in-Ok-clause-made g c =
    let v = c.in-Ok.closing in
    let told : HasToldChart (structure_of c.args.bound) (routes_of c.args.bound) c.args.to_chart.now.states c.args.to_chart.now.charting (outcome_in g.K.LogStore.events v) v.input v.end
    (g.W.Write.contents c.args.output.now) (g.W.Write.contents c.report_charted.new.output) c.report_charted.result =
    subst (λ (s : Structure). HasToldChart s (routes_of c.args.bound) c.args.to_chart.now.states c.args.to_chart.now.charting (outcome_in g.K.LogStore.events v) v.input v.end
    (g.W.Write.contents c.args.output.now) (g.W.Write.contents c.report_charted.new.output) c.report_charted.result) c.in-Ok.ensures.bound.0
    (subst (λ (routes : List TableRow). HasToldChart (structure_of v.bound) routes c.args.to_chart.now.states c.args.to_chart.now.charting (outcome_in g.K.LogStore.events v) v.input v.end
    (g.W.Write.contents c.args.output.now) (g.W.Write.contents c.report_charted.new.output) c.report_charted.result) c.in-Ok.ensures.bound.1 c.report_charted.ensures.told) in
    inr (was_charted g.S.Agents.may (structure_of c.args.bound) (routes_of c.args.bound) (map block_rules (blocks_of c.args.bound)) c.budget-budget.result
    c.args.to_chart.now.states c.args.to_chart.now.charting _ _ _ _
    (outcome_in g.K.LogStore.events v) v.end v.ledger v.input c.report_charted.result (search rules) c.in-Ok.ensures.ended c.in-Ok.ensures.reading c.in-Ok.ensures.stopped told)

pub returns-in-Ok-clause-refused : goal.returns-in-Ok-clause-refused
returns-in-Ok-clause-refused g c refused = absurd (not_one _ _ _ _ _ _ _ _ _ c.report_charted.result c.report_charted.ensures.told refused)
