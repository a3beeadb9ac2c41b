use Rattle.std.proofs.Common.{rules, map}
use Rattle.sdl_transition.specs.Rules.{block_rules}
use Rattle.sdl_transition.specs.Bound.{structure_of, routes_of, blocks_of}
use Rattle.sdl_run_driver.specs.Closings.{outcome_in}
use Rattle.sdl_app_file_runs.proofs.Told.{was_run, not_refused}
use Rattle.sdl_run_audit.proofs.Callers.{complete_again, routes_again}
use Rattle.sdl_graph_program.proofs.Ended.{not_one}
use Rattle.sdl_graph_program.proofs.audited.try_run_with.Goals as goal

pub report_audited-requires-clause-routes : goal.report_audited-requires-clause-routes
report_audited-requires-clause-routes g c = routes_again c.args.bound c.in-Ok.closing.bound c.in-Ok.ensures.bound c.requires.bound.routes_are

pub report_audited-requires-clause-complete : goal.report_audited-requires-clause-complete
report_audited-requires-clause-complete g c =
    complete_again c.args.bound c.in-Ok.closing.bound c.budget-budget.result (outcome_in g.K.LogStore.events c.in-Ok.closing) c.in-Ok.ensures.bound c.in-Ok.ensures.ended.complete

pub returns-in-Ok-clause-made : goal.returns-in-Ok-clause-made
returns-in-Ok-clause-made g c =
    let t = c.report_audited.ensures.told in
    let rules_of = map block_rules (blocks_of c.args.bound) in (
      t.0,
      t.1,
      (
        _,
        was_run g.S.Agents.may (structure_of c.args.bound) (routes_of c.args.bound) rules_of c.budget-budget.result _ _ _ _
            (outcome_in g.K.LogStore.events c.in-Ok.closing) c.in-Ok.closing.end c.in-Ok.closing.ledger c.in-Ok.closing.input c.in-Ok.closing.output t.0
            (search rules) c.in-Ok.ensures.ended c.in-Ok.ensures.reading c.in-Ok.ensures.writing c.in-Ok.ensures.stopped t.2,
        t.3,
      ),
      t.4,
    )

pub returns-in-Ok-clause-started : goal.returns-in-Ok-clause-started
returns-in-Ok-clause-started g c refused =
    let t = c.report_audited.ensures.told in
    not_one _ _ t.0 c.report_audited.result (not_refused c.in-Ok.closing.input c.in-Ok.closing.output c.in-Ok.closing.end t.0 t.2) t.4 refused
