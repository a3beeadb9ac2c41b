use Rattle.std.proofs.Common.{rules, inr, map}
use Rattle.sdl_transition.specs.Rules.{block_rules}
use Rattle.sdl_transition.specs.Bound.{structure_of, routes_of, blocks_of}
use Rattle.sdl_run_driver.specs.Closings.{outcome_in}
use Rattle.sdl_app_file_runs.proofs.Told.{run_told, was_run, not_refused}
use Rattle.sdl_app_file_runs.proofs.running.run_with.Goals as goal

pub returns-in-Ok-clause-run : goal.returns-in-Ok-clause-run
returns-in-Ok-clause-run g c =
    inr (run_told g.S.Agents.may (structure_of c.args.bound) (routes_of c.args.bound) (map block_rules (blocks_of c.args.bound)) c.budget-budget.result
    (outcome_in g.K.LogStore.events c.in-Ok.closing) c.in-Ok.closing.end c.in-Ok.closing.ledger c.in-Ok.closing.input c.in-Ok.closing.output c.report_closing.result
    (search rules) c.in-Ok.ensures.ended c.in-Ok.ensures.stopped c.report_closing.ensures.status)

pub returns-in-Ok-clause-made : goal.returns-in-Ok-clause-made
returns-in-Ok-clause-made g c =
    inr (
      _,
      was_run g.S.Agents.may (structure_of c.args.bound) (routes_of c.args.bound) (map block_rules (blocks_of c.args.bound)) c.budget-budget.result _ _ _ _
          (outcome_in g.K.LogStore.events c.in-Ok.closing) c.in-Ok.closing.end c.in-Ok.closing.ledger c.in-Ok.closing.input c.in-Ok.closing.output c.report_closing.result
          (search rules) c.in-Ok.ensures.ended c.in-Ok.ensures.reading c.in-Ok.ensures.writing c.in-Ok.ensures.stopped c.report_closing.ensures.status,
      c.report_closing.ensures.no_books,
    )

pub returns-in-Ok-clause-refused : goal.returns-in-Ok-clause-refused
returns-in-Ok-clause-refused g c refused =
    absurd (not_refused c.in-Ok.closing.input c.in-Ok.closing.output c.in-Ok.closing.end c.report_closing.result c.report_closing.ensures.status refused)

pub returns-in-Ok-clause-silent : goal.returns-in-Ok-clause-silent
returns-in-Ok-clause-silent g c = c.report_closing.ensures.silent
