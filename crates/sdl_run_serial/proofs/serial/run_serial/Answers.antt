use Rattle.sdl_run_outcome.specs.Lists.{items_in}
use Rattle.sdl_run_driver.specs.Closings.{plan_of_bound}
use Rattle.sdl_run_serial.proofs.Listed.{run_listed, writing_listed}
use Rattle.sdl_run_serial.proofs.serial.run_serial.Goals as goal

pub returns-in-Ok-run_keeping-clause-run : goal.returns-in-Ok-run_keeping-clause-run
returns-in-Ok-run_keeping-clause-run g c =
    run_listed c.in-Ok-run_keeping.closing c.in_lists.result g.S.Agents.may (plan_of_bound c.args.bound c.args.budget) c.args.schedule.now (λ log. log.events) items_in
    c.in_lists.ensures.outcome c.in_lists.ensures.end.0 c.in-Ok-run_keeping.ensures.run

pub returns-in-Ok-run_keeping-clause-writing : goal.returns-in-Ok-run_keeping-clause-writing
returns-in-Ok-run_keeping-clause-writing g c =
    writing_listed c.in-Ok-run_keeping.closing c.in_lists.result (plan_of_bound c.args.bound c.args.budget) _ _
    c.in_lists.ensures.writing.0 c.in_lists.ensures.writing.1 c.in-Ok-run_keeping.ensures.writing
