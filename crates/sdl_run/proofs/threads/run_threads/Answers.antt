use Rattle.sdl_run_driver.specs.Closings.{plan_of_bound}
use Rattle.sdl_run_serial.proofs.Listed.{writing_listed}
use Rattle.sdl_run.proofs.threads.run_threads.Goals as goal

pub returns-in-Ok-run_threads_keeping-clause-writing : goal.returns-in-Ok-run_threads_keeping-clause-writing
returns-in-Ok-run_threads_keeping-clause-writing g c =
    writing_listed c.in-Ok-run_threads_keeping.closing c.in_lists.result (plan_of_bound c.args.bound c.args.budget) _ _
    c.in_lists.ensures.writing.0 c.in_lists.ensures.writing.1 c.in-Ok-run_threads_keeping.ensures.writing
