use Rattle.std.proofs.Common.{◌∙◌}
use Rattle.sdl_run_environment.proofs.EnvNext.{unrefused}
use Rattle.sdl_run_environment.proofs.environment.EnvWorker.step_serial.Goals as goal

pub returns-clause-hand : goal.returns-clause-hand
returns-clause-hand g c = λ not. (unrefused c.try_step.result c.try_step.ensures.on (λ e. not (c.answer_of.ensures ∙ e))).hand

pub returns-clause-read : goal.returns-clause-read
returns-clause-read g c = λ not. (unrefused c.try_step.result c.try_step.ensures.on (λ e. not (c.answer_of.ensures ∙ e))).read

pub returns-clause-taken : goal.returns-clause-taken
returns-clause-taken g c = λ not. (unrefused c.try_step.result c.try_step.ensures.on (λ e. not (c.answer_of.ensures ∙ e))).taken
