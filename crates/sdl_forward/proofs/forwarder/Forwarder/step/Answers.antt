use Rattle.sdl_forward.proofs.Sides.{carries_so}
use Rattle.sdl_forward.proofs.forwarder.Forwarder.step.Goals as goal

pub returns-clause-step : goal.returns-clause-step
returns-clause-step g c = (carries_so c.args.routes.now c.args.self.now c.args.ends.now c.step_over.result c.step_over.new.self c.step_over.new.queues c.step_over.ensures).0

pub returns-clause-ends : goal.returns-clause-ends
returns-clause-ends g c = (carries_so c.args.routes.now c.args.self.now c.args.ends.now c.step_over.result c.step_over.new.self c.step_over.new.queues c.step_over.ensures).1
