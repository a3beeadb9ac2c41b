use Rattle.sdl_forward.proofs.Handing.{stays}
use Rattle.sdl_run_threads.proofs.workers.ForwarderThreadWork.step.Goals as goal

pub returns-in-Moved-clause-keeps : goal.returns-in-Moved-clause-keeps
returns-in-Moved-clause-keeps g c = stays c.args.routes.now c.args.self.now.forwarder c.step.new.self c.args.self.now.ends c.step.new.ends c.step.result c.requires c.step.ensures.step c.step.ensures.ends

pub returns-in-Idle-clause-keeps : goal.returns-in-Idle-clause-keeps
returns-in-Idle-clause-keeps g c = stays c.args.routes.now c.args.self.now.forwarder c.step.new.self c.args.self.now.ends c.step.new.ends c.step.result c.requires c.step.ensures.step c.step.ensures.ends

pub returns-in-Held-clause-keeps : goal.returns-in-Held-clause-keeps
returns-in-Held-clause-keeps g c = stays c.args.routes.now c.args.self.now.forwarder c.step.new.self c.args.self.now.ends c.step.new.ends c.step.result c.requires c.step.ensures.step c.step.ensures.ends
