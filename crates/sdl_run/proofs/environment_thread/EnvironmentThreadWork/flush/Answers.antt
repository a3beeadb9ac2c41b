use Rattle.sdl_run.proofs.Environments.{flushed}
use Rattle.sdl_run.proofs.environment_thread.EnvironmentThreadWork.flush.Goals as goal

pub returns-clause-keeps : goal.returns-clause-keeps
returns-clause-keeps g c = λ structure rows h.
    flushed structure rows c.args.self.now.environment.now.worker c.args.self.now.environment.now.astray c.args.self.now.ends c.flush.new.self _ _ _ _ c.flush.ensures.put c.flush.ensures.tap c.flush.ensures.same h
